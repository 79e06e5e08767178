-- What a log keeps of a call. What an end wrote names that end and its receiver, be the numbers in it in range or not; so
-- it does in the log of every run within the premises.
use mathlib.Core.Path.{◌≡◌, refl, sym, ap, ◌∙◌, subst}
use mathlib.Core.List.Memᴰ
use mathlib.Core.List.{List, [], ◌∷◌}
use mathlib.Core.Logic.{⊎_elim}
use Prim.Native.Nat.{ℕ, suc, ◌+◌, ◌<◌}
use native.Mathlib.Omega.{arith}
use lib.ListN.{length, drop}
use lib.Seq.{drop-drop}
use Rattle.flow.specs.declared.Rule.{Rule}
use Rattle.message.specs.Keys.{key_at}
use Rattle.message.specs.Reading.{decode}
use Rattle.message.specs.Writing.{encode}
use Rattle.message.specs.declared.End.TheVariants as ends
use Rattle.message.specs.declared.Message.TheVariants.{Event, Share, Acknowledgement}
use Rattle.message.proofs.Ends.{decode-event, decode-share, decode-acknowledgement}
use Rattle.message.proofs.Lengths.{encode-length}
use Rattle.switch.specs.Calls as switch-calls
use Rattle.switch.specs.Calls.{writes}
use Rattle.switch.specs.Writing.{Kind, event, acknowledgement, message_for, is_there, message_written}
use Rattle.switch.specs.declared.Switch.{Switch}
use Rattle.switch.proofs.Sent.{sent-bytes}
use Rattle.controller.specs.Calls as controller-calls
use Rattle.controller.specs.Calls.{writes_share}
use Rattle.controller.specs.Writing.{share_of, share_written}
use Rattle.controller.proofs.Sent.{allowed, share-bytes}
use Rattle.protocol.specs.Runs.{run}
use Rattle.domain.specs.Settings.{Setting, Valid, Keeps, switch_keys, controller_keys}
use Rattle.domain.specs.Calls.{Call, at_switch, at_controller, Done, Run, start, step}
use Rattle.domain.specs.Calls.{switch_writes, controller_writes}
use Rattle.domain.specs.Premises.{SwitchWrote, ControllerWrote, FromSwitch, FromController, Premises}
use Rattle.domain.specs.Premises as premises
use Rattle.domain.proofs.Reached.{Reached, run-keeps}

-- the bytes of each kind of message
module _ (key : List ℕ) where
  pub share_named : (c s k : ℕ) (rule : Rule) → FromController c s (decode ends.Switch (encode key (Share c s k rule)))
  share_named c s k rule = rw (decode-share _ (encode-length key (Share c s k rule)) refl) premises.share

  event_named : (s c serial cause : ℕ)
      → FromSwitch s c (decode ends.Controller (encode key (Event s c serial cause)))
  event_named s c serial cause = rw (decode-event _ (encode-length key (Event s c serial cause)) refl) premises.event

  acknowledgement_named : (s c k : ℕ) → FromSwitch s c (decode ends.Controller (encode key (Acknowledgement s c k)))
  acknowledgement_named s c k =
      rw (decode-acknowledgement _ (encode-length key (Acknowledgement s c k)) refl) premises.acknowledgement

  message_named : (kind : Kind) (t : Switch) (c : ℕ)
      → FromSwitch t.id c (decode ends.Controller (encode key (message_for kind t c)))
  message_named event t c = event_named t.id c t.raised.serial t.raised.cause
  message_named acknowledgement t c = acknowledgement_named t.id c t.last

-- what a log keeps of a call
abbrev pub entry : Call → ℕ → List ℕ → Done
entry x answer written = record { call = x; answer = answer; written = written }

module _ (S : Setting) where
  -- the entry of the latest call
  abbrev pub latest : Run → Call → Done
  latest r (at_switch s x) =
      entry (at_switch s x) (switch-calls.reply_to (switch_keys S s) (r.switches s) x).answer
      (switch_writes (switch_keys S s) (r.switches s) x)
  latest r (at_controller c x) =
      entry (at_controller c x) (controller-calls.reply_to (controller_keys S c) (r.controllers c) x).answer
      (controller_writes (controller_keys S c) (r.controllers c) x)

  pub logged : (r : Run) (x : Call) → (step S r x).log ≡ latest r x ∷ r.log
  unfolding step
  logged r (at_switch s x) = refl
  logged r (at_controller c x) = refl

  latest_call : (r : Run) (x : Call) → (latest r x).call ≡ x
  latest_call r (at_switch s x) = refl
  latest_call r (at_controller c x) = refl

  -- a call adds one entry
  pub log-before : (r : Run) (xs : List Call) → drop (length xs) (run (step S) r xs).log ≡ r.log
  log-before r [] = refl
  log-before r (x ∷ xs) =
      let log = (run (step S) (step S r x) xs).log in
      let more : suc (length xs) ≡ length xs + 1 = omega arith in
      ap (λ (n : ℕ). drop n log) more
      ∙ sym (drop-drop 1 (length xs) log)
      ∙ ap (drop 1) (log-before (step S r x) xs ∙ logged r x)

  -- what was written so far names its sender and receiver
  pub record Named (log : List Done) : Type 0 where
    pub shares : (c s : ℕ) (bytes : List ℕ) → Keeps S c → ControllerWrote log c s bytes
        → FromController c s (decode ends.Switch bytes)
    pub switches : (s c : ℕ) (bytes : List ℕ) → s < 16 → SwitchWrote log s c bytes
        → FromSwitch s c (decode ends.Controller bytes)

  module _ (r : Run) (R : Reached S r) (frame : List ℕ) (at : ℕ) where
    -- a writing answered 0
    pub share-wrote : (c s : ℕ) → Keeps S c
        → (share_written (r.controllers c) (controller_keys S c) s frame at).0.answer ≡ 0
        → FromController c s (decode ends.Switch
        (controller_writes (controller_keys S c) (r.controllers c) (writes_share s frame at)))
    share-wrote c s keeps e =
        let t = r.controllers c in
        let a = allowed t (controller_keys S c) s frame at e in
        let u = a.change in
        let key = key_at (controller_keys S c) s in
        let is : controller_writes (controller_keys S c) t (writes_share s frame at)
        ≡ encode key (Share c s u.number u.rule) =
        share-bytes t (controller_keys S c) s frame at e
        ∙ ap (λ x. encode key (share_of t.id s x)) a.ready
        ∙ ap (λ (i : ℕ). encode key (Share i s u.number u.rule)) (R.controllers c keeps).id in
        rw is (share_named key c s u.number u.rule)

    pub switch-wrote : (kind : Kind) (s c : ℕ) → s < 16
        → (message_written kind (r.switches s) (switch_keys S s) c frame at).0.answer ≡ 0
        → FromSwitch s c (decode ends.Controller
        (switch_writes (switch_keys S s) (r.switches s) (writes kind c frame at)))
    switch-wrote kind s c l e =
        let t = r.switches s in
        let key = key_at (switch_keys S s) c in
        rw (sent-bytes t (switch_keys S s) c (message_for kind t c) (is_there kind t) frame at e)
        (subst (λ (i : ℕ). FromSwitch i c (decode ends.Controller (encode key (message_for kind t c)))) (R.switches s l).id
        (message_named key kind t c))

  module _ (r : Run) (R : Reached S r) where
    -- an entry of the log that is the latest call's, by the call that it names
    latest_is : (x y : Call) (bytes : List ℕ) → entry y 0 bytes ≡ latest r x
        → ((latest r y).answer ≡ 0) × (bytes ≡ (latest r y).written)
    latest_is x y bytes e =
        let same : x ≡ y = sym (latest_call r x) ∙ sym (ap (λ (d : Done). d.call) e) in
        let here = e ∙ ap (latest r) same in
        (sym (ap (λ (d : Done). d.answer) here), ap (λ (d : Done). d.written) here)

    controller_more : Named r.log → (x : Call) (c s : ℕ) (bytes : List ℕ) → Keeps S c
        → ControllerWrote (latest r x ∷ r.log) c s bytes → FromController c s (decode ends.Switch bytes)
    controller_more named x c s bytes keeps (premises.by_controller {frame} {at} h) =
        ⊎_elim
        (λ e. let here = latest_is x (at_controller c (writes_share s frame at)) bytes e in
        rw here.1 (share-wrote r R frame at c s keeps here.0))
        (λ t. named.shares c s bytes keeps (premises.by_controller t)) (Memᴰ.cases_cons h)

    switch_more : Named r.log → (x : Call) (s c : ℕ) (bytes : List ℕ) → s < 16
        → SwitchWrote (latest r x ∷ r.log) s c bytes → FromSwitch s c (decode ends.Controller bytes)
    switch_more named x s c bytes l (premises.by_switch {kind} {frame} {at} h) =
        ⊎_elim
        (λ e. let here = latest_is x (at_switch s (writes kind c frame at)) bytes e in
        rw here.1 (switch-wrote r R frame at kind s c l here.0))
        (λ t. named.switches s c bytes l (premises.by_switch t)) (Memᴰ.cases_cons h)

    pub named_after : Named r.log → (x : Call) → Named (step S r x).log
    named_after named x =
        rw (logged r x) (record { shares = controller_more named x; switches = switch_more named x })

  none_wrote : {c s : ℕ} {bytes : List ℕ} → ControllerWrote [] c s bytes → ⊥
  none_wrote (premises.by_controller h) = Memᴰ.not-nil h

  none_said : {s c : ℕ} {bytes : List ℕ} → SwitchWrote [] s c bytes → ⊥
  none_said (premises.by_switch h) = Memᴰ.not-nil h

  pub start_named : Named (start S).log
  start_named = record {
    shares = λ c s bytes keeps w. absurd (none_wrote w);
    switches = λ s c bytes l w. absurd (none_said w);
  }

  -- so it is in every run within the premises
  pub run_named : Valid S → (calls : List Call) → Premises S calls → Named (run (step S) (start S) calls).log
  run_named v = run-keeps S v (λ r. Named r.log) (λ r R x h honest begun n. named_after r R n x) start_named
