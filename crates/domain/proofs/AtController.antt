-- A call at a controller that keeps the rules is the protocol's: bytes received are an acknowledgement taken or
-- nothing, a decision takes the last number given so far, and a share written is that of the ready change.
-- Assumes nothing.
use mathlib.Core.Path.{◌≡◌, refl, sym, ap, ap₂, ◌∙◌, subst}
use mathlib.Core.List.{List, ◌∷◌, ◌++◌}
use Prim.Native.Nat.{ℕ, ◌*◌, ◌<◌}
use native.Mathlib.Omega.{arith}
use lib.Dec.{ltb, eqb}
use lib.ListN.{length, get_or, set}
use lib.Seq.{get_or-set_same, get_or-set_other}
use borrow.Author.Tests.{eqb-true, eq-eqb}
use Rattle.answer.specs.Ask.{reply}
use Rattle.answer.proofs.Asked.{reply-keeps}
use Rattle.answer.proofs.Bools.{by_bool, by_eq}
use Rattle.flow.specs.declared.Rule.{Rule}
use Rattle.flow.specs.declared.Table.{Table}
use Rattle.message.specs.Keys.{key_length, key_at}
use Rattle.message.specs.Reading.{decode}
use Rattle.message.specs.Senders.{sender_questions}
use Rattle.message.specs.declared.End.TheVariants as ends
use Rattle.message.specs.declared.Message.TheVariants.{Event, Share, Acknowledgement, Refused}
use Rattle.message.proofs.Ends.{by_controller}
use Rattle.message.proofs.Written.{Sent}
use Rattle.playbook.specs.Printing.{InRange}
use Rattle.controller.specs.Changes.{undone_of}
use Rattle.controller.specs.States.{unchanged}
use Rattle.controller.specs.Acknowledgements.{acknowledged_of, acknowledge, take_acknowledgement}
use Rattle.controller.specs.Receiving.{received_by}
use Rattle.controller.specs.Decisions.{decided_by}
use Rattle.controller.specs.Writing.{share_written}
use Rattle.controller.specs.Calls as controller-calls
use Rattle.controller.specs.declared.Controller.{Controller}
use Rattle.controller.specs.declared.Reply.{Reply}
use Rattle.controller.specs.declared.Undone.{Undone}
use Rattle.controller.proofs.Kept.{call_grows}
use Rattle.controller.proofs.Sent.{written_state, allowed, share-sent}
use Rattle.controller.proofs.Waiting.{Readied, ready_sound}
use Rattle.protocol.specs.Families.{upd}
use Rattle.protocol.proofs.Ends as protocol
use Rattle.protocol.proofs.Worlds as protocol-worlds
use Rattle.protocol.proofs.Steps.{other_stays}
use Rattle.protocol.proofs.Families.{upd_same, upd_other, upd_self, upd_ap}
use Rattle.domain.specs.Settings.{Decision, Setting, Valid, playbook, controller_keys}
use Rattle.domain.specs.Calls.{at_controller, Run, controller_writes, step}
use Rattle.domain.specs.Premises.{Unforged, decision_in, is_brought}
use Rattle.domain.specs.Premises as premises
use Rattle.domain.proofs.View.{domain_of, view_controller, said, messages, made_so, view, is_from, seen, Seen}
use Rattle.domain.specs.Ideals.{change_of}
use Rattle.domain.specs.Claim.{agreed}
use Rattle.domain.proofs.Courses.{RuleInRange, agreed-few}
use Rattle.domain.proofs.Agreed.{change-fine}
use Rattle.domain.proofs.Undone.{given-few, undone_agreed, readied_ready}
use Rattle.message.proofs.Stores.{joined_length, joined_at}
use Rattle.domain.proofs.Ends.{ControllerFine, decision_after}
use Rattle.domain.proofs.Messages.{acknowledgement_said_lem, sealed_tagged, From, is_from_lem, from_asked, not-from}

-- an acknowledgement, as the protocol takes it
acknowledged_view : (t : Controller) (s k : ℕ) → s < length t.progress.acknowledged
    → view_controller (acknowledge t s k)
    ≡ record { last = t.progress.last; acknowledged = upd (λ i. acknowledged_of t i) s k }
acknowledged_view t s k inside =
    let each : (i : ℕ) → get_or (set t.progress.acknowledged s k) i 0 ≡ upd (λ i. acknowledged_of t i) s k i =
    λ i. by_eq s i (λ e. rw (← e, upd_same) (get_or-set_same t.progress.acknowledged s k 0 inside))
    (λ other. rw (upd_other (λ i. acknowledged_of t i) s k i other)
    (get_or-set_other t.progress.acknowledged s i k 0 (λ e. other (sym e)))) in
    λ j. record { last = t.progress.last; acknowledged = λ i. each i j }

taken_view : (t : Controller) (s k : ℕ) → s < length t.progress.acknowledged
    → view_controller (take_acknowledgement t s k).state ≡ protocol.acknowledge (view_controller t) s k
taken_view t s k inside =
    by_bool (ltb (acknowledged_of t s) k) (λ e. rw e (acknowledged_view t s k inside)) (λ e. rw e)

module _ (S : Setting) (v : Valid S) (r : Run) (c : ℕ) (known : c < S.n) (ds : List Decision)
    (f : ControllerFine S c ds (r.controllers c)) where
  abbrev D : protocol.Domain Rule Table
  D = domain_of S

  abbrev t : Controller
  t = r.controllers c

  abbrev keys : List ℕ
  keys = controller_keys S c

  store : length keys ≡ key_length * 16
  store = joined_length (S.key c) 16 (v.keys c known)

  -- what was written once a call is made
  abbrev said_by : controller-calls.Call → List (protocol-worlds.Message Rule)
  said_by x =
      said (controller-calls.reply_to keys t x).answer (at_controller c x) (controller_writes keys t x)
      (messages r.log)

  -- a call is seen by what it does to the controller and what it says
  moved : (x : controller-calls.Call) (next : protocol.Controller)
      → view_controller (controller-calls.reply_to keys t x).state ≡ next
      → (more : List (protocol-worlds.Message Rule)) → said_by x ≡ more
      → view (step S r (at_controller c x))
      ≡ record {
        switches = (view r).switches;
        controllers = upd (view r).controllers c next;
        written = more;
        made = made_so r.log;
      }
  unfolding step messages made_so
  moved x next is more words =
      let controllers : (u : ℕ) → view_controller (upd r.controllers c (controller-calls.reply_to keys t x).state u)
      ≡ upd (λ i. view_controller (r.controllers i)) c next u =
      λ u. upd_ap view_controller r.controllers c (controller-calls.reply_to keys t x).state u
      ∙ ap (λ (z : protocol.Controller). upd (λ i. view_controller (r.controllers i)) c z u) is in
      λ i. record {
        switches = (view r).switches;
        controllers = λ u. controllers u i;
        written = words i;
        made = made_so r.log;
      }

  -- so a call that leaves the controller and says nothing is not seen
  unseen : (x : controller-calls.Call) → view_controller (controller-calls.reply_to keys t x).state ≡ view_controller t
      → said_by x ≡ messages r.log → view (step S r (at_controller c x)) ≡ view r
  unseen x is words =
      moved x (view_controller t) is (messages r.log) words
      ∙ (λ i. record {
        switches = (view r).switches;
        controllers = λ u. upd_self (view r).controllers c u i;
        written = messages r.log;
        made = made_so r.log;
      })

  module _ (bytes : List ℕ) where
    left_unseen : (received_by t keys bytes).state ≡ t
        → view (step S r (at_controller c (controller-calls.receives bytes))) ≡ view r
    left_unseen e = unseen (controller-calls.receives bytes) (ap view_controller e) refl

    -- an event is offered or refused, and the state stays
    module _ (s to serial cause : ℕ) (d : decode ends.Controller bytes ≡ Event s to serial cause) where
      event_left : (received_by t keys bytes).state ≡ t
      unfolding received_by
      event_left =
          reply-keeps (λ (y : Reply). y.state ≡ t) _ _ _ (λ k. refl)
          (λ p. rw d (reply-keeps (λ (y : Reply). y.state ≡ t) _ _ _ (λ k. refl)
          (λ q. reply-keeps (λ (y : Reply). y.state ≡ t) _ _ _ (λ k. refl) (λ y. refl))))

      event_seen : Seen S r (at_controller c (controller-calls.receives bytes))
      unfolding seen
      event_seen = record { is = rw d (left_unseen event_left ∙ sym (other_stays D (view r))); allowed = rw d tt }

    -- an acknowledgement read, before its sender is asked for
    module _ (s to k : ℕ) (d : decode ends.Controller bytes ≡ Acknowledgement s to k) where
      acknowledgement_asked : received_by t keys bytes
          ≡ reply (sender_questions 16 t.id keys bytes s to) (unchanged t) (take_acknowledgement t s k)
      unfolding received_by reply
      acknowledgement_asked = rw (f.ok, eq-eqb _ _ store, d)

      acknowledgement-read : received_by t keys bytes
          ≡ reply (sender_questions 16 c keys bytes s to) (unchanged t) (take_acknowledgement t s k)
      acknowledgement-read =
          acknowledgement_asked
          ∙ ap (λ (id : ℕ). reply (sender_questions 16 id keys bytes s to) (unchanged t) (take_acknowledgement t s k))
          f.id

      module _ (from : From 16 c keys bytes s to) where
        acknowledgement-taken : received_by t keys bytes ≡ take_acknowledgement t s k
        acknowledgement-taken =
            acknowledgement-read ∙ from_asked 16 c keys bytes s to (unchanged t) (take_acknowledgement t s k) from

        acknowledgement_seen_lem : view (step S r (at_controller c (controller-calls.receives bytes)))
            ≡ protocol-worlds.step D (view r) (protocol-worlds.takes_acknowledgement c s k)
        unfolding protocol-worlds.step
        acknowledgement_seen_lem =
            moved (controller-calls.receives bytes) (protocol.acknowledge (view_controller t) s k)
            (ap (λ (y : Reply). view_controller y.state) acknowledgement-taken
            ∙ taken_view t s k (omega (arith, from.known, f.long)))
            (messages r.log) refl

        acknowledgement_allowed : Unforged S r (at_controller c (controller-calls.receives bytes))
            → protocol-worlds.Allowed D (view r) (protocol-worlds.takes_acknowledgement c s k)
        acknowledgement_allowed honest =
            let key = joined_at (S.key c) 16 (v.keys c known) s from.known in
            acknowledgement_said_lem (honest s (rw (d, from.here) premises.acknowledgement) from.known
            (sealed_tagged (S.key c s) bytes (rw key at from.sealed))) d

      read_seen : Unforged S r (at_controller c (controller-calls.receives bytes))
          → Seen S r (at_controller c (controller-calls.receives bytes))
      unfolding seen
      read_seen honest =
          by_bool (is_from 16 c keys bytes s to)
          (λ e.
          let from = is_from_lem 16 c keys bytes s to e in
          record {
            is = rw (d, e) (acknowledgement_seen_lem from);
            allowed = rw (d, e) (acknowledgement_allowed from honest);
          })
          (λ e.
          let x = not-from 16 c keys bytes s to (unchanged t) (take_acknowledgement t s k) e in
          let same : (received_by t keys bytes).state ≡ t =
          ap (λ (y : Reply). y.state) (acknowledgement-read ∙ x.2) in
          record { is = rw (d, e) (left_unseen same ∙ sym (other_stays D (view r))); allowed = rw (d, e) tt })

    -- whatever is received
    pub received_seen : Unforged S r (at_controller c (controller-calls.receives bytes))
        → Seen S r (at_controller c (controller-calls.receives bytes))
    unfolding seen
    received_seen honest =
        by_controller bytes
        (λ long kind d. event_seen _ _ _ _ d)
        (λ long kind d. read_seen _ _ _ d honest)
        (λ k h d. record { is = rw d (left_unseen (not-read k d) ∙ sym (other_stays D (view r))); allowed = rw d tt })
      where
        not-read : (k : ℕ) → decode ends.Controller bytes ≡ Refused k → (received_by t keys bytes).state ≡ t
        not-read k d = unfold received_by reply in rw (f.ok, eq-eqb _ _ store, d)

  -- a decision, where what was brought with it is a beginning of the agreed list
  module _ (s serial cause : ℕ) (rest : List Decision) where
    abbrev after : List Decision
    after = ds ++ decision_in is_brought c (decided_by t s serial cause).answer
        (at_controller c (controller-calls.manages (controller-calls.decides s serial cause)))

    same_numbers : (decided_by t s serial cause).state.progress.acknowledged ≡ t.progress.acknowledged
    unfolding decided_by
    same_numbers =
        reply-keeps (λ (y : Reply). y.state.progress.acknowledged ≡ t.progress.acknowledged) _ _ _ (λ k. refl)
        (λ y. refl)

    pub decision_seen : S.agreed ≡ after ++ rest
        → Seen S r (at_controller c (controller-calls.manages (controller-calls.decides s serial cause)))
    unfolding seen protocol-worlds.step
    decision_seen begins =
        let next = (decided_by t s serial cause).state in
        let fine = decision_after S c ds t f s serial cause in
        record {
          is = moved (controller-calls.manages (controller-calls.decides s serial cause)) _
              (ap (λ (l : List ℕ). record { last = next.progress.last; acknowledged = λ i. get_or l i 0 }) same_numbers)
              (messages r.log) refl;
          allowed = (
            (call_grows keys t (controller-calls.manages (controller-calls.decides s serial cause))).last,
            given-few S c after rest begins next fine,
          );
        }

  -- a share written, where the decisions brought so far are a beginning of the agreed list
  module _ (ranged : InRange (playbook S)) (rest : List Decision) (begins : S.agreed ≡ ds ++ rest) (s : ℕ)
      (frame : List ℕ) (at : ℕ) where
    abbrev answer : ℕ
    answer = (share_written t keys s frame at).0.answer

    module _ (e : answer ≡ 0) where
      abbrev u : Undone
      u = (allowed t keys s frame at e).change

      readied : Readied s (undone_of t) u
      readied = ready_sound s (undone_of t) u (allowed t keys s frame at e).ready

      is_agreed_lem : (change_of (agreed S) u.number ≡ u) × protocol-worlds.Agreed D u.number
      is_agreed_lem = undone_agreed S v ranged c ds rest begins t f u readied.stands

      -- the frame has the share of the agreed change, and its bytes are read as that
      pub share-there : Sent (key_at keys s) (Share t.id s u.number u.rule) frame at
          (share_written t keys s frame at).1
      share-there =
          let fine = change-fine S v ranged u.number is_agreed_lem.1 in
          let range = subst (λ (x : Undone). RuleInRange x.rule) is_agreed_lem.0 fine.in-range in
          let few = agreed-few (playbook S) S.agreed in
          share-sent t keys s frame at e u (allowed t keys s frame at e).ready
          (omega (arith, is_agreed_lem.1.1), range.0, range.1)

      share-read : decode ends.Switch (controller_writes keys t (controller-calls.writes_share s frame at))
          ≡ Share t.id s u.number u.rule
      share-read = rw (allowed t keys s frame at e).ready share-there.read

      share_seen_lem : view (step S r (at_controller c (controller-calls.writes_share s frame at)))
          ≡ protocol-worlds.step D (view r) (protocol-worlds.writes_share c u.number)
      unfolding protocol-worlds.step
      share_seen_lem =
          let change = is_agreed_lem.0 in
          let words : said answer (at_controller c (controller-calls.writes_share s frame at))
          (controller_writes keys t (controller-calls.writes_share s frame at)) (messages r.log)
          ≡ protocol-worlds.share c (D.switch u.number) u.number (D.content u.number) ∷ messages r.log =
          rw (e, share-read)
          (ap₂ (λ (i : ℕ) (x : Rule). protocol-worlds.share c i u.number x ∷ messages r.log)
          (sym (ap (λ (x : Undone). x.switch) change ∙ readied.on)) (sym (ap (λ (x : Undone). x.rule) change))) in
          moved (controller-calls.writes_share s frame at) (view_controller t)
          (ap view_controller (written_state t keys s frame at)) _ words

      share_allowed : protocol-worlds.Allowed D (view r) (protocol-worlds.writes_share c u.number)
      share_allowed = readied_ready S v ranged c ds rest begins t f s u readied

    pub share-written_seen : Seen S r (at_controller c (controller-calls.writes_share s frame at))
    unfolding seen
    share-written_seen =
        by_bool (eqb answer 0)
        (λ e.
        let z = eqb-true answer 0 e in
        record {
          is = rw (e, (allowed t keys s frame at z).ready) (share_seen_lem z);
          allowed = rw (e, (allowed t keys s frame at z).ready) (share_allowed z);
        })
        (λ e. record {
          is = rw e (unseen (controller-calls.writes_share s frame at)
              (ap view_controller (written_state t keys s frame at)) (rw e) ∙ sym (other_stays D (view r)));
          allowed = rw e tt;
        })
