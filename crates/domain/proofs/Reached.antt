-- What holds after every run within the premises: the ends pass question 20 and follow the agreed list, and the view of
-- the run has the protocol's invariant. Each call is the protocol's, so the view of a run is a run of the protocol.
-- Assumes nothing.
use mathlib.Core.Path.{◌≡◌, refl, sym, ap, ◌∙◌, subst}
use mathlib.Core.Bool.{Bool}
use mathlib.Core.List.Memᴰ
use mathlib.Core.List.{List, [], ◌∷◌, ◌++◌, append-nil, append_assoc, Memᴰ}
use mathlib.Core.Logic.{⊎_elim}
use Prim.Native.Nat.{ℕ, zero, suc, ◌^◌, ◌<◌}
use native.Mathlib.Omega.{arith}
use lib.ListN.{get_or, replicate}
use borrow.Author.Tests.{ne_eqb}
use Rattle.answer.proofs.Asked.{reply-keeps}
use Rattle.answer.proofs.Bools.{by_eq}
use Rattle.flow.specs.declared.Rule.{Rule}
use Rattle.flow.specs.declared.Table.{Table}
use Rattle.message.specs.Reading.{decode}
use Rattle.message.specs.declared.End.TheVariants as ends
use Rattle.message.specs.declared.Message.TheVariants.{Share}
use Rattle.playbook.specs.Printing.{InRange}
use Rattle.playbook.proofs.Ranges.{read_range}
use Rattle.switch.specs.Calls as switch-calls
use Rattle.switch.specs.Calls.{receives, writes, manages}
use Rattle.switch.specs.Slots.{empty_slot}
use Rattle.switch.specs.declared.Reply as switch-reply
use Rattle.switch.proofs.Effects.{answered_1}
use Rattle.controller.specs.Calls as controller-calls
use Rattle.controller.specs.declared.Reply as controller-reply
use Rattle.protocol.specs.Runs.{run, Every}
use Rattle.protocol.proofs.Ends as protocol
use Rattle.protocol.proofs.Worlds as protocol-worlds
use Rattle.protocol.proofs.Families.{upd_at}
use Rattle.protocol.proofs.Runs.{run-append, every_append}
use Rattle.protocol.proofs.Invariant.{Invariant, start_invariant}
use Rattle.protocol.proofs.Kept.{call_kept}
use Rattle.protocol.proofs.Orders.{lawful_agreed}
use Rattle.domain.specs.Settings.{Decision, Setting, Valid, playbook, Keeps, switch_keys, controller_keys}
use Rattle.domain.specs.Calls.{Call, at_switch, at_controller, Done, Run, start, step}
use Rattle.domain.specs.Premises.{InRun, Unforged, decisions, brought, taken, Premises}
use Rattle.domain.proofs.Courses.{agreed-few}
use Rattle.domain.proofs.View.{domain_of, view_switch, view_slot, view_controller, messages, made_so, view}
use Rattle.domain.proofs.View.{seen, Seen}
use Rattle.domain.proofs.Agreed.{laws}
use Rattle.domain.proofs.Ends.{SwitchFine, switch-start, switch-after, ControllerFine, controller-start}
use Rattle.domain.proofs.Ends.{course_of, reception_after, writing_after, decision_after, decision_took}
use Rattle.domain.proofs.AtSwitch as at-switch
use Rattle.domain.proofs.AtController as at-controller

-- a list of one value has it at every place, and as the value past its end
same_everywhere : {A : Type 0} (n i : ℕ) (x : A) → get_or (replicate n x) i x ≡ x
same_everywhere zero i x = refl
same_everywhere (suc n) zero x = refl
same_everywhere (suc n) (suc i) x = same_everywhere n i x

never : {C : Type 0} → ◌≡◌ {A = ℕ} 0 1 → C
never e = absurd (omega arith)

module _ (S : Setting) where
  abbrev D : protocol.Domain Rule Table
  D = domain_of S

  -- the decisions brought so far are a beginning of the agreed list
  abbrev pub Begun : Run → Type 0
  Begun r = (c : ℕ) → Keeps S c → (rest : List Decision) × (S.agreed ≡ brought c r.log ++ rest)

  -- what a call adds to them stands behind them; only a decision at the controller itself adds any
  brought_grows : (r : Run) (c : ℕ) (x : Call)
      → (more : List Decision) × (brought c (step S r x).log ≡ brought c r.log ++ more)
  unfolding step decisions
  brought_grows r c (at_switch s x) = (_, refl)
  brought_grows r c (at_controller i x) = (_, refl)

  module _ (test : ℕ → Bool) (r : Run) (c : ℕ) where
    by_switch : (s : ℕ) (x : switch-calls.Call)
        → decisions test c (step S r (at_switch s x)).log ≡ decisions test c r.log
    unfolding step decisions
    by_switch s x = append-nil (decisions test c r.log)

    pub by_other : (i : ℕ) (x : controller-calls.Call) → (i ≡ c → ⊥)
        → decisions test c (step S r (at_controller i x)).log ≡ decisions test c r.log
    unfolding step decisions
    by_other i (controller-calls.receives bytes) n = append-nil (decisions test c r.log)
    by_other i (controller-calls.writes_share s frame at) n = append-nil (decisions test c r.log)
    by_other i (controller-calls.manages (controller-calls.decides s serial cause)) n =
        rw (ne_eqb i c n) (append-nil (decisions test c r.log))

  -- so what was brought earlier is a beginning too
  begun_before : (r : Run) (x : Call) → Begun (step S r x) → Begun r
  begun_before r x begun c keeps =
      let b = begun c keeps in
      let g = brought_grows r c x in (
        g.0 ++ b.0,
        b.1 ∙ ap (λ (l : List Decision). l ++ b.0) g.1 ∙ append_assoc (brought c r.log) g.0 b.0,
      )

  pub begun_early : (r : Run) (xs : List Call) → Begun (run (step S) r xs) → Begun r
  begun_early r [] begun = begun
  begun_early r (x ∷ xs) begun = begun_before r x (begun_early (step S r x) xs begun)

  -- and a beginning of a list of calls within the premises is within them
  pub premises_before : (xs ys : List Call) → Premises S (xs ++ ys) → Premises S xs
  premises_before xs ys p = record {
    in_run = (every_append (step S) (InRun S) (start S) xs ys p.in_run).0;
    unforged = (every_append (step S) (Unforged S) (start S) xs ys p.unforged).0;
    beginning = begun_early (run (step S) (start S) xs) ys (rw (run-append (step S) (start S) xs ys) at p.beginning);
  }

  -- each share answered 1 was read as a share for its switch
  abbrev pub SharesRead : List Done → Type 0
  SharesRead log = (s : ℕ) (bytes written : List ℕ)
      → Memᴰ (record { call = at_switch s (receives bytes); answer = 1; written = written }) log
      → (c : ℕ) × (k : ℕ) × (rule : Rule) × (decode ends.Switch bytes ≡ Share c s k rule)

  pub record Reached (r : Run) : Type 0 where
    pub switches : (s : ℕ) → s < 16 → SwitchFine S s (r.switches s)
    pub controllers : (c : ℕ) → Keeps S c → ControllerFine S c (brought c r.log) (r.controllers c)
    pub invariant : Invariant D (view r)
    pub read : SharesRead r.log
    -- the decisions that a controller took have the changes of all that it was brought
    pub took : (c : ℕ) → Keeps S c → course_of S (brought c r.log) ≡ course_of S (taken c r.log)

  module _ (v : Valid S) where
    pub ranged : InRange (playbook S)
    ranged = read_range S.book v.bytes

    -- fresh setups
    switch_view : (s : ℕ) → view_switch ((start S).switches s) ≡ (protocol-worlds.start D).switches s
    switch_view s =
        reply-keeps (λ (y : switch-reply.Reply). view_switch y.state ≡ (protocol-worlds.start D).switches s) _ _ _
        (λ k i. record { last = 0; table = D.empty; slots = λ c. view_slot (same_everywhere 16 c empty_slot i) })
        (λ y i. record { last = 0; table = D.empty; slots = λ c. view_slot (same_everywhere 16 c empty_slot i) })

    controller_view : (c : ℕ) → view_controller ((start S).controllers c) ≡ (protocol-worlds.start D).controllers c
    controller_view c =
        reply-keeps (λ (y : controller-reply.Reply). view_controller y.state ≡ (protocol-worlds.start D).controllers c)
        _ _ _
        (λ k i. record { last = 0; acknowledged = λ s. same_everywhere 16 s 0 i })
        (λ y i. record { last = 0; acknowledged = λ s. same_everywhere 16 s 0 i })

    pub start_view : view (start S) ≡ protocol-worlds.start D
    unfolding messages made_so
    start_view = λ i. record {
      switches = λ s. switch_view s i;
      controllers = λ c. controller_view c i;
      written = [];
      made = [];
    }

    pub start_reached : Reached (start S)
    unfolding decisions
    start_reached = record {
      switches = switch-start S v;
      controllers = λ c keeps. controller-start S v c keeps.0;
      invariant = subst (Invariant D) (sym start_view) (start_invariant D (laws S v ranged));
      read = λ s bytes written h. absurd (Memᴰ.not-nil h);
      took = λ c keeps. refl;
    }

    module _ (r : Run) (R : Reached r) where
      -- last applied numbers are agreed ones, so they fit four bytes
      pub last_small : (s : ℕ) → (r.switches s).last < 256 ^ 4
      last_small s =
          by_eq (r.switches s).last 0 (λ z. omega arith)
          (λ some.
          let safe = R.invariant.safe in
          let g = lawful_agreed D _ safe.lawful _ (safe.lasts s (omega arith)).0 in
          omega (arith, g.1, agreed-few (playbook S) S.agreed))

      -- every call is the protocol's
      pub call_seen : (x : Call) → InRun S r x → Unforged S r x → Begun (step S r x) → Seen S r x
      call_seen (at_switch s (receives bytes)) l honest begun =
          at-switch.received_seen S v r s l (R.switches s l) bytes honest
      call_seen (at_switch s (writes kind c frame at)) l honest begun =
          at-switch.writing_seen S v r s l (R.switches s l) c frame at (last_small s) kind
      call_seen (at_switch s (manages m)) l honest begun = at-switch.managed_seen S v r s l (R.switches s l) m
      call_seen (at_controller c (controller-calls.receives bytes)) keeps honest begun =
          at-controller.received_seen S v r c keeps.0 _ (R.controllers c keeps) bytes honest
      call_seen (at_controller c (controller-calls.writes_share s frame at)) keeps honest begun =
          let b = begun_before r (at_controller c (controller-calls.writes_share s frame at)) begun c keeps in
          at-controller.share-written_seen S v r c keeps.0 _ (R.controllers c keeps) ranged b.0 b.1 s frame at
      call_seen (at_controller c (controller-calls.manages (controller-calls.decides s serial cause))) keeps honest
          begun =
          let b = begun c keeps in
          at-controller.decision_seen S v r c keeps.0 _ (R.controllers c keeps) s serial cause b.0
          (unfold step decisions in b.1)

      -- and leaves the ends as they should be
      switches-after : (x : Call) → InRun S r x → (s : ℕ) → s < 16 → SwitchFine S s ((step S r x).switches s)
      unfolding step
      switches-after (at_switch i x) h s l =
          upd_at (λ s t. s < 16 → SwitchFine S s t) r.switches i _ s
          (λ m. switch-after S (switch_keys S i) i (r.switches i) x (R.switches i m)) (λ n m. R.switches s m) l
      switches-after (at_controller c x) h s l = R.switches s l

      itself_after : (c : ℕ) (x : controller-calls.Call) → Keeps S c
          → ControllerFine S c (brought c (step S r (at_controller c x)).log)
          (controller-calls.reply_to (controller_keys S c) (r.controllers c) x).state
      unfolding step decisions
      itself_after c (controller-calls.receives bytes) keeps =
          rw append-nil (reception_after S c _ _ (R.controllers c keeps) (controller_keys S c) bytes)
      itself_after c (controller-calls.writes_share s frame at) keeps =
          rw append-nil (writing_after S c _ _ (R.controllers c keeps) (controller_keys S c) s frame at)
      itself_after c (controller-calls.manages (controller-calls.decides s serial cause)) keeps =
          decision_after S c _ _ (R.controllers c keeps) s serial cause

      controllers-after : (x : Call) → InRun S r x → (c : ℕ) → Keeps S c
          → ControllerFine S c (brought c (step S r x).log) ((step S r x).controllers c)
      controllers-after (at_switch s x) h c keeps = rw (by_switch _ r c s x) (unfold step in R.controllers c keeps)
      controllers-after (at_controller i x) h c keeps = unfold step in
          upd_at (λ c t. Keeps S c → ControllerFine S c (brought c (step S r (at_controller i x)).log) t)
          r.controllers i _ c (λ k. itself_after i x k)
          (λ n k. rw (by_other _ r c i x n) (R.controllers c k)) keeps

      took_itself : (c : ℕ) (x : controller-calls.Call) → Keeps S c
          → course_of S (brought c (step S r (at_controller c x)).log)
          ≡ course_of S (taken c (step S r (at_controller c x)).log)
      unfolding step decisions
      took_itself c (controller-calls.receives bytes) keeps = rw (append-nil, append-nil) (R.took c keeps)
      took_itself c (controller-calls.writes_share s frame at) keeps = rw (append-nil, append-nil) (R.took c keeps)
      took_itself c (controller-calls.manages (controller-calls.decides s serial cause)) keeps =
          decision_took S c _ _ (R.controllers c keeps) s serial cause (taken c r.log) (R.took c keeps)

      took_after : (x : Call) (c : ℕ) → Keeps S c
          → course_of S (brought c (step S r x).log) ≡ course_of S (taken c (step S r x).log)
      took_after (at_switch s x) c keeps = rw (by_switch _ r c s x, by_switch _ r c s x) (R.took c keeps)
      took_after (at_controller i x) c keeps =
          by_eq i c (λ e. subst (λ (j : ℕ). course_of S (brought c (step S r (at_controller j x)).log)
          ≡ course_of S (taken c (step S r (at_controller j x)).log)) (sym e) (took_itself c x keeps))
          (λ n. rw (by_other _ r c i x n, by_other _ r c i x n) (R.took c keeps))

      -- bytes answered 1 were read as a share
      read_so : (s : ℕ) (x : switch-calls.Call) → s < 16 → (bytes : List ℕ) → receives bytes ≡ x
          → (switch-calls.reply_to (switch_keys S s) (r.switches s) x).answer ≡ 1
          → (c : ℕ) × (k : ℕ) × (rule : Rule) × (decode ends.Switch bytes ≡ Share c s k rule)
      read_so s (receives b) l bytes e one =
          let same : bytes ≡ b = cc in
          let m = answered_1 (r.switches s) (switch_keys S s) b one in (
            m.controller,
            m.share.number,
            m.share.rule,
            ap (decode ends.Switch) same ∙ m.arrives.read
                ∙ ap (λ (i : ℕ). Share m.controller i m.share.number m.share.rule) (R.switches s l).id,
          )
      read_so s (writes kind c frame at) l bytes e one = never cc
      read_so s (manages m) l bytes e one = never cc

      read-after : (x : Call) → InRun S r x → SharesRead (step S r x).log
      unfolding step
      read-after (at_switch i x) h s bytes written m =
          ⊎_elim
          (λ e.
          let same : at_switch s (receives bytes) ≡ at_switch i x = ap (λ (d : Done). d.call) e in
          let here : s ≡ i = cc in
          let brings : receives bytes ≡ x = cc in
          rw here (read_so i x h bytes brings (sym (ap (λ (d : Done). d.answer) e))))
          (R.read s bytes written) (Memᴰ.cases_cons m)
      read-after (at_controller c x) h s bytes written m =
          ⊎_elim
          (λ e. let other : at_switch s (receives bytes) ≡ at_controller c x = ap (λ (d : Done). d.call) e in never cc)
          (R.read s bytes written) (Memᴰ.cases_cons m)

      pub call_reached : (x : Call) → InRun S r x → Unforged S r x → Begun (step S r x) → Reached (step S r x)
      call_reached x h honest begun =
          let s = call_seen x h honest begun in
          record {
            switches = switches-after x h;
            controllers = controllers-after x h;
            invariant = subst (Invariant D) (sym s.is)
                (call_kept D (laws S v ranged) (view r) R.invariant (seen S r x) s.allowed);
            read = read-after x h;
            took = took_after x;
          }

    -- a run within the premises reaches such a state, and its view is a run of the protocol that is allowed there
    unfoldable pub seen_all : Run → List Call → List (protocol-worlds.Call Rule)
    seen_all r [] = []
    seen_all r (x ∷ xs) = seen S r x ∷ seen_all (step S r x) xs

    pub record Walked (r : Run) (xs : List Call) : Type 0 where
      pub reached : Reached (run (step S) r xs)
      pub is : view (run (step S) r xs) ≡ run (protocol-worlds.step D) (view r) (seen_all r xs)
      pub allowed : Every (protocol-worlds.step D) (protocol-worlds.Allowed D) (view r) (seen_all r xs)

    pub walk : (r : Run) → Reached r → (xs : List Call) → Every (step S) (InRun S) r xs
        → Every (step S) (Unforged S) r xs → Begun (run (step S) r xs) → Walked r xs
    unfolding seen_all
    walk r R [] h honest begun = record { reached = R; is = refl; allowed = tt }
    walk r R (x ∷ xs) h honest begun =
        let b = begun_early (step S r x) xs begun in
        let s = call_seen r R x h.0 honest.0 b in
        let rest = walk (step S r x) (call_reached r R x h.0 honest.0 b) xs h.1 honest.1 begun in
        record {
          reached = rest.reached;
          is = rest.is ∙ ap (λ w. run (protocol-worlds.step D) w (seen_all (step S r x) xs)) s.is;
          allowed = (
            s.allowed,
            subst (λ w. Every (protocol-worlds.step D) (protocol-worlds.Allowed D) w (seen_all (step S r x) xs)) s.is
                rest.allowed,
          );
        }

    pub run_reached : (calls : List Call) → Premises S calls → Reached (run (step S) (start S) calls)
    run_reached calls p = (walk (start S) start_reached calls p.in_run p.unforged p.beginning).reached

    -- what a fresh run has and each call within the premises keeps, every run within them has
    module _ (Q : Run → Type 0) (keep : (r : Run) → Reached r → (x : Call) → InRun S r x → Unforged S r x
        → Begun (step S r x) → Q r → Q (step S r x)) where
      walk_keeps : (r : Run) → Reached r → (xs : List Call) → Every (step S) (InRun S) r xs
          → Every (step S) (Unforged S) r xs → Begun (run (step S) r xs) → Q r → Q (run (step S) r xs)
      walk_keeps r R [] h honest begun q = q
      walk_keeps r R (x ∷ xs) h honest begun q =
          let b = begun_early (step S r x) xs begun in
          walk_keeps (step S r x) (call_reached r R x h.0 honest.0 b) xs h.1 honest.1 begun
          (keep r R x h.0 honest.0 b q)

      pub run-keeps : Q (start S) → (calls : List Call) → Premises S calls → Q (run (step S) (start S) calls)
      run-keeps q calls p = walk_keeps (start S) start_reached calls p.in_run p.unforged p.beginning q
