-- An end of a run is that end after its own list of calls, so what is proved of lists of calls at one end holds of runs:
-- a share of a run is answered 1 exactly where it completes the quorum. No premise is needed.
use mathlib.Core.Path.{◌≡◌, refl, ◌∙◌}
use mathlib.Core.List.{List, [], ◌∷◌}
use Prim.Native.Nat.{ℕ}
use lib.Dec.{eqb}
use borrow.Author.Tests.{eq-eqb, ne_eqb}
use Rattle.answer.specs.Ask.{pick}
use Rattle.answer.proofs.Bools.{by_eq}
use Rattle.switch.specs.Receiving.{received_by}
use Rattle.switch.specs.Calls as switch-calls
use Rattle.switch.proofs.Once.{Completes, exactly}
use Rattle.controller.specs.Calls as controller-calls
use Rattle.protocol.specs.Runs.{run}
use Rattle.protocol.proofs.Families.{upd_same, upd_other}
use Rattle.domain.specs.Settings.{Setting, switch_keys, controller_keys}
use Rattle.domain.specs.Calls.{Call, at_switch, at_controller, Run, start, step}

-- the calls of a list at switch s, and those at controller c
unfoldable pub calls_at_switch : ℕ → List Call → List switch-calls.Call
calls_at_switch s [] = []
calls_at_switch s (at_switch i x ∷ xs) = pick (eqb i s) (x ∷ calls_at_switch s xs) (calls_at_switch s xs)
calls_at_switch s (at_controller i x ∷ xs) = calls_at_switch s xs

unfoldable pub calls_at_controller : ℕ → List Call → List controller-calls.Call
calls_at_controller c [] = []
calls_at_controller c (at_switch i x ∷ xs) = calls_at_controller c xs
calls_at_controller c (at_controller i x ∷ xs) = pick (eqb i c) (x ∷ calls_at_controller c xs) (calls_at_controller c xs)

module _ (S : Setting) where
  pub switch-after : (s : ℕ) (r : Run) (xs : List Call)
      → (run (step S) r xs).switches s
      ≡ switch-calls.after (switch_keys S s) (r.switches s) (calls_at_switch s xs)
  unfolding calls_at_switch switch-calls.after step
  switch-after s r [] = refl
  switch-after s r (at_switch i x ∷ xs) =
      switch-after s (step S r (at_switch i x)) xs
      ∙ by_eq i s (λ e. rw (e, eq-eqb s s refl, upd_same))
      (λ other. rw (ne_eqb i s other, upd_other r.switches i _ s other))
  switch-after s r (at_controller i x ∷ xs) = switch-after s (step S r (at_controller i x)) xs

  pub controller-after : (c : ℕ) (r : Run) (xs : List Call)
      → (run (step S) r xs).controllers c
      ≡ controller-calls.after (controller_keys S c) (r.controllers c) (calls_at_controller c xs)
  unfolding calls_at_controller controller-calls.after step
  controller-after c r [] = refl
  controller-after c r (at_switch i x ∷ xs) = controller-after c (step S r (at_switch i x)) xs
  controller-after c r (at_controller i x ∷ xs) =
      controller-after c (step S r (at_controller i x)) xs
      ∙ by_eq i c (λ e. rw (e, eq-eqb c c refl, upd_same))
      (λ other. rw (ne_eqb i c other, upd_other r.controllers i _ c other))

  -- what arrives at switch s after a list of calls, of whatever premises
  pub run_exactly : (s : ℕ) (calls : List Call) (bytes : List ℕ) →
      let t = (run (step S) (start S) calls).switches s in
      ((received_by t (switch_keys S s) bytes).answer ≡ 1 → Completes t (switch_keys S s) bytes)
      × (Completes t (switch_keys S s) bytes → (received_by t (switch_keys S s) bytes).answer ≡ 1)
  run_exactly s calls bytes =
      rw (switch-after s (start S) calls) (exactly (switch_keys S s) s S.n (calls_at_switch s calls) bytes)
