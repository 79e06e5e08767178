-- What operators see tells which changes are made: one is made if its switch's last applied number is not below it. So
-- the numbers up to which the check takes all for made can be read off the acknowledgements. Assumes nothing.
use mathlib.Core.Path.{◌≡◌, refl, ap, ◌∙◌}
use mathlib.Core.Bool.{true}
use mathlib.Core.List.{List}
use Prim.Native.Nat.{ℕ, ◌≤◌}
use native.Mathlib.Omega.{arith}
use lib.ListN.{length}
use borrow.Author.Tests.{eq-eqb}
use Rattle.answer.proofs.Bools.{by_eq}
use Rattle.lists.specs.Kinds.{is_among}
use Rattle.protocol.specs.Runs.{run}
use Rattle.domain.specs.Settings.{Setting, Valid}
use Rattle.domain.specs.Calls.{Call, Run, start, step}
use Rattle.domain.specs.Premises.{Premises}
use Rattle.domain.specs.Ideals.{change_of}
use Rattle.domain.specs.Claim.{agreed, answered}
use Rattle.domain.proofs.Numbers.{numbers_are}
use Rattle.domain.proofs.Reached.{run_reached}
use Rattle.domain.proofs.Theorem.{agreed-numbered, demand3}
use Rattle.isolation.specs.Claim.{Settled}
use Rattle.isolation.proofs.Theorem.{all_agreed}
use Rattle.isolation.proofs.Fed.{closed, member, number_is}
use Rattle.isolation.proofs.Lasts.{in_turn_lem}

module _ (S : Setting) (v : Valid S) (calls : List Call) (p : Premises S calls) where
  abbrev after : Run
  after = run (step S) (start S) calls

  -- a change is made if its switch's last applied number is not below it
  pub made_by_last : (k : ℕ) → 1 ≤ k → k ≤ length (agreed S) → k ≤ (after.switches (change_of (agreed S) k).switch).last
      → is_among k (answered S after) ≡ true
  made_by_last k low high reached =
      let us = agreed S in
      let s = (change_of us k).switch in
      let m = (after.switches s).last in
      let safe = (run_reached S v calls p).invariant.safe in
      let self = safe.lasts s (omega arith) in
      let there : is_among m (answered S after) ≡ true = ap (is_among m) (numbers_are after.log) ∙ self.0 in
      let few = top m there in
      by_eq k m (λ e. ap (λ (j : ℕ). is_among j (answered S after)) e ∙ there)
      (λ n. rw (number_is us (agreed-numbered S v) k low high) at
      (closed us (answered S after) ((demand3 S v).safe calls p).in_order m there (change_of us k)
      (member us k low high)
      (in_turn_lem us (agreed-numbered S v) (λ j. true) s k m low (omega arith) few (eq-eqb s s refl)
      (eq-eqb (change_of us m).switch s self.1))))
    where
      top : (m : ℕ) → is_among m (answered S after) ≡ true → m ≤ length (agreed S)
      top m h = (all_agreed S v (answered S after) ((demand3 S v).safe calls p).in_order m h).1

  -- so all changes up to a number are, if this holds of each of them
  pub settled_by_lasts : (settled : ℕ) → settled ≤ length (agreed S)
      → ((k : ℕ) → 1 ≤ k → k ≤ settled → k ≤ (after.switches (change_of (agreed S) k).switch).last)
      → Settled S settled after
  settled_by_lasts settled few all k low high = made_by_last k low (omega arith) (all k low high)
