-- A controller that each switch's acknowledgement reached knows of each number made before that it is done. So where all
-- that it was brought is made, it holds no undone change.
use mathlib.Core.Path.{◌≡◌, refl, ap, ◌∙◌}
use mathlib.Core.Bool.{Bool, true, false}
use mathlib.Core.List.{List, [], ◌∷◌, Memᴰ}
use Prim.Native.Nat.{ℕ, suc, ◌+◌, ◌≤◌, ◌<◌}
use native.Mathlib.Omega.{arith}
use lib.ListN.{length, get_or}
use borrow.Author.Tests.{le-ltb}
use Rattle.lists.specs.Counts.{passing}
use Rattle.lists.specs.Kinds.{is_among}
use Rattle.flow.specs.declared.Rule.{Rule}
use Rattle.flow.specs.declared.Table.{Table}
use Rattle.controller.specs.Acknowledgements.{acknowledged_of}
use Rattle.controller.specs.Calls as controller-calls
use Rattle.controller.specs.Changes.{empty_undone, undone_of, is_undone}
use Rattle.controller.specs.declared.Undone.{Undone}
use Rattle.protocol.specs.Runs.{run}
use Rattle.protocol.proofs.Ends as protocol
use Rattle.protocol.proofs.Worlds.{Agreed}
use Rattle.protocol.proofs.Rounds.{acknowledged-after}
use Rattle.domain.specs.Settings.{Setting, Valid, Keeps}
use Rattle.domain.specs.Calls.{Call, at_controller, Run, step}
use Rattle.domain.specs.Premises.{brought}
use Rattle.domain.specs.Agreement.{agreed_changes}
use Rattle.domain.specs.Rounds.{acknowledgement_now, Delivered}
use Rattle.domain.specs.Claim.{changes_of, answered}
use Rattle.domain.proofs.View.{domain_of, view}
use Rattle.domain.proofs.Agreed.{laws, change-fine, beginning_is}
use Rattle.domain.proofs.Reached.{Reached, Walked, ranged, seen_all}
use Rattle.domain.proofs.Numbers.{numbers_are, at_member}
use Rattle.domain.proofs.Room.{roomy}
use Rattle.domain.proofs.Turns.{Fair, walked, told_seen}

-- a list none of whose members passes
none_pass : {A : Type 0} (f : A → Bool) (l : List A) (z : A) → ((i : ℕ) → i < length l → f (get_or l i z) ≡ false)
    → passing f l ≡ []
unfolding passing
none_pass f [] z h = refl
none_pass f (x ∷ l) z h = rw (h 0 (omega arith)) (none_pass f l z (λ i low. h (suc i) (omega arith)))

module _ (S : Setting) (v : Valid S) (r : Run) (R : Reached S r) (xs : List Call) (f : Fair S v r xs) (c : ℕ)
    (keeps : Keeps S c) (told : (s : ℕ) → s < 16 → Delivered S (S.key c s) (λ u. acknowledgement_now u s c)
    (λ bytes. at_controller c (controller-calls.receives bytes)) r xs) where
  abbrev D : protocol.Domain Rule Table
  D = domain_of S

  abbrev after : Run
  after = run (step S) r xs

  W : Walked S v r xs
  W = walked S v r R xs f

  pub told_after : (k : ℕ) → Agreed D k → k ≤ (r.switches (D.switch k)).last
      → k ≤ acknowledged_of (after.controllers c) (D.switch k)
  told_after k g done =
      let known = acknowledged-after D (laws S v (ranged S v)) (roomy S v (ranged S v)) c k (view r) R.invariant done
      (seen_all S v r xs) W.allowed (told_seen S v c keeps.0 r R xs f told k g) in
      rw (← W.is) at known

  pub none-held : ((u : Undone) → Memᴰ u (changes_of S (brought c after.log))
      → is_among u.number (answered S r) ≡ true) → undone_of (after.controllers c) ≡ []
  unfolding agreed_changes
  none-held made =
      let t = after.controllers c in
      let us = changes_of S (brought c after.log) in
      let b = f.begun c keeps in
      (W.reached.controllers c keeps).follows.undone
      ∙ none_pass (is_undone t.progress.acknowledged) us empty_undone (λ i l.
      let u = get_or us i empty_undone in
      let is = beginning_is S v (ranged S v) (brought c after.log) b.0 b.1 i l in
      let g : Agreed D (i + 1) = (omega arith, omega (arith, is.1)) in
      let number : u.number ≡ i + 1 =
      ap (λ (w : Undone). w.number) is.0 ∙ (change-fine S v (ranged S v) (i + 1) g).numbered in
      let switch : u.switch ≡ D.switch (i + 1) = ap (λ (w : Undone). w.switch) is.0 in
      let there = rw (number, numbers_are r.log) at (made u (at_member us i empty_undone l)) in
      let done = told_after (i + 1) g (R.invariant.safe.highest (i + 1) there) in
      rw (number, switch) (le-ltb (acknowledged_of t (D.switch (i + 1))) (i + 1) done))
