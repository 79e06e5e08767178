-- The second half of the claim. Where the controllers that keep the rules were brought the same changes, some perhaps
-- more, these are given at each of them, and as many full rounds as are unmade make all; so it is with decisions brought,
-- and with decisions taken.
use mathlib.Core.Path.{◌≡◌, sym, ap, ◌∙◌}
use mathlib.Core.Bool.{false, not}
use mathlib.Core.List.{List, ◌++◌}
use Prim.Native.Nat.{ℕ, ◌+◌, ◌≤◌, ◌<◌}
use native.Mathlib.Omega.{arith}
use lib.ListN.{length, get_or, length-append}
use borrow.Author.Tests.{ltb-true, not-true}
use Rattle.answer.proofs.Bools.{is_false}
use Rattle.lists.specs.Kinds.{is_among}
use Rattle.flow.specs.declared.Rule.{Rule}
use Rattle.flow.specs.declared.Table.{Table}
use Rattle.controller.specs.Changes.{empty_undone}
use Rattle.controller.specs.declared.Undone.{Undone}
use Rattle.protocol.specs.Runs.{run}
use Rattle.protocol.proofs.Ends as protocol
use Rattle.protocol.proofs.Worlds as protocol-worlds
use Rattle.protocol.proofs.Claims as protocol-claims
use Rattle.protocol.proofs.Families.{count-not, count_mono, count-places, lowest}
use Rattle.protocol.proofs.Runs.{run-append}
use Rattle.protocol.proofs.Rounds.{rounds_make}
use Rattle.domain.specs.Settings.{Decision, Setting, Valid, playbook, Keeps}
use Rattle.domain.specs.Calls.{Call, Run, start, step}
use Rattle.domain.specs.Premises.{brought, taken, Premises}
use Rattle.domain.specs.Agreement.{agreed_changes}
use Rattle.domain.specs.Claim.{changes_of, agreed, answered, unmade, AllBrought, RoundsMake}
use Rattle.domain.proofs.Courses.{agreed-fine, agreed_adds}
use Rattle.domain.proofs.View.{domain_of, view}
use Rattle.domain.proofs.Agreed.{stored, laws, beginning-few}
use Rattle.domain.proofs.Undone.{last_given}
use Rattle.domain.proofs.Reached.{Reached, Walked, premises_before, ranged, seen_all, start_reached}
use Rattle.domain.proofs.Reached.{run_reached}
use Rattle.domain.proofs.Numbers.{numbers_are, member_at}
use Rattle.domain.proofs.Room.{roomy}
use Rattle.domain.proofs.Turns.{Fair, premises_fair, fair_first, fair_rest, walked, rounds_seen}

module _ (S : Setting) (v : Valid S) where
  abbrev D : protocol.Domain Rule Table
  D = domain_of S

  -- some controller keeps the rules
  pub keeper : (c : ℕ) × Keeps S c
  keeper =
      let some = lowest S.n (λ c. not (S.strays c))
      (omega (arith, count-not S.n S.strays, v.straying, v.some)) in
      (some.0, (some.1, not-true _ some.2))

  module _ (before rest : List Call) (p : Premises S (before ++ rest)) (ds : List Decision)
      (least : (c : ℕ) → Keeps S c → (more : List Undone)
      × (changes_of S (brought c (run (step S) (start S) before).log)
      ≡ changes_of S ds ++ more)) where
    abbrev r : Run
    r = run (step S) (start S) before

    abbrev changes : List Undone
    changes = changes_of S ds

    all_fair : Fair S v (start S) (before ++ rest)
    all_fair = premises_fair S v (before ++ rest) p

    early : Fair S v (start S) before
    early = fair_first S v (start S) before rest all_fair

    later : Fair S v r rest
    later = fair_rest S v (start S) before rest all_fair

    R : Reached S r
    R = (walked S v (start S) (start_reached S v) before early).reached

    W : Walked S v r rest
    W = walked S v r R rest later

    at_least : (c : ℕ) → Keeps S c → length changes ≤ length (changes_of S (brought c r.log))
    at_least c keeps =
        let m = least c keeps in omega (arith, ap length m.1, length-append changes m.0)

    given : (c : ℕ) → c < S.n → S.strays c ≡ false → length changes ≤ ((view r).controllers c).last
    given c l keeps =
        let is = last_given S c _ _ (R.controllers c (l, keeps)) in
        omega (arith, is, at_least c (l, keeps))

    few-changes : length changes ≤ length (agreed S)
    few-changes =
        let c = keeper in
        let b = early.begun c.0 c.1 in
        let few = beginning-few S (brought c.0 r.log) b.0 b.1 in
        omega (arith, few, at_least c.0 c.1)

    -- the change at a place has the number that follows
    number_at : (i : ℕ) → i < length changes → (get_or changes i empty_undone).number ≡ i + 1
    number_at i l = (agreed-fine (playbook S) (stored S v (ranged S v)) (ranged S v) ds i l).numbered

    -- no more numbers are unmade in the protocol
    few-unmade : protocol-claims.unmade D (view r) (length changes) ≤ unmade S changes r
    few-unmade =
        rw (count-places (λ u. not (is_among u.number (answered S r))) changes empty_undone)
        (count_mono (length changes) _ _ (λ i l e.
        rw (number_at i l) (ap not (is_false (is_among (i + 1) (answered S r)) (λ h.
        let made = R.invariant.safe.highest (i + 1) (rw (numbers_are r.log) at h) in
        omega (arith, ltb-true ((view r).switches (D.switch (i + 1))).last (i + 1) e))))))

    all_made : RoundsMake S ds before rest
    all_made rounds u h =
        let there = member_at changes u empty_undone h in
        let k = there.0 + 1 in
        let number : u.number ≡ k =
        ap (λ (x : Undone). x.number) (sym there.2) ∙ number_at there.0 there.1 in
        let g : protocol-worlds.Agreed D k = (omega arith, omega (arith, there.1, few-changes)) in
        let done = rounds_make D (laws S v (ranged S v)) (roomy S v (ranged S v)) (length changes) few-changes
        (unmade S changes r) (view r) R.invariant (seen_all S v r rest) W.allowed
        (λ c i serves. given c serves.known serves.keeps) few-unmade
        (rounds_seen S v (unmade S changes r) r R rest later rounds) k (omega arith) (omega (arith, there.1)) in
        let last : k ≤ ((run (step S) r rest).switches (D.switch k)).last = rw (← W.is) at done in
        rw (number, run-append (step S) (start S) before rest, numbers_are (run (step S) r rest).log)
        (W.reached.invariant.all_made k g last)

  -- decisions brought
  pub brought-made : (before rest : List Call) → Premises S (before ++ rest) → (ds : List Decision)
      → AllBrought S ds (run (step S) (start S) before) → RoundsMake S ds before rest
  brought-made before rest p ds least =
      all_made before rest p ds (λ c keeps.
      let m = least c keeps in
      let adds = agreed_adds (playbook S) ds m.0 in
      (adds.0, ap (changes_of S) m.1 ∙ adds.1))

  -- a controller's decisions taken have the changes of those brought: one refused by 12, 22 or 23 has none
  pub taken-changes : (calls : List Call) → Premises S calls → (c : ℕ) → Keeps S c →
      let log = (run (step S) (start S) calls).log in
      changes_of S (brought c log) ≡ changes_of S (taken c log)
  unfolding agreed_changes
  taken-changes calls p c keeps = ap (λ a. a.changes) ((run_reached S v calls p).took c keeps)

  -- so what it took has the first of the agreed changes
  pub taken-agreed : (calls : List Call) → Premises S calls → (c : ℕ) → Keeps S c
      → (more : List Undone) × (agreed S ≡ changes_of S (taken c (run (step S) (start S) calls).log) ++ more)
  taken-agreed calls p c keeps =
      let b = p.beginning c keeps in
      let adds = agreed_adds (playbook S) (brought c (run (step S) (start S) calls).log) b.0 in (
        adds.0,
        ap (changes_of S) b.1 ∙ adds.1
            ∙ ap (λ (us : List Undone). us ++ adds.0) (taken-changes calls p c keeps),
      )

  -- decisions taken
  pub taken_made : (before rest : List Call) → Premises S (before ++ rest) → (ds : List Decision)
      → ((c : ℕ) → Keeps S c
      → (more : List Decision) × (taken c (run (step S) (start S) before).log ≡ ds ++ more))
      → RoundsMake S ds before rest
  taken_made before rest p ds least =
      all_made before rest p ds (λ c keeps.
      let m = least c keeps in
      let adds = agreed_adds (playbook S) ds m.0 in (
        adds.0,
        taken-changes before (premises_before S before rest p) c keeps
            ∙ ap (changes_of S) m.1 ∙ adds.1,
      ))
