-- What a switch applied, by cases: nothing at one that there is not, else the rules of the deeds told, with the answer
-- of the rehearsal; and how many rules there are.
use mathlib.Core.Path.{◌≡◌, refl, ap, ◌∙◌}
use mathlib.Core.List.{List, [], ◌∷◌}
use Prim.Native.Nat.{ℕ, suc, ◌≤◌, ◌<◌}
use native.Mathlib.Omega.{arith}
use borrow.Author.Tests.{lt-ltb, le-ltb, eq-eqb, ne_eqb}
use lib.ListN.{length, take}
use lib.Seq.{length-take-le}
use Rattle.std.specs.Prelude.{None}
use Rattle.answer.specs.Limits.{switch_count}
use Rattle.answer.proofs.Asked.{none_asked, refused, asked}
use Rattle.answer.proofs.Bools.{by_eq, by_le, pick-keeps}
use Rattle.lists.proofs.Padding.{pad-take}
use Rattle.switch.specs.Slots.{empty_slot}
use Rattle.switch.specs.declared.Slot.{Slot}
use Rattle.rehearsal.specs.Deeds.{told_of}
use Rattle.rehearsal.specs.Limits.{most_lines}
use Rattle.rehearsal.specs.declared.Deed.{Deed}
use Rattle.rehearsal.proofs.Telling.{told_cases, told_room}
use Rattle.feed.specs.Rules.{is_applied, rules_applied, applied_by, applied_of, rules_in}

-- the deeds of a rehearsal
abbrev pub deeds_of : List ℕ → List Deed
deeds_of input = take (told_of None input).count (told_of None input).deeds

-- a deed has one rule at most
pub rules-few : (s : ℕ) (ds : List Deed) → length (rules_applied s ds) ≤ length ds
unfolding rules_applied
rules-few s [] = omega arith
rules-few s (d ∷ ds) =
    pick-keeps (λ (xs : List Slot). length xs ≤ suc (length ds)) (is_applied s d) _ _
    (λ e. omega (arith, rules-few s ds)) (λ e. omega (arith, rules-few s ds))

module _ (s : ℕ) (input : List ℕ) where
  told_few : length (rules_applied s (deeds_of input)) ≤ most_lines
  told_few =
      let room = told_room input refl in
      omega (
        arith,
        room.0,
        rules-few s (deeds_of input),
        length-take-le (told_of None input).count (told_of None input).deeds room.1,
      )

  -- a refused input has no rules
  none_told : ((told_of None input).answer ≡ 0 → ⊥) → rules_applied s (deeds_of input) ≡ []
  unfolding rules_applied
  none_told other = told_cases input (λ q no is. rw is) (λ is few. absurd (other (rw is)))

  pub known-applied : s < switch_count
      → applied_of s input ≡ applied_by (told_of None input).answer (rules_applied s (deeds_of input))
  unfolding applied_of
  known-applied known =
      let k = (told_of None input).answer in
      asked _ _ 12 _ _ (lt-ltb s switch_count known)
      ∙ by_eq k 0
      (λ good. asked _ _ k _ _ (eq-eqb k 0 good) ∙ none_asked _ _ ∙ rw good)
      (λ bad. refused _ _ k _ _ (ne_eqb k 0 bad) ∙ rw (none_told bad))

  pub unknown_applied : switch_count ≤ s → applied_of s input ≡ applied_by 12 []
  unfolding applied_of
  unknown_applied above = refused _ _ 12 _ _ (le-ltb s switch_count above)

  -- at most so many rules
  pub few-rules : (applied_of s input).count ≤ most_lines
  few-rules =
      by_le switch_count s
      (λ above. rw (unknown_applied above) (omega arith)) (λ known. rw (known-applied known) told_few)

  pub applied-rules : s < switch_count → rules_in (applied_of s input) ≡ rules_applied s (deeds_of input)
  applied-rules known =
      ap rules_in (known-applied known) ∙ pad-take most_lines empty_slot (rules_applied s (deeds_of input)) told_few
