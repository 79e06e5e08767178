-- One change more on the way through all sets of changes: it is left out where it would skip one, and else made, after
-- it was left out where it may wait. A change waits only for lower numbers, so those before it tell whether it skips
-- one. Assumes nothing.
use mathlib.Core.Path.{◌≡◌, refl, sym, ap, ◌∙◌}
use mathlib.Core.Bool.{Bool, true, false, not, ◌&&◌, ◌||◌}
use mathlib.Core.List.{List, ◌∷◌}
use Prim.Native.Nat.{ℕ, zero, suc, ◌+◌, ◌-◌, ◌≤◌, ◌<◌}
use native.Mathlib.Omega.{arith}
use native.Mathlib.Numerals.{add-one}
use lib.Dec.{ltb}
use lib.ListN.{length, set, get_or}
use borrow.Author.Tests.{not-true, not-false, le-ltb}
use Rattle.std.specs.Prelude.{Result, Ok, Err}
use Rattle.answer.specs.Ask.{pick}
use Rattle.lists.specs.Arrays.{every}
use Rattle.lists.specs.Kinds.{is_among}
use Rattle.flow.specs.Rules.{rule_key}
use Rattle.flow.specs.Lookups.{covers}
use Rattle.controller.specs.Readiness.{related, waits_for}
use Rattle.controller.specs.declared.Undone.{Undone}
use Rattle.domain.specs.Ideals.{change_of, skips_none}
use Rattle.isolation.specs.Traces.{follow}
use Rattle.isolation.specs.Check.{Failure, Verdict, fine, fails, and_then, tested, covering}
use Rattle.isolation.specs.Check.{finds_after, explore, wanted_after}
use Rattle.checker.specs.Layout.{listed_from, no_change, covers_address, change_at, first_changes, changes_in}
use Rattle.checker.specs.Layout.{links_in, network_for, traffic_of}
use Rattle.checker.specs.Marks.{made_in}
use Rattle.checker.specs.Verdicts.{end_of, wanted_by, blamed}
use Rattle.checker.specs.Checked.{outcome_of}
use Rattle.checker.specs.declared.AgreedChange.{AgreedChange}
use Rattle.checker.specs.declared.Ending.{Ending}
use Rattle.checker.specs.declared.PortLink.{PortLink}
use Rattle.checker.specs.declared.Quest.{Quest}
use Rattle.checker.specs.declared.Refusal.{Refusal}
use Rattle.checker.specs.declared.Refusal.TheVariants.{Undecided}
use Rattle.checker.proofs.Listing.{change_is}
use Rattle.checker.proofs.Marking.{made_with, made_without}
use Rattle.checker.proofs.Outcomes.{goes_on, stops}

-- a state tested: the budget is spent, or the packets end as wanted, or not
module _ (good : Bool) (f : Failure) where
  pub tested_spent : (budget : ℕ) → budget ≡ 0 → Err Undecided ≡ outcome_of (tested good f budget)
  tested_spent budget z = ap (λ (b : ℕ). outcome_of (tested good f b)) (sym z)

  pub tested-good : (budget : ℕ) → (budget ≡ 0 → ⊥) → good ≡ true → Ok (budget - 1) ≡ outcome_of (tested good f budget)
  tested-good zero z g = absurd (z refl)
  tested-good (suc budget) z g = let b : suc budget - 1 ≡ budget = omega arith in rw (g, b)

  pub tested_bad : (budget : ℕ) → (budget ≡ 0 → ⊥) → good ≡ false
      → outcome_of (fails f) ≡ outcome_of (tested good f budget)
  tested_bad zero z g = absurd (z refl)
  tested_bad (suc budget) z g = rw g

-- tests that pass from a place on need not be asked there
every-listed : {A : Type 0} (f : A → Bool) (g : ℕ → A) (i n k : ℕ) → k ≤ n
    → ((j : ℕ) → i + k ≤ j → f (g j) ≡ true) → every f (listed_from g i k) ≡ every f (listed_from g i n)
unfolding every listed_from
every-listed f g i zero zero l h = refl
every-listed f g i zero (suc k) l h = absurd (omega arith)
every-listed f g i (suc n) zero l h =
    rw (h i (omega arith)) (every-listed f g (suc i) n zero (omega arith) (λ j m. h j (omega arith)))
every-listed f g i (suc n) (suc k) l h =
    ap (λ (b : Bool). f (g i) && b) (every-listed f g (suc i) n k (omega arith) (λ j m. h j (omega arith)))

-- what the code asks of the change at a place: whether each one before it that it waits for is made
abbrev pub skips_at : List AgreedChange → ℕ → List ℕ → Bool
skips_at laid k made =
    every (λ v. not (waits_for (change_at laid k) v) || is_among v.number made) (first_changes laid k)

-- none waits for a number that is not lower
not_waiting : (tied b : Bool) (m n : ℕ) → n ≤ m → (not (ltb m n && tied) || b) ≡ true
not_waiting tied b m n l = rw (le-ltb m n l)

-- the change with the number after a place
change-after : (laid : List AgreedChange) (n k : ℕ) → k < n → change_of (first_changes laid n) (k + 1) ≡ change_at laid k
change-after laid n k l =
    let e : k + 1 - 1 ≡ k = omega arith in
    change_is laid n (k + 1) (omega arith) (omega arith) ∙ ap (change_at laid) e

skips_same : (laid : List AgreedChange) (n k : ℕ) (made : List ℕ) → k < n
    → skips_at laid k made ≡ skips_none (first_changes laid n) made (change_of (first_changes laid n) (k + 1))
skips_same laid n k made l =
    every-listed (λ v. not (waits_for (change_at laid k) v) || is_among v.number made) (change_at laid) 0 n k
    (omega arith)
    (λ j m. not_waiting (related (change_at laid k) (change_at laid j)) (is_among (j + 1) made) (j + 1) (k + 1)
    (omega arith))
    ∙ ap (λ (u : Undone). skips_none (first_changes laid n) made u) (sym (change-after laid n k l))

-- and whether it may stay unmade
abbrev pub waits_at : List AgreedChange → ℕ → ℕ → ℕ → Bool
waits_at laid address settled k = covers_address (get_or laid k no_change) address && ltb settled (k + 1)

waits_same : (laid : List AgreedChange) (n address settled k : ℕ) → k < n
    → waits_at laid address settled k ≡ (covering (first_changes laid n) address (k + 1) && ltb settled (k + 1))
waits_same laid n address settled k l =
    ap (λ (u : Undone). covers (rule_key u.rule) address && ltb settled (k + 1)) (sym (change-after laid n k l))

module _ (laid : List AgreedChange) (links : List PortLink) (q : Quest) (address : ℕ) where
  -- whether packets end as wanted once some numbers are made
  abbrev pub good_once : List ℕ → Bool
  good_once =
      wanted_after (changes_in laid) (wanted_by q.aim) q.settled (network_for links) (traffic_of q)
      (covering (changes_in laid) address)

  -- the code is told of a way's end whether it is wanted
  pub good_told : (made : List ℕ) (e : Ending) {told b : Bool} → told ≡ wanted_by q.aim (traffic_of q) (end_of e)
      → end_of e
      ≡ follow q.line.client (links_in links)
      (λ (s : ℕ). finds_after (changes_in laid) (covering (changes_in laid) address) made s) 16
      q.line.entry
      → told ≡ b → good_once made ≡ b
  good_told made e w f h = ap (wanted_by q.aim (traffic_of q)) (sym f) ∙ sym w ∙ h

  -- so many changes, from a number on
  abbrev pub explored : ℕ → ℕ → List ℕ → ℕ → Verdict
  explored left number made budget =
      explore (changes_in laid) (covering (changes_in laid) address) good_once (blamed q address)
      q.settled left number made budget

  -- the changes from a place on
  abbrev pub from : ℕ → List ℕ → ℕ → Verdict
  from k made budget = explored (length laid - k) (k + 1) made budget

  -- one step, by what the code asks at its place
  from_step : (k : ℕ) (made : List ℕ) (budget : ℕ) → k < length laid
      → from k made budget
      ≡ pick (skips_at laid k made)
      (and_then (pick (waits_at laid address q.settled k) (from (k + 1) made budget) (fine budget))
      (λ (b : ℕ). from (k + 1) ((k + 1) ∷ made) b))
      (from (k + 1) made budget)
  unfolding explore
  from_step k made budget l =
      let z : length laid - k ≡ suc (length laid - (k + 1)) = omega arith in
      let a : suc (k + 1) ≡ k + 1 + 1 = omega arith in
      ap (λ (left : ℕ). explored left (k + 1) made budget) z
      ∙ (λ i. pick (sym (skips_same laid (length laid) k made l) i)
      (and_then (pick (sym (waits_same laid (length laid) address q.settled k l) i)
      (explored (length laid - (k + 1)) (a i) made budget) (fine budget))
      (λ (b : ℕ). explored (length laid - (k + 1)) (a i) ((k + 1) ∷ made) b))
      (explored (length laid - (k + 1)) (a i) made budget))

  module _ (marks : List Bool) (k budget : ℕ) where
    -- past the last change the state is tested
    pub ended : (r : Result ℕ Refusal) → k ≤ length laid → length laid ≤ k
        → r ≡ outcome_of (tested (good_once (made_in marks (length laid))) (blamed q address (made_in marks (length laid)))
        budget)
        → r ≡ outcome_of (from k (made_in marks k) budget)
    unfolding explore
    ended r low high e =
        let z : 0 ≡ length laid - k = omega arith in
        let n : length laid ≡ k = omega arith in
        e
        ∙ ap (λ (made : List ℕ). outcome_of (tested (good_once made) (blamed q address made) budget))
        (ap (made_in marks) n)
        ∙ ap (λ (left : ℕ). outcome_of (explored left (k + 1) (made_in marks k) budget)) z

    module _ (room : k < length marks) (more : k < length laid) where
      without : made_in (set marks k false) (k + 1) ≡ made_in marks k
      without = ap (made_in (set marks k false)) (add-one k) ∙ made_without marks k room

      with : made_in (set marks k true) (k + 1) ≡ (k + 1) ∷ made_in marks k
      with =
          ap (made_in (set marks k true)) (add-one k)
          ∙ made_with marks k room
          ∙ ap (λ (j : ℕ). j ∷ made_in marks k) (sym (add-one k))

      -- the changes after this one, left out or made
      abbrev unmade : Verdict
      unmade = from (k + 1) (made_in (set marks k false) (k + 1)) budget

      abbrev made : ℕ → Verdict
      made b = from (k + 1) (made_in (set marks k true) (k + 1)) b

      -- the code is told whether this change skips none; where it would skip one, it is left out
      module _ {skips : Bool} (skipped : skips ≡ skips_at laid k (made_in marks k)) where
        pub left_out : (r : Result ℕ Refusal) → not skips ≡ true → r ≡ outcome_of unmade
            → r ≡ outcome_of (from k (made_in marks k) budget)
        left_out r s e =
            e
            ∙ ap outcome_of (ap (λ (ms : List ℕ). from (k + 1) ms budget) without
            ∙ sym (from_step k (made_in marks k) budget more ∙ rw (sym skipped ∙ not-true skips s)))

        -- else it is told whether the change may wait; one that may not is made
        module _ (s : not skips ≡ false) {waits : Bool} (waited : waits ≡ waits_at laid address q.settled k) where
          pub made_at_once : (r : Result ℕ Refusal) (left : ℕ) → waits ≡ false → left ≡ budget → r ≡ outcome_of (made left)
              → r ≡ outcome_of (from k (made_in marks k) budget)
          made_at_once r left w b e =
              e
              ∙ ap outcome_of ((λ i. from (k + 1) (with i) (b i))
              ∙ sym (from_step k (made_in marks k) budget more
              ∙ rw (sym skipped ∙ not-false skips s, sym waited ∙ w)))

          -- one that may is left out first, and made with what that leaves
          left_out_first : waits ≡ true → from k (made_in marks k) budget ≡ and_then unmade made
          left_out_first w =
              from_step k (made_in marks k) budget more
              ∙ rw (sym skipped ∙ not-false skips s, sym waited ∙ w)
              (λ i. and_then (from (k + 1) (sym without i) budget) (λ (b : ℕ). from (k + 1) (sym with i) b))

          module _ (w : waits ≡ true) where
            pub unmade_bad : (r : Refusal) → Err r ≡ outcome_of unmade
                → Err r ≡ outcome_of (from k (made_in marks k) budget)
            unmade_bad r ruled = stops unmade r made ruled ∙ ap outcome_of (sym (left_out_first w))

            pub made_after : (r : Result ℕ Refusal) (b left : ℕ) → Ok b ≡ outcome_of unmade → left ≡ b
                → r ≡ outcome_of (made left) → r ≡ outcome_of (from k (made_in marks k) budget)
            made_after r b left ruled e told =
                told ∙ ap outcome_of (ap made e ∙ sym (left_out_first w ∙ goes_on unmade b made ruled))
