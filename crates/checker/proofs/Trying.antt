-- What becomes of a packet under way at one switch: whether a number can be the last made there, and what is found once
-- the numbers up to it are made. Assumes nothing.
use mathlib.Core.Path.{◌≡◌, refl, sym, ap, ◌∙◌}
use mathlib.Core.Bool.{Bool, true, false, not, ◌&&◌, ◌||◌}
use mathlib.Core.List.{List, ◌∷◌}
use Prim.Native.Nat.{ℕ, zero, suc, ◌+◌, ◌-◌, ◌≤◌, ◌<◌}
use native.Mathlib.Omega.{arith}
use lib.Dec.{eqb, leb}
use lib.ListN.{length, get_or, replicate, get_or-replicate}
use borrow.Author.Tests.{ne_eqb, le-leb, lt-leb}
use Rattle.answer.specs.Ask.{pick}
use Rattle.answer.proofs.Bools.{by_bool, or_right}
use Rattle.lists.specs.Arrays.{every}
use Rattle.lists.specs.Counts.{passing}
use Rattle.flow.specs.Rules.{rule_key}
use Rattle.flow.specs.Lookups.{covers}
use Rattle.std.specs.Prelude.{Option, Some, None}
use Rattle.controller.specs.declared.Undone.{Undone}
use Rattle.protocol.specs.Orders.{up_to}
use Rattle.isolation.specs.Networks.{Link}
use Rattle.isolation.specs.Traces.{Step, over}
use Rattle.isolation.specs.Check.{covering, port_by, ports_after, finds_after, longest_to}
use Rattle.isolation.specs.Flights.{is_on, can_be_last}
use Rattle.checker.specs.Layout.{first_changes, changes_in, on_at}
use Rattle.checker.specs.declared.AgreedChange.{AgreedChange}
use Rattle.checker.specs.Marks.{made_in, rising_in, rising_from}
use Rattle.checker.specs.Trials.{none_later, step_trial, found_trial, spent_trial, trial_at}
use Rattle.checker.specs.Verdicts.{step_of}
use Rattle.checker.specs.declared.Onward.{Onward}
use Rattle.checker.specs.declared.Trial.TheVariants.{Passes, Spent}
use Rattle.checker.proofs.Listing.{change_is}
use Rattle.checker.proofs.Marking.{made-next}
use Rattle.checker.proofs.Needing.{rising_past, rising_next, rising_end}

no_or : (b : Bool) → (not b || false) ≡ not b
no_or true = refl
no_or false = refl

spends : (found : Option ℕ) (step : ℕ → Step) (budget : ℕ) → (budget ≡ 0 → ⊥)
    → found_trial found step (budget - 1) ≡ spent_trial found step budget
spends found step zero more = absurd (more refl)
spends found step (suc b) more = let z : suc b - 1 ≡ b = omega arith in ap (found_trial found step) z

-- a test of marked numbers
module _ (f : ℕ → Bool) (marks : List Bool) (count : ℕ) where
  every-next : (i : ℕ) → i < count
      → every f (rising_past marks count i)
      ≡ pick (get_or marks i false) (f (i + 1) && every f (rising_past marks count (i + 1)))
      (every f (rising_past marks count (i + 1)))
  unfolding every
  every-next i l =
      ap (every f) (rising_next marks count i l) ∙ by_bool (get_or marks i false) (λ e. rw e) (λ e. rw e)

  every_stop : (i : ℕ) → count ≤ i → every f (rising_past marks count i) ≡ true
  unfolding every
  every_stop i l = ap (every f) (rising_end marks count i l)

  every_front : (n : ℕ) → n ≤ count → ((k : ℕ) → k ≤ n → f k ≡ true)
      → every f (rising_in marks count) ≡ every f (rising_past marks count n)
  every_front zero l h =
      let z : count ≡ count - 0 = omega arith in
      ap (λ (n : ℕ). every f (rising_from marks 0 n)) z
  every_front (suc n) l h =
      let z : n + 1 ≡ suc n = omega arith in
      every_front n (omega arith) (λ k m. h k (omega arith))
      ∙ every-next n (omega arith)
      ∙ by_bool (get_or marks n false) (λ e. rw (e, z, h (suc n) (omega arith))) (λ e. rw (e, z))

module _ (laid : List AgreedChange) (s address : ℕ) where
  on_is : (k : ℕ) → 1 ≤ k → k ≤ length laid
      → is_on (changes_in laid) (covering (changes_in laid) address) s k ≡ on_at laid (k - 1) s address
  on_is k low high =
      ap (λ (u : Undone). covers (rule_key u.rule) address && eqb u.switch s) (change_is laid (length laid) k low high)

  -- those behind place i are left to be asked
  abbrev pub none_from : List Bool → ℕ → ℕ → Bool
  none_from marks number i =
      every (λ j. not (is_on (changes_in laid) (covering (changes_in laid) address) s j) || leb j number)
      (rising_past marks (length laid) i)

  pub none_start : (marks : List Bool) (number : ℕ) → number ≤ length laid
      → none_later laid s address number (rising_in marks (length laid)) ≡ none_from marks number number
  none_start marks number l =
      every_front (λ j. not (is_on (changes_in laid) (covering (changes_in laid) address) s j) || leb j number)
      marks (length laid) number l
      (λ k m. or_right (not (is_on (changes_in laid) (covering (changes_in laid) address) s k)) (leb k number)
      (le-leb k number m))

  none_next : (marks : List Bool) (number i : ℕ) → number ≤ i → i < length laid
      → none_from marks number i ≡ (not (get_or marks i false && on_at laid i s address) && none_from marks number (i + 1))
  none_next marks number i past l =
      let z : i + 1 - 1 ≡ i = omega arith in
      every-next (λ j. not (is_on (changes_in laid) (covering (changes_in laid) address) s j) || leb j number)
      marks (length laid) i l
      ∙ by_bool (get_or marks i false)
      (λ e. rw (e, on_is (i + 1) (omega arith) (omega arith), z, lt-leb (i + 1) number (omega arith))
      (ap (λ (b : Bool). b && none_from marks number (i + 1)) (no_or (on_at laid i s address))))
      (λ e. rw e)

  pub none_here : (marks : List Bool) (number i : ℕ) → number ≤ i → i < length laid → get_or marks i false ≡ true → (on : Bool)
      → on ≡ on_at laid i s address → none_from marks number i ≡ (not on && none_from marks number (i + 1))
  none_here marks number i past l m on o =
      none_next marks number i past l ∙ (λ k. not (m k && sym o k) && none_from marks number (i + 1))

  pub none_unmarked : (marks : List Bool) (number i : ℕ) → number ≤ i → i < length laid → get_or marks i false ≡ false
      → none_from marks number i ≡ none_from marks number (i + 1)
  none_unmarked marks number i past l m = none_next marks number i past l ∙ rw m

  pub none_stop : (marks : List Bool) (number i : ℕ) → length laid ≤ i → none_from marks number i ≡ true
  none_stop marks number i l =
      every_stop (λ j. not (is_on (changes_in laid) (covering (changes_in laid) address) s j) || leb j number)
      marks (length laid) i l

  -- a number can be the last made if it is none, or such a one, and no marked one above it is
  module _ (known : List ℕ) (number : ℕ) where
    pub last_none : number ≡ 0
        → none_later laid s address number known
        ≡ can_be_last (changes_in laid) (covering (changes_in laid) address) s known number
    last_none e = rw e

    module _ (some : 1 ≤ number) (within : number ≤ length laid) (on : Bool)
        (is : on ≡ on_at laid (number - 1) s address) where
      last_some : (on && none_later laid s address number known)
          ≡ can_be_last (changes_in laid) (covering (changes_in laid) address) s known number
      last_some =
          (λ k. (is ∙ sym (on_is number some within)) k && none_later laid s address number known)
          ∙ ap (λ (b : Bool). (b || is_on (changes_in laid) (covering (changes_in laid) address) s number)
          && none_later laid s address number known) (sym (ne_eqb number 0 (λ e. omega arith)))

      pub last_off : on ≡ false
          → false ≡ can_be_last (changes_in laid) (covering (changes_in laid) address) s known number
      last_off e = ap (λ (b : Bool). b && none_later laid s address number known) (sym e) ∙ last_some

      pub last_on : on ≡ true
          → none_later laid s address number known
          ≡ can_be_last (changes_in laid) (covering (changes_in laid) address) s known number
      last_on e = ap (λ (b : Bool). b && none_later laid s address number known) (sym e) ∙ last_some

-- what is found goes only by the changes made
module _ (laid : List AgreedChange) (n count s address : ℕ) (within : n ≤ count) where
  ports-same : (k l : ℕ) → k ≤ n
      → ports_after (first_changes laid n) (covering (first_changes laid n) address) (up_to k) s l
      ≡ ports_after (first_changes laid count) (covering (first_changes laid count) address) (up_to k) s l
  unfolding ports_after up_to
  ports-same zero l m = refl
  ports-same (suc k) l m =
      let p =
      change_is laid n (suc k) (omega arith) m
      ∙ sym (change_is laid count (suc k) (omega arith) (omega arith)) in
      λ i. pick (covers (rule_key (p i).rule) address && eqb (p i).switch s && eqb (p i).rule.length l)
      (port_by (p i).rule.action) (ports-same k l (omega arith) i)

made_all : (marks : List Bool) (n : ℕ) → ((i : ℕ) → i < n → get_or marks i false ≡ true) → made_in marks n ≡ up_to n
unfolding passing up_to
made_all marks zero h = refl
made_all marks (suc n) h =
    made-next marks n
    ∙ (λ i. pick (h n (omega arith) i) (suc n ∷ made_all marks n (λ j l. h j (omega arith)) i) (made_in marks n))

pub finds_all : (laid : List AgreedChange) (n count s address : ℕ) → n ≤ count → n ≤ 256
    → finds_after (first_changes laid n) (covering (first_changes laid n) address) (made_in (replicate 256 true) n) s
    ≡ finds_after (first_changes laid count) (covering (first_changes laid count) address) (up_to n) s
finds_all laid n count s address within few =
    ap (λ (made : List ℕ). finds_after (first_changes laid n) (covering (first_changes laid n) address) made s)
    (made_all (replicate 256 true) n (λ i l. get_or-replicate 256 i true false (omega arith)))
    ∙ (λ i. longest_to 32 (λ l. ports-same laid n count s address within n l (omega arith) i))

-- the cases of a trial
module _ (us : List Undone) (covered : ℕ → Bool) (c : ℕ) (links : List Link) (s : ℕ) (known : List ℕ)
    (number budget : ℕ) where
  pub trial_passed : can_be_last us covered s known number ≡ false
      → Passes budget ≡ trial_at us covered c links s known number budget
  trial_passed h = rw h

  module _ (able : can_be_last us covered s known number ≡ true) where
    pub trial_spent : budget ≡ 0 → Spent ≡ trial_at us covered c links s known number budget
    trial_spent z = rw (able, z)

    trial_found : (budget ≡ 0 → ⊥) → (found : Option ℕ) → found ≡ finds_after us covered (up_to number) s
        → found_trial found (λ (p : ℕ). over c links s p) (budget - 1) ≡ trial_at us covered c links s known number budget
    trial_found more found f = rw (able, ← f) (spends found (λ (p : ℕ). over c links s p) budget more)

    pub trial_nothing : (budget ≡ 0 → ⊥) → None ≡ finds_after us covered (up_to number) s
        → Passes (budget - 1) ≡ trial_at us covered c links s known number budget
    trial_nothing more f = trial_found more None f

    pub trial_onward : (budget ≡ 0 → ⊥) → (port : ℕ) → Some port ≡ finds_after us covered (up_to number) s
        → (onward : Onward) → step_of onward ≡ over c links s port
        → step_trial (step_of onward) (budget - 1) ≡ trial_at us covered c links s known number budget
    trial_onward more port f onward o =
        ap (λ (t : Step). step_trial t (budget - 1)) o ∙ trial_found more (Some port) f
