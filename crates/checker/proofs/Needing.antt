-- The numbers that marks make, the lowest first, and what is known with them: each number for which one of them waits.
-- Assumes nothing.
use mathlib.Core.Path.{◌≡◌, refl, sym, ap, ◌∙◌}
use mathlib.Core.Bool.{Bool, true, false, ◌&&◌, ◌||◌}
use mathlib.Core.List.{List, [], ◌∷◌, ◌++◌}
use Prim.Native.Nat.{ℕ, zero, suc, ◌+◌, ◌-◌, ◌≤◌, ◌<◌, min}
use native.Mathlib.Omega.{arith}
use lib.Dec.{leb}
use lib.ListN.{length, get_or, set, drop, replicate, length-replicate, get_or-append, get_or-replicate}
use lib.Seq.{get_or-set_same, get_or-set_other, get_or-append_right}
use Rattle.std.proofs.lemmas.List.{get_or-drop}
use borrow.Author.Tests.{eq-eqb, ne_eqb, le-leb, lt-leb}
use Rattle.answer.specs.Ask.{pick}
use Rattle.answer.proofs.Bools.{by_bool, by_eq, by_le, or_left, or_right, or_join}
use Rattle.lists.specs.Counts.{passing}
use Rattle.lists.specs.Kinds.{among, is_among}
use Rattle.controller.specs.Readiness.{waits_for}
use Rattle.controller.specs.declared.Undone.{Undone}
use Rattle.protocol.specs.Orders.{up_to}
use Rattle.isolation.specs.Flights.{is_needed, with_needs, known_at}
use Rattle.checker.specs.Layout.{change_at, first_changes, changes_in}
use Rattle.checker.specs.declared.AgreedChange.{AgreedChange}
use Rattle.checker.specs.Marks.{marked, made_in, rising_from, rising_in}
use Rattle.checker.proofs.Listing.{listed-length, change_is}

-- the marked numbers of the places from one on, of so many in all
abbrev pub rising_past : List Bool → ℕ → ℕ → List ℕ
rising_past marks count i = rising_from marks i (count - i)

pub rising_next : (marks : List Bool) (count i : ℕ) → i < count
    → rising_past marks count i
    ≡ pick (get_or marks i false) ((i + 1) ∷ rising_past marks count (i + 1)) (rising_past marks count (i + 1))
unfolding rising_from
rising_next marks count i l =
    let e : count - i ≡ suc (count - (i + 1)) = omega arith in
    let z : suc i ≡ i + 1 = omega arith in
    ap (rising_from marks i) e
    ∙ (λ k. pick (get_or marks i false) (z k ∷ rising_from marks (z k) (count - (i + 1)))
    (rising_from marks (z k) (count - (i + 1))))

pub rising_end : (marks : List Bool) (count i : ℕ) → count ≤ i → rising_past marks count i ≡ []
unfolding rising_from
rising_end marks count i l = let e : count - i ≡ 0 = omega arith in ap (rising_from marks i) e

-- the marks of these places decide
rising_same : (marks others : List Bool) (i n : ℕ)
    → ((k : ℕ) → i ≤ k → get_or marks k false ≡ get_or others k false) → rising_from marks i n ≡ rising_from others i n
unfolding rising_from
rising_same marks others i zero h = refl
rising_same marks others i (suc n) h =
    let rest = rising_same marks others (suc i) n (λ k l. h k (omega arith)) in
    λ k. pick (h i (omega arith) k) (suc i ∷ rest k) (rest k)

-- a number is among them exactly if it is marked
rising_low : (marks : List Bool) (i n k : ℕ) → k ≤ i → is_among k (rising_from marks i n) ≡ false
unfolding rising_from among
rising_low marks i zero k l = refl
rising_low marks i (suc n) k l =
    by_bool (get_or marks i false)
    (λ e. rw (e, ne_eqb (suc i) k (λ q. omega arith)) (rising_low marks (suc i) n k (omega arith)))
    (λ e. rw e (rising_low marks (suc i) n k (omega arith)))

among-from : (marks : List Bool) (i n k : ℕ) → i < k → k ≤ i + n → is_among k (rising_from marks i n) ≡ marked marks k
unfolding rising_from among
among-from marks i zero k low high = absurd (omega arith)
among-from marks i (suc n) k low high =
    by_eq k (suc i)
    (λ q.
    let z : k - 1 ≡ i = omega arith in
    by_bool (get_or marks i false)
    (λ e. rw (z, e, eq-eqb (suc i) k (sym q)))
    (λ e. rw (z, e) (rising_low marks (suc i) n k (omega arith))))
    (λ q.
    let rest = among-from marks (suc i) n k (omega arith) (omega arith) in
    by_bool (get_or marks i false)
    (λ e. rw (e, ne_eqb (suc i) k (λ p. q (sym p))) rest)
    (λ e. rw e rest))

among_rising : (marks : List Bool) (n k : ℕ) → 1 ≤ k → k ≤ n → is_among k (rising_in marks n) ≡ marked marks k
among_rising marks n k low high = among-from marks 0 n k (omega arith) (omega arith)

passing-numbers : (f g : ℕ → Bool) (n : ℕ) → ((k : ℕ) → 1 ≤ k → k ≤ n → f k ≡ g k)
    → passing f (up_to n) ≡ passing g (up_to n)
unfolding passing up_to
passing-numbers f g zero h = refl
passing-numbers f g (suc n) h =
    let rest = passing-numbers f g n (λ k low high. h k low (omega arith)) in
    λ i. pick (h (suc n) (omega arith) (omega arith) i) (suc n ∷ rest i) (rest i)

-- from the highest one down, they are the numbers that the marks make
pub rising_made : (marks : List Bool) (n : ℕ) → passing (λ j. is_among j (rising_in marks n)) (up_to n) ≡ made_in marks n
rising_made marks n = passing-numbers (λ j. is_among j (rising_in marks n)) (marked marks) n (among_rising marks n)

-- only the numbers up to the highest one are asked whether they are known
needs_same : (us : List Undone) (f g : ℕ → Bool) (n : ℕ) (found : List ℕ)
    → ((k : ℕ) → 1 ≤ k → k ≤ n → f k ≡ g k) → with_needs us f n found ≡ with_needs us g n found
unfolding with_needs
needs_same us f g zero found h = refl
needs_same us f g (suc n) found h =
    needs_same us f g n (pick (f (suc n) || is_needed us (suc n) found) (suc n ∷ found) found)
    (λ k low high. h k low (omega arith))
    ∙ ap (λ (b : Bool). with_needs us g n (pick (b || is_needed us (suc n) found) (suc n ∷ found) found))
    (h (suc n) (omega arith) (omega arith))

module _ (laid : List AgreedChange) (count : ℕ) where
  -- the change at place i is looked at, whether it waits for the one at place j
  needed_next : (marks : List Bool) (j i : ℕ) → j < count → i < count
      → is_needed (first_changes laid count) (j + 1) (rising_past marks count i)
      ≡ (get_or marks i false && waits_for (change_at laid i) (change_at laid j)
      || is_needed (first_changes laid count) (j + 1) (rising_past marks count (i + 1)))
  unfolding is_needed
  needed_next marks j i lj li =
      let us = first_changes laid count in
      let zj : j + 1 - 1 ≡ j = omega arith in
      let zi : i + 1 - 1 ≡ i = omega arith in
      let u = change_is laid count (i + 1) (omega arith) (omega arith) ∙ ap (change_at laid) zi in
      let v = change_is laid count (j + 1) (omega arith) (omega arith) ∙ ap (change_at laid) zj in
      ap (is_needed us (j + 1)) (rising_next marks count i li)
      ∙ by_bool (get_or marks i false)
      (λ e. rw e (λ k. waits_for (u k) (v k) || is_needed us (j + 1) (rising_past marks count (i + 1))))
      (λ e. rw e)

  pub needed_here : (marks : List Bool) (j i : ℕ) → j < count → i < count → get_or marks i false ≡ true → (waits : Bool)
      → waits ≡ waits_for (change_at laid i) (change_at laid j)
      → is_needed (first_changes laid count) (j + 1) (rising_past marks count i)
      ≡ (waits || is_needed (first_changes laid count) (j + 1) (rising_past marks count (i + 1)))
  needed_here marks j i lj li m waits w =
      needed_next marks j i lj li
      ∙ (λ k. m k && sym w k || is_needed (first_changes laid count) (j + 1) (rising_past marks count (i + 1)))

  pub needed_unmarked : (marks : List Bool) (j i : ℕ) → j < count → i < count → get_or marks i false ≡ false
      → is_needed (first_changes laid count) (j + 1) (rising_past marks count i)
      ≡ is_needed (first_changes laid count) (j + 1) (rising_past marks count (i + 1))
  needed_unmarked marks j i lj li m = needed_next marks j i lj li ∙ rw m

  pub needed_end : (marks : List Bool) (j i : ℕ) → count ≤ i
      → is_needed (first_changes laid count) (j + 1) (rising_past marks count i) ≡ false
  unfolding is_needed
  needed_end marks j i l = ap (is_needed (first_changes laid count) (j + 1)) (rising_end marks count i l)

  -- place m is decided, those behind it stay
  needs_turn : (known : ℕ → Bool) (out next : List Bool) (j m : ℕ) (b : Bool) → j ≡ m + 1 → m < count
      → (known j || is_needed (first_changes laid count) (m + 1) (rising_past out count (m + 1))) ≡ b
      → get_or next m false ≡ b → ((k : ℕ) → m < k → get_or next k false ≡ get_or out k false)
      → with_needs (first_changes laid count) known j (rising_past out count j)
      ≡ with_needs (first_changes laid count) known m (rising_past next count m)
  unfolding with_needs
  needs_turn known out next j m b e l h g same =
      let us = first_changes laid count in
      let s : j ≡ suc m = omega arith in
      let s' : suc m ≡ m + 1 = omega arith in
      let there = rising_next next count m l
      ∙ (λ k. pick (g k) ((m + 1) ∷ rising_same next out (m + 1) (count - (m + 1)) (λ i n. same i (omega arith)) k)
      (rising_same next out (m + 1) (count - (m + 1)) (λ i n. same i (omega arith)) k)) in
      (λ k. with_needs us known (s k) (rising_past out count (e k)))
      ∙ (λ k. with_needs us known m (pick (known (s' k) || is_needed us (s' k) (rising_past out count (m + 1)))
      (s' k ∷ rising_past out count (m + 1)) (rising_past out count (m + 1))))
      ∙ (λ k. with_needs us known m (pick ((ap (λ (i : ℕ). known i || is_needed us (m + 1) (rising_past out count (m + 1)))
      (sym e) ∙ h) k)
      ((m + 1) ∷ rising_past out count (m + 1)) (rising_past out count (m + 1))))
      ∙ ap (with_needs us known m) (sym there)

  needs_start : (known : ℕ → Bool) (out : List Bool)
      → with_needs (first_changes laid count) known count []
      ≡ with_needs (first_changes laid count) known count (rising_past out count count)
  needs_start known out =
      ap (with_needs (first_changes laid count) known count) (sym (rising_end out count count (omega arith)))

  needs_end : (known : ℕ → Bool) (out : List Bool) (j : ℕ) → j ≡ 0
      → with_needs (first_changes laid count) known j (rising_past out count j) ≡ rising_in out count
  unfolding with_needs
  needs_end known out j e =
      let z : count - 0 ≡ count = omega arith in
      (λ k. with_needs (first_changes laid count) known (e k) (rising_past out count (e k))) ∙ ap (rising_from out 0) z

  -- from the last place down: those from j on are decided, and the marks below are still the first ones
  abbrev pub Decided : List Bool → List Bool → ℕ → Type 0
  Decided marks out j =
      (with_needs (first_changes laid count) (marked marks) count []
      ≡ with_needs (first_changes laid count) (marked marks) j (rising_past out count j))
      × ((i : ℕ) → i < j → get_or out i false ≡ get_or marks i false)

  pub decided_none : (marks : List Bool) → Decided marks marks count
  decided_none marks = (needs_start (marked marks) marks, λ i l. refl)

  pub decided_all : (marks out : List Bool) (j : ℕ) → Decided marks out j → j ≡ 0
      → rising_in out count ≡ with_needs (first_changes laid count) (marked marks) count []
  decided_all marks out j d e = sym (d.0 ∙ needs_end (marked marks) out j e)

  module _ (marks out : List Bool) (j : ℕ) (d : Decided marks out j) (some : 0 < j) (within : j ≤ count) where
    -- the change at the place before j is marked, or needed, or neither
    pub decided-marked : get_or out (j - 1) false ≡ true → Decided marks out (j - 1)
    decided-marked m = (
      d.0 ∙ needs_turn (marked marks) out out j (j - 1) true (omega arith) (omega arith)
          (or_left (marked marks j) _ (sym (d.1 (j - 1) (omega arith)) ∙ m)) m (λ k l. refl),
      λ i l. d.1 i (omega arith),
    )

    module _ (needed : Bool)
        (is : needed ≡ is_needed (first_changes laid count) (j - 1 + 1) (rising_past out count (j - 1 + 1))) where
      pub decided_needed : j ≤ length out → needed ≡ true → Decided marks (set out (j - 1) true) (j - 1)
      decided_needed fits y = (
        d.0 ∙ needs_turn (marked marks) out (set out (j - 1) true) j (j - 1) true (omega arith) (omega arith)
            (or_right (marked marks j) _ (sym is ∙ y)) (get_or-set_same out (j - 1) true false (omega arith))
            (λ k l. get_or-set_other out (j - 1) k true false (λ e. omega arith)),
        λ i l. get_or-set_other out (j - 1) i true false (λ e. omega arith) ∙ d.1 i (omega arith),
      )

      pub decided_neither : get_or out (j - 1) false ≡ false → needed ≡ false → Decided marks out (j - 1)
      decided_neither m n = (
        d.0 ∙ needs_turn (marked marks) out out j (j - 1) false (omega arith) (omega arith)
            (or_join (marked marks j) _ (sym (d.1 (j - 1) (omega arith)) ∙ m) (sym is ∙ n)) m (λ k l. refl),
        λ i l. d.1 i (omega arith),
      )

  -- a number more is the last made
  marked_also : (marks : List Bool) (number j : ℕ) → 1 ≤ number → number ≤ length marks → 1 ≤ j → j ≤ count
      → marked (set marks (number - 1) true) j ≡ is_among j (number ∷ rising_in marks count)
  unfolding among
  marked_also marks number j one fits low high =
      by_eq number j
      (λ q.
      let z : j - 1 ≡ number - 1 = omega arith in
      rw (z, eq-eqb number j q) (get_or-set_same marks (number - 1) true false (omega arith)))
      (λ q. rw (ne_eqb number j q) (get_or-set_other marks (number - 1) (j - 1) true false (λ p. q (omega arith))
      ∙ sym (among_rising marks count j low high)))

  pub known_with : (marks : List Bool) (number : ℕ) → 1 ≤ number → number ≤ count → count ≤ length marks
      → with_needs (first_changes laid count) (marked (set marks (number - 1) true)) count []
      ≡ known_at (first_changes laid count) (rising_in marks count) number
  known_with marks zero one within fits = absurd (omega arith)
  known_with marks (suc k) one within fits =
      needs_same (first_changes laid count) (marked (set marks (suc k - 1) true))
      (λ j. is_among j (suc k ∷ rising_in marks count)) count []
      (λ j low high. marked_also marks (suc k) j (omega arith) (omega arith) low high)
      ∙ ap (λ (n : ℕ). with_needs (first_changes laid count) (λ j. is_among j (suc k ∷ rising_in marks count)) n [])
      (sym (listed-length (change_at laid) 0 count))

  pub known_none : (marks : List Bool) (number : ℕ) → number ≡ 0
      → rising_in marks count ≡ known_at (first_changes laid count) (rising_in marks count) number
  known_none marks number e = sym (ap (known_at (first_changes laid count) (rising_in marks count)) e)

-- the first places are marked, as many as there are settled numbers
unmarked : (n k : ℕ) → get_or (replicate n false) k false ≡ false
unmarked zero k = refl
unmarked (suc n) zero = refl
unmarked (suc n) (suc k) = unmarked n k

module _ (laid : List AgreedChange) (settled m : ℕ) (is : m ≡ min settled (length laid)) (filled : List Bool)
    (all : filled ≡ replicate m true) where
  abbrev marks : List Bool
  marks = filled ++ drop m (replicate 256 false)

  settled_one : (k : ℕ) → 1 ≤ k → k ≤ length laid → marked marks k ≡ leb k settled
  settled_one k low high =
      let long : length filled ≡ m = ap length all ∙ length-replicate m true in
      by_le k settled
      (λ h. get_or-append filled (drop m (replicate 256 false)) false (k - 1) (omega arith)
      ∙ ap (λ (l : List Bool). get_or l (k - 1) false) all
      ∙ get_or-replicate m (k - 1) true false (omega arith) ∙ sym (le-leb k settled h))
      (λ h. get_or-append_right filled (drop m (replicate 256 false)) (k - 1) false (omega arith)
      ∙ get_or-drop m (replicate 256 false) (k - 1 - length filled) false ∙ unmarked 256 (m + (k - 1 - length filled))
      ∙ sym (lt-leb k settled h))

  pub settled_all : with_needs (changes_in laid) (marked marks) (length laid) []
      ≡ with_needs (changes_in laid) (λ k. leb k settled) (length laid) []
  settled_all = needs_same (changes_in laid) (marked marks) (λ k. leb k settled) (length laid) [] settled_one
