-- Where the prefixes of listed changes begin and end, by place; and each of the bounds that a test lets through asked
-- about once, one that comes again later at its last place. Assumes nothing.
use mathlib.Core.Path.{◌≡◌, refl, sym, ap, ◌∙◌}
use mathlib.Core.Bool.{Bool, true, false, not, ◌&&◌, ◌||◌}
use mathlib.Core.List.{List, [], ◌∷◌}
use Prim.Native.Nat.{ℕ, zero, suc, ◌+◌, ◌*◌, ◌-◌, ◌/◌, ◌%◌, ◌≤◌, ◌<◌}
use native.Mathlib.Omega.{arith}
use lib.Dec.{eqb}
use lib.ListN.{length, get_or, drop, drop_of_length-le}
use borrow.Author.Tests.{eq-eqb, ne_eqb, not-true, not-false}
use Rattle.answer.proofs.Bools.{by_bool, and_parts, tf}
use Rattle.lists.specs.Counts.{passing}
use Rattle.lists.specs.Kinds.{among, is_among}
use Rattle.lists.proofs.Stores.{rest}
use Rattle.flow.specs.Rules.{block_size}
use Rattle.isolation.specs.Check.{Verdict, fine, and_then, in_turn, bounds, singly}
use Rattle.checker.specs.Layout.{listed_from, no_change, change_at, bounds_for}
use Rattle.checker.specs.declared.AgreedChange.{AgreedChange}
use Rattle.checker.specs.declared.Quest.{Quest}

module _ (laid : List AgreedChange) where
  -- how many they are
  pub bounds-length : (i n : ℕ) → length (bounds (listed_from (change_at laid) i n)) ≡ 2 * n
  unfolding bounds listed_from
  bounds-length i zero = refl
  bounds-length i (suc n) =
      let e : suc (suc (2 * n)) ≡ 2 * suc n = omega arith in
      ap (λ (k : ℕ). suc (suc k)) (bounds-length (suc i) n) ∙ e

  -- where the k-th begins, and where it ends
  pub bounds_begin : (i n k : ℕ) → k < n
      → get_or (bounds (listed_from (change_at laid) i n)) (2 * k) 0 ≡ (get_or laid (i + k) no_change).prefix
  unfolding bounds listed_from
  bounds_begin i zero k l = absurd (omega arith)
  bounds_begin i (suc n) zero l = let e : i ≡ i + 0 = omega arith in ap (λ (k : ℕ). (get_or laid k no_change).prefix) e
  bounds_begin i (suc n) (suc k) l =
      let e : 2 * suc k ≡ suc (suc (2 * k)) = omega arith in
      let z : suc i + k ≡ i + suc k = omega arith in
      rw e (bounds_begin (suc i) n k (omega arith) ∙ rw z)

  pub bounds_end : (i n k : ℕ) → k < n
      → get_or (bounds (listed_from (change_at laid) i n)) (suc (2 * k)) 0
      ≡ (get_or laid (i + k) no_change).prefix + block_size ((get_or laid (i + k) no_change).length)
  unfolding bounds listed_from
  bounds_end i zero k l = absurd (omega arith)
  bounds_end i (suc n) zero l = let e : i ≡ i + 0 = omega arith in
      ap (λ (k : ℕ). (get_or laid k no_change).prefix + block_size ((get_or laid k no_change).length)) e
  bounds_end i (suc n) (suc k) l =
      let e : 2 * suc k ≡ suc (suc (2 * k)) = omega arith in
      let z : suc i + k ≡ i + suc k = omega arith in
      rw e (bounds_end (suc i) n k (omega arith) ∙ rw z)

  -- the bounds of a question: the client's prefix first, then those of the changes, at odd places where one begins
  pub asked_length : (q : Quest) → length (bounds_for laid q) ≡ suc (2 * length laid)
  asked_length q = ap suc (bounds-length 0 (length laid))

  pub asked_begin : (q : Quest) (i : ℕ) → i % 2 ≡ 1 → i ≤ 2 * length laid
      → get_or (bounds_for laid q) i 0 ≡ (get_or laid ((i - 1) / 2) no_change).prefix
  asked_begin q i odd h =
      let k = (i - 1) / 2 in
      let e : i ≡ suc (2 * k) = omega arith in
      let z : 0 + k ≡ k = omega arith in
      ap (λ (j : ℕ). get_or (bounds_for laid q) j 0) e
      ∙ bounds_begin 0 (length laid) k (omega arith) ∙ ap (λ (j : ℕ). (get_or laid j no_change).prefix) z

  pub asked_end : (q : Quest) (i : ℕ) → (i ≡ 0 → ⊥) → (i % 2 ≡ 1 → ⊥) → i ≤ 2 * length laid
      → get_or (bounds_for laid q) i 0
      ≡ (get_or laid ((i - 1) / 2) no_change).prefix + block_size ((get_or laid ((i - 1) / 2) no_change).length)
  asked_end q i some even h =
      let k = (i - 1) / 2 in
      let p : 1 ≤ i = omega (arith, some) in
      let r : i % 2 ≡ 0 = omega (arith, even) in
      let e : i ≡ suc (suc (2 * k)) = omega arith in
      let z : 0 + k ≡ k = omega arith in
      ap (λ (j : ℕ). get_or (bounds_for laid q) j 0) e
      ∙ bounds_end 0 (length laid) k (omega arith)
      ∙ ap (λ (j : ℕ). (get_or laid j no_change).prefix + block_size ((get_or laid j no_change).length)) z

-- a number among those from a place on: it is the one there, or among those behind it
module _ (l : List ℕ) (i a : ℕ) where
  pub again_here : (b : ℕ) → i < length l → b ≡ get_or l i 0 → b ≡ a → is_among a (drop i l) ≡ true
  unfolding among
  again_here b h p e = ap (is_among a) (rest l i 0 h) ∙ rw (eq-eqb (get_or l i 0) a (sym p ∙ e))

  pub again_later : (b : ℕ) → i < length l → b ≡ get_or l i 0 → (b ≡ a → ⊥)
      → is_among a (drop i l) ≡ is_among a (drop (i + 1) l)
  unfolding among
  again_later b h p e = ap (is_among a) (rest l i 0 h) ∙ rw (ne_eqb (get_or l i 0) a (λ z. e (p ∙ z)))

  pub again_none : length l ≤ i → is_among a (drop i l) ≡ false
  unfolding among
  again_none h = ap (is_among a) (drop_of_length-le l {i = i} h)

-- a number that passes a test is among those that pass it where it is among all
pub among-passing : (f : ℕ → Bool) (a : ℕ) (l : List ℕ) → f a ≡ true → is_among a (passing f l) ≡ is_among a l
unfolding among passing
among-passing f a [] e = refl
among-passing f a (x ∷ l) e =
    by_bool (f x)
    (λ p. rw p (ap (λ (b : Bool). eqb x a || b) (among-passing f a l e)))
    (λ p. rw (p, ne_eqb x a (λ z. tf (ap f z ∙ e) p)) (among-passing f a l e))

module _ (f : ℕ → Bool) (g : ℕ → ℕ → Verdict) where
  -- what is asked about those of a list, in turn
  abbrev pub asked_from : List ℕ → ℕ → Verdict
  asked_from l b = in_turn g (singly (passing f l)) b

  pub asked_none : (b : ℕ) → asked_from [] b ≡ fine b
  unfolding in_turn singly passing
  asked_none b = refl

  pub asked_one : (x : ℕ) (l : List ℕ) (b : ℕ) → (f x && not (is_among x l)) ≡ true
      → asked_from (x ∷ l) b ≡ and_then (g x b) (λ (b : ℕ). asked_from l b)
  unfolding in_turn singly passing
  asked_one x l b e =
      let t = and_parts (f x) (not (is_among x l)) e in
      rw (t.0, among-passing f x l t.0, not-true (is_among x l) t.1)

  pub asked_not : (x : ℕ) (l : List ℕ) (b : ℕ) → (f x && not (is_among x l)) ≡ false
      → asked_from (x ∷ l) b ≡ asked_from l b
  unfolding in_turn singly passing
  asked_not x l b e =
      by_bool (f x)
      (λ p. rw (p, among-passing f x l p, not-false (is_among x l) (rw p at e)))
      (λ p. rw p)

  -- the turns of a loop over the places
  module _ (l : List ℕ) (i x : ℕ) (b : ℕ) (h : i < length l) (is : x ≡ get_or l i 0) where
    ahead : drop i l ≡ x ∷ drop (i + 1) l
    ahead = rest l i 0 h ∙ ap (λ (y : ℕ). y ∷ drop (i + 1) l) (sym is)

    pub asked_turn : (f x && not (is_among x (drop (i + 1) l))) ≡ true
        → asked_from (drop i l) b ≡ and_then (g x b) (λ (b : ℕ). asked_from (drop (i + 1) l) b)
    asked_turn e = ap (λ (m : List ℕ). asked_from m b) ahead ∙ asked_one x (drop (i + 1) l) b e

    pub asked_skip : (f x && not (is_among x (drop (i + 1) l))) ≡ false
        → asked_from (drop i l) b ≡ asked_from (drop (i + 1) l) b
    asked_skip e = ap (λ (m : List ℕ). asked_from m b) ahead ∙ asked_not x (drop (i + 1) l) b e

  pub asked_all : (l : List ℕ) (i b : ℕ) → length l ≤ i → asked_from (drop i l) b ≡ fine b
  asked_all l i b h = ap (λ (m : List ℕ). asked_from m b) (drop_of_length-le l {i = i} h) ∙ asked_none b
