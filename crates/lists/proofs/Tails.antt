-- Tests of every element or every tail of a list: the turns of a loop that makes them from the front, and what they
-- say of each element and of parts of the list. Assumes nothing.
use mathlib.Core.Path.{◌≡◌, refl, sym, ap, ◌∙◌}
use mathlib.Core.List.{List, [], ◌∷◌, ◌++◌, map}
use mathlib.Core.Bool.{Bool, true, false, ◌&&◌, and-true, and_assoc}
use Prim.Native.Nat.{ℕ, zero, suc, ◌+◌, ◌≤◌, ◌<◌}
use native.Mathlib.Numerals.{add-one}
use native.Mathlib.Omega.{arith}
use lib.ListN.{length, take, drop, get_or, set, replicate, drop_of_length-le}
use Rattle.answer.proofs.Bools.{by_bool, tf, and_join, and_parts}
use Rattle.lists.specs.Arrays.{every_tail, every}
use Rattle.lists.proofs.Stores.{rest, ahead, back}

module _ {A : Type 0} where
  pub tail_step : (f : List A → Bool) (l : List A) (i : ℕ) → i < length l
      → every_tail f (drop i l) ≡ (f (drop i l) && every_tail f (drop (i + 1) l))
  unfolding every_tail
  tail_step f [] i h = absurd (omega arith)
  tail_step f (x ∷ xs) zero h = refl
  tail_step f (x ∷ xs) (suc i) h = tail_step f xs i (omega arith) ∙ rw (add-one, add-one)

  pub tail_end : (f : List A → Bool) (l : List A) (i : ℕ) → length l ≤ i → every_tail f (drop i l) ≡ true
  unfolding every_tail
  tail_end f l i h = ap (every_tail f) (drop_of_length-le l {i = i} h)

  -- where only z passes a test, a list that passes it is z over and over; and such a list passes
  pub every-replicate : (f : A → Bool) (z : A) → ((x : A) → f x ≡ true → x ≡ z) → (l : List A) → every f l ≡ true
      → l ≡ replicate (length l) z
  unfolding every
  every-replicate f z only [] h = refl
  every-replicate f z only (x ∷ xs) h =
      let t = and_parts (f x) (every f xs) h in
      ap (λ (y : A). y ∷ xs) (only x t.0) ∙ ap (λ (l : List A). z ∷ l) (every-replicate f z only xs t.1)

  pub replicate-every : (f : A → Bool) (z : A) (n : ℕ) → f z ≡ true → every f (replicate n z) ≡ true
  unfolding every
  replicate-every f z zero e = refl
  replicate-every f z (suc n) e = rw e (replicate-every f z n e)

module _ {A : Type 0} (f : A → Bool) where
  -- a turn and the end of a loop that tests every element: of all, and of the first n
  pub every_rest : (l : List A) (i : ℕ) (z : A) → i < length l
      → every f (drop i l) ≡ (f (get_or l i z) && every f (drop (i + 1) l))
  unfolding every
  every_rest l i z h = ap (every f) (rest l i z h)

  pub every_end : (l : List A) (i : ℕ) → length l ≤ i → every f (drop i l) ≡ true
  unfolding every
  every_end l i h = ap (every f) (drop_of_length-le l {i = i} h)

  pub every_ahead : (l : List A) (n i : ℕ) (z : A) → i < n → n ≤ length l
      → every f (drop i (take n l)) ≡ (f (get_or l i z) && every f (drop (i + 1) (take n l)))
  unfolding every
  every_ahead l n i z h k = ap (every f) (ahead l n i z h (omega arith))

  pub every_back : (l : List A) (n i : ℕ) → n ≤ i → every f (drop i (take n l)) ≡ true
  unfolding every
  every_back l n i h = ap (every f) (back l n i h)

  -- a test of every element says it of each, and follows from each
  pub every_at : (l : List A) (i : ℕ) (z : A) → every f l ≡ true → i < length l → f (get_or l i z) ≡ true
  unfolding every
  every_at [] i z h n = absurd (omega arith)
  every_at (x ∷ l) zero z h n = (and_parts (f x) (every f l) h).0
  every_at (x ∷ l) (suc i) z h n = every_at l i z (and_parts (f x) (every f l) h).1 (omega arith)

  pub every_all : (l : List A) (z : A) → ((i : ℕ) → i < length l → f (get_or l i z) ≡ true) → every f l ≡ true
  unfolding every
  every_all [] z h = refl
  every_all (x ∷ l) z h = and_join (f x) _ (h 0 (omega arith)) (every_all l z (λ i n. h (suc i) (omega arith)))

  -- it holds of a beginning and of a rest
  pub every_take : (n : ℕ) (l : List A) → every f l ≡ true → every f (take n l) ≡ true
  unfolding every
  every_take zero l h = refl
  every_take (suc n) [] h = refl
  every_take (suc n) (x ∷ l) h =
      let t = and_parts (f x) (every f l) h in
      and_join (f x) _ t.0 (every_take n l t.1)

  pub every_drop : (n : ℕ) (l : List A) → every f l ≡ true → every f (drop n l) ≡ true
  unfolding every
  every_drop zero l h = h
  every_drop (suc n) [] h = refl
  every_drop (suc n) (x ∷ l) h = every_drop n l (and_parts (f x) (every f l) h).1

  -- where it does not hold of every element, some place fails
  pub every-fails : (l : List A) (z : A) → every f l ≡ false → (i : ℕ) × (i < length l) × (f (get_or l i z) ≡ false)
  unfolding every
  every-fails [] z h = tf refl h
  every-fails (x ∷ l) z h =
      by_bool (f x)
      (λ e. let r = every-fails l z (rw e at h) in (suc r.0, omega (arith, r.1), r.2))
      (λ e. (0, omega arith, e))

  -- two lists, and one more at the end
  pub every_append : (l m : List A) → every f (l ++ m) ≡ (every f l && every f m)
  unfolding every
  every_append [] m = refl
  every_append (x ∷ l) m = rw (every_append l m) (sym (and_assoc (f x) (every f l) (every f m)))

  pub every_snoc : (l : List A) (x : A) → every f (l ++ x ∷ []) ≡ (every f l && f x)
  unfolding every
  every_snoc [] x = and-true (f x)
  every_snoc (y ∷ l) x = rw (every_snoc l x) (sym (and_assoc (f y) (every f l) (f x)))

  -- one stored over another, and the elements of a map
  pub every_set : (l : List A) (i : ℕ) (x : A) → every f l ≡ true → f x ≡ true → every f (set l i x) ≡ true
  unfolding every
  every_set [] i x h e = refl
  every_set (y ∷ l) zero x h e = and_join (f x) _ e (and_parts (f y) (every f l) h).1
  every_set (y ∷ l) (suc i) x h e =
      let t = and_parts (f y) (every f l) h in
      and_join (f y) _ t.0 (every_set l i x t.1 e)

  pub every_map : {B : Type 0} (g : B → Bool) (m : B → A) → ((x : B) → g x ≡ true → f (m x) ≡ true) → (l : List B)
      → every g l ≡ true → every f (map m l) ≡ true
  unfolding every
  every_map g m p [] h = refl
  every_map g m p (x ∷ l) h =
      let t = and_parts (g x) (every g l) h in
      and_join (f (m x)) _ (p x t.0) (every_map g m p l t.1)

-- two tests of every element give a third
pub every_both : {A : Type 0} (f g h : A → Bool) → ((x : A) → f x ≡ true → g x ≡ true → h x ≡ true) → (l : List A)
    → every f l ≡ true → every g l ≡ true → every h l ≡ true
unfolding every
every_both f g h both [] p q = refl
every_both f g h both (x ∷ l) p q =
    let a = and_parts (f x) (every f l) p in
    let b = and_parts (g x) (every g l) q in
    and_join (h x) _ (both x a.0 b.0) (every_both f g h both l a.1 b.1)
