-- An array as a list: what a loop that stores from the front has made so far, what is left before a loop that reads,
-- an element put in and one taken out, parts of a map, and a greater number stored. Assumes nothing.
use mathlib.Core.Path.{◌≡◌, refl, sym, ap, ◌∙◌}
use mathlib.Core.List.{List, [], ◌∷◌, ◌++◌, append_assoc, append-nil, map}
use Prim.Native.Nat.{ℕ, zero, suc, ◌+◌, ◌-◌, ◌≤◌, ◌<◌}
use native.Mathlib.Numerals.{add-one}
use native.Mathlib.Nat.{le_of_suc-le-suc, le_of_lt, not-suc-le-zero}
use native.Mathlib.Omega.{arith}
use lib.ListN.{length, take, drop, get_or, set, length-take, length-drop, drop_of_length-le, length-map}
use lib.Seq.{drop-cons, take-suc, set_at, length-take-le, take-nil, get_or-take, take_all, take-take}
use Rattle.lists.specs.Places.{put, del}

-- what owning a struct with an array of structs tells of the array's length
pub length_mapped : (A B : Type 0) (f : A → B) (l : List A) (n : ℕ) → length (map f l) ≡ n → length l ≡ n
length_mapped A B f l n h = sym (length-map l f) ∙ h

module _ {A : Type 0} where
  -- a store at i, where the first i elements are those of l and the rest those of d; and where v is l's element at i
  pub store_last : (l d : List A) (i : ℕ) (v z : A) → i ≤ length l → i < length d
      → set (take i l ++ drop i d) i v ≡ take i l ++ v ∷ drop (suc i) d
  store_last l d i v z h k =
      rw (drop-cons d i z k, set_at (take i l) (get_or d i z) (drop (suc i) d) v i (length-take-le i l h))

  pub store : (l d : List A) (i : ℕ) (v z : A) → i < length l → i < length d → get_or l i z ≡ v
      → set (take i l ++ drop i d) i v ≡ take (i + 1) l ++ drop (i + 1) d
  store l d i v z h k e = store_last l d i v z (le_of_lt h) k ∙ rw (add-one, take-suc l i z h, e, append_assoc)

  -- an array that was stored whole
  pub stored-whole : (l d : List A) (n : ℕ) → length l ≤ n → length d ≤ n → take n l ++ drop n d ≡ l
  stored-whole l d n h k = rw (take_all n l h, drop_of_length-le d {i = n} k, append-nil)

  -- the element at hand and those after it: of all elements, and of the first n, which may be more than there are
  pub rest : (l : List A) (i : ℕ) (z : A) → i < length l → drop i l ≡ get_or l i z ∷ drop (i + 1) l
  rest l i z h = rw add-one (drop-cons l i z h)

  pub ahead : (l : List A) (n i : ℕ) (z : A) → i < n → i < length l
      → drop i (take n l) ≡ get_or l i z ∷ drop (i + 1) (take n l)
  ahead l n i z h k = rest (take n l) i z (simp length-take (omega arith)) ∙ rw (get_or-take n l i z h)

  -- the same of n elements that there are, with the next place as a successor
  pub front : (es : List A) (n i : ℕ) (z : A) → i < n → n ≤ length es
      → drop i (take n es) ≡ get_or es i z ∷ drop (suc i) (take n es)
  front es n i z h k = ahead es n i z h (omega arith) ∙ rw add-one

  -- the element before the place, for a loop from the last to the first
  pub behind : (l : List A) (n i : ℕ) (z : A) → 0 < i → i ≤ n → n ≤ length l
      → drop (i - 1) (take n l) ≡ get_or l (i - 1) z ∷ drop i (take n l)
  behind l n i z g h k =
      let e : i - 1 + 1 ≡ i = omega arith in
      ahead l n (i - 1) z (omega arith) (omega arith) ∙ rw e

  -- none of the first n is left
  pub back : (es : List A) (n i : ℕ) → n ≤ i → drop i (take n es) ≡ []
  back es n i h = drop_of_length-le (take n es) {i = i} (simp length-take (omega arith))

  -- the part of a list that is lent from n on is all that is left from there
  pub lent_rest : (l : List A) (n : ℕ) → take (length l - n) (drop n l) ≡ drop n l
  lent_rest l n = take_all (length l - n) (drop n l) (simp length-drop (omega arith))

  -- an element put in: what stands behind it, the first n with it, how many there are, and its store
  pub put-get : (es : List A) (at i : ℕ) (e z : A) → at ≤ i → get_or (put at e es) (suc i) z ≡ get_or es i z
  put-get es zero i e z h = refl
  put-get [] (suc a) i e z h = refl
  put-get (x ∷ xs) (suc a) zero e z h = absurd (not-suc-le-zero h)
  put-get (x ∷ xs) (suc a) (suc j) e z h = put-get xs a j e z (le_of_suc-le-suc h)

  pub put-take : (es : List A) (at n : ℕ) (e : A) → at ≤ n → take (suc n) (put at e es) ≡ put at e (take n es)
  put-take es zero n e h = refl
  put-take es (suc a) zero e h = absurd (not-suc-le-zero h)
  put-take [] (suc a) (suc m) e h = refl
  put-take (x ∷ xs) (suc a) (suc m) e h = ap (λ (l : List A). x ∷ l) (put-take xs a m e (le_of_suc-le-suc h))

  pub put-length : (es : List A) (at : ℕ) (e : A) → length (put at e es) ≡ suc (length es)
  put-length es zero e = refl
  put-length [] (suc a) e = refl
  put-length (x ∷ xs) (suc a) e = ap suc (put-length xs a e)

  pub put_holds : (es : List A) (at : ℕ) (e : A) → at < length es
      → set es at e ≡ take (suc at) (put at e es) ++ drop (suc at) es
  put_holds [] at e h = absurd (not-suc-le-zero h)
  put_holds (x ∷ xs) zero e h = refl
  put_holds (x ∷ xs) (suc a) e h = ap (λ (l : List A). x ∷ l) (put_holds xs a e (le_of_suc-le-suc h))

  -- an element taken out: what stands from there on, the first n without it, how many there are, and no store yet
  pub del-get : (es : List A) (at i : ℕ) (z : A) → at ≤ i → get_or (del at es) i z ≡ get_or es (suc i) z
  del-get [] zero i z h = refl
  del-get (x ∷ xs) zero i z h = refl
  del-get [] (suc a) i z h = refl
  del-get (x ∷ xs) (suc a) zero z h = absurd (not-suc-le-zero h)
  del-get (x ∷ xs) (suc a) (suc j) z h = del-get xs a j z (le_of_suc-le-suc h)

  pub del-take : (es : List A) (at n : ℕ) → at ≤ n → take n (del at es) ≡ del at (take (suc n) es)
  del-take [] zero n h = take-nil n
  del-take [] (suc a) zero h = refl
  del-take [] (suc a) (suc n) h = refl
  del-take (x ∷ xs) zero n h = refl
  del-take (x ∷ xs) (suc a) zero h = absurd (not-suc-le-zero h)
  del-take (x ∷ xs) (suc a) (suc m) h = ap (λ (l : List A). x ∷ l) (del-take xs a m (le_of_suc-le-suc h))

  pub del-length : (es : List A) (at : ℕ) → at < length es → suc (length (del at es)) ≡ length es
  del-length [] at h = absurd (not-suc-le-zero h)
  del-length (x ∷ xs) zero h = refl
  del-length (x ∷ xs) (suc a) h = ap suc (del-length xs a (le_of_suc-le-suc h))

  pub del-holds : (es : List A) (at : ℕ) → es ≡ take at (del at es) ++ drop at es
  del-holds es zero = refl
  del-holds [] (suc a) = refl
  del-holds (x ∷ xs) (suc a) = ap (λ (l : List A). x ∷ l) (del-holds xs a)

-- a beginning and a rest of a map
module _ {A B : Type 0} (f : A → B) where
  pub take-map : (n : ℕ) (l : List A) → take n (map f l) ≡ map f (take n l)
  take-map zero l = refl
  take-map (suc n) [] = refl
  take-map (suc n) (x ∷ l) = ap (λ (r : List B). f x ∷ r) (take-map n l)

  pub drop-map : (n : ℕ) (l : List A) → drop n (map f l) ≡ map f (drop n l)
  drop-map zero l = refl
  drop-map (suc n) [] = refl
  drop-map (suc n) (x ∷ l) = drop-map n l

-- one element more, and a part that stands within the first m elements
pub take_next : {A : Type 0} (l : List A) (i : ℕ) (z : A) → i < length l → take (i + 1) l ≡ take i l ++ get_or l i z ∷ []
take_next l i z h = rw add-one (take-suc l i z h)

pub part-within : {A : Type 0} (k n m : ℕ) (l : List A) → n + k ≤ m → take k (drop n (take m l)) ≡ take k (drop n l)
part-within k zero m l h = take-take k m l (omega arith)
part-within k (suc n) zero l h = absurd (omega arith)
part-within k (suc n) (suc m) [] h = refl
part-within k (suc n) (suc m) (x ∷ l) h = part-within k n m l (omega arith)

-- no number of a list is lower once a place has a number that is not
pub set_grows : (l : List ℕ) (s k i : ℕ) → get_or l s 0 ≤ k → get_or l i 0 ≤ get_or (set l s k) i 0
set_grows [] s k i h = omega arith
set_grows (x ∷ l) zero k zero h = h
set_grows (x ∷ l) zero k (suc i) h = omega arith
set_grows (x ∷ l) (suc s) k zero h = omega arith
set_grows (x ∷ l) (suc s) k (suc i) h = set_grows l s k i h
