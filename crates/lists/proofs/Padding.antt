-- Padded lists: an array as the elements in use with one element in every place past them. Assumes nothing.
use mathlib.Core.Path.{◌≡◌, refl, sym, ap, ◌∙◌}
use mathlib.Core.List.{List, [], ◌∷◌, ◌++◌}
use mathlib.Core.Bool.{Bool, true}
use Prim.Native.Nat.{ℕ, zero, suc, ◌+◌, ◌-◌, ◌≤◌, ◌<◌}
use native.Mathlib.Numerals.{add-one}
use native.Mathlib.Omega.{arith}
use lib.ListN.{length, take, drop, set, get_or, replicate, length-drop, take-append-drop}
use lib.Seq.{take-suc, length-take-le, drop-append_seam}
use Rattle.std.proofs.lemmas.List.{drop-replicate}
use Rattle.lists.specs.Arrays.{pad, every}
use Rattle.lists.proofs.Tails.{every-replicate, replicate-every}

module _ {A : Type 0} where
  pub pad-length : (n : ℕ) (z : A) (l : List A) → length (pad n z l) ≡ n
  unfolding pad
  pad-length zero z l = refl
  pad-length (suc n) z [] = ap suc (pad-length n z [])
  pad-length (suc n) z (x ∷ xs) = ap suc (pad-length n z xs)

  pub pad_none : (n : ℕ) (z : A) → pad n z [] ≡ replicate n z
  unfolding pad
  pad_none zero z = refl
  pad_none (suc n) z = ap (λ (l : List A). z ∷ l) (pad_none n z)

  -- what is padded, and what it is padded with
  pub pad_split : (n : ℕ) (z : A) (l : List A) → length l ≤ n → pad n z l ≡ l ++ replicate (n - length l) z
  unfolding pad
  pad_split zero z [] h = refl
  pad_split zero z (x ∷ xs) h = absurd (omega arith)
  pad_split (suc n) z [] h =
      let e : suc n - 0 ≡ suc n = omega arith in
      rw e (ap (λ (l : List A). z ∷ l) (pad_none n z))
  pad_split (suc n) z (x ∷ xs) h =
      let e : suc n - suc (length xs) ≡ n - length xs = omega arith in
      rw e (ap (λ (l : List A). x ∷ l) (pad_split n z xs (omega arith)))

  -- what is padded, written over the front of what it is padded with
  pub pad_written : (n : ℕ) (z : A) (l : List A) → length l ≤ n → l ++ drop (length l) (replicate n z) ≡ pad n z l
  pad_written n z l h = rw (drop-replicate (length l) n z) (sym (pad_split n z l h))

  pub pad-take : (n : ℕ) (z : A) (l : List A) → length l ≤ n → take (length l) (pad n z l) ≡ l
  unfolding pad
  pad-take zero z [] h = refl
  pad-take zero z (x ∷ xs) h = absurd (omega arith)
  pad-take (suc n) z [] h = refl
  pad-take (suc n) z (x ∷ xs) h = ap (λ (l : List A). x ∷ l) (pad-take n z xs (omega arith))

  -- one more, also where there is no place left
  pub pad_snoc : (n : ℕ) (z : A) (l : List A) (u : A) → set (pad n z l) (length l) u ≡ pad n z (l ++ (u ∷ []))
  unfolding pad
  pad_snoc zero z l u = refl
  pad_snoc (suc n) z [] u = refl
  pad_snoc (suc n) z (x ∷ xs) u = ap (λ (l : List A). x ∷ l) (pad_snoc n z xs u)

  -- a turn of the loop that stores a list from the front
  pub pad-step : (n : ℕ) (z : A) (l : List A) (i : ℕ) (d : A) → i < length l
      → set (pad n z (take i l)) i (get_or l i d) ≡ pad n z (take (i + 1) l)
  pad-step n z l i d h =
      let e : length (take i l) ≡ i = length-take-le i l (omega arith) in
      ap (λ (k : ℕ). set (pad n z (take i l)) k (get_or l i d)) (sym e)
      ∙ pad_snoc n z (take i l) (get_or l i d)
      ∙ rw (add-one, take-suc l i d h)

  -- fewer places
  pub pad_fewer : (k n : ℕ) (z : A) (l : List A) → k ≤ n → take k (pad n z l) ≡ pad k z l
  unfolding pad
  pad_fewer zero n z l h = refl
  pad_fewer (suc k) zero z l h = absurd (omega arith)
  pad_fewer (suc k) (suc n) z [] h = ap (λ (l : List A). z ∷ l) (pad_fewer k n z [] (omega arith))
  pad_fewer (suc k) (suc n) z (x ∷ xs) h = ap (λ (l : List A). x ∷ l) (pad_fewer k n z xs (omega arith))

  -- a place that is in use, read and stored
  pub pad-get : (n : ℕ) (z : A) (l : List A) (i : ℕ) (d : A) → i < length l → i < n → get_or (pad n z l) i d ≡ get_or l i d
  unfolding pad
  pad-get zero z l i d h k = absurd (omega arith)
  pad-get (suc n) z [] i d h k = absurd (omega arith)
  pad-get (suc n) z (x ∷ xs) zero d h k = refl
  pad-get (suc n) z (x ∷ xs) (suc i) d h k = pad-get n z xs i d (omega arith) (omega arith)

  pub pad-set : (n : ℕ) (z : A) (l : List A) (i : ℕ) (u : A) → i < length l → set (pad n z l) i u ≡ pad n z (set l i u)
  unfolding pad
  pad-set zero z l i u h = refl
  pad-set (suc n) z [] i u h = absurd (omega arith)
  pad-set (suc n) z (x ∷ xs) zero u h = refl
  pad-set (suc n) z (x ∷ xs) (suc i) u h = ap (λ (l : List A). x ∷ l) (pad-set n z xs i u (omega arith))

  -- past the list every place passes a test that z passes
  pub pad_unused : (f : A → Bool) (z : A) (n : ℕ) (l : List A) → f z ≡ true → length l ≤ n
      → every f (drop (length l) (pad n z l)) ≡ true
  pad_unused f z n l e h = rw (pad_split n z l h, drop-append_seam) (replicate-every f z (n - length l) e)

  -- and an array whose places past the first n pass a test that only z passes is padded with z
  pub as_padded : (f : A → Bool) (z : A) → ((x : A) → f x ≡ true → x ≡ z) → {m : ℕ} (n : ℕ) (l : List A)
      → length l ≡ m → n ≤ m → every f (drop n l) ≡ true → (l ≡ pad m z (take n l)) × (n ≡ length (take n l))
  as_padded f z only {m} n l e h unused =
      let used : length (take n l) ≡ n = length-take-le n l (omega arith) in
      let free : length (drop n l) ≡ m - length (take n l) = simp length-drop (omega arith) in (
        sym (take-append-drop n l)
            ∙ rw (every-replicate f z only (drop n l) unused, free, pad_split m z (take n l) (omega arith)),
        sym used,
      )
