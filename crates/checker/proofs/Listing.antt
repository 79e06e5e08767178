-- Lists of what a function gives for the places from one on. Assumes nothing.
use mathlib.Core.Path.{◌≡◌, refl, ap, ◌∙◌}
use mathlib.Core.List.{List}
use Prim.Native.Nat.{ℕ, zero, suc, ◌+◌, ◌-◌, ◌≤◌, ◌<◌}
use native.Mathlib.Omega.{arith}
use lib.ListN.{length, get_or, drop}
use Rattle.controller.specs.Changes.{empty_undone}
use Rattle.domain.specs.Ideals.{change_of}
use Rattle.checker.specs.Layout.{listed_from, change_at, first_changes}
use Rattle.checker.specs.declared.AgreedChange.{AgreedChange}

module _ {A : Type 0} (f : ℕ → A) where
  pub listed-length : (i n : ℕ) → length (listed_from f i n) ≡ n
  unfolding listed_from
  listed-length i zero = refl
  listed-length i (suc n) = ap suc (listed-length (suc i) n)

  pub listed_at : (i n j : ℕ) (d : A) → j < n → get_or (listed_from f i n) j d ≡ f (i + j)
  unfolding listed_from
  listed_at i zero j d l = absurd (omega arith)
  listed_at i (suc n) zero d l = let e : i ≡ i + 0 = omega arith in ap f e
  listed_at i (suc n) (suc j) d l =
      let e : suc i + j ≡ i + suc j = omega arith in
      listed_at (suc i) n j d (omega arith) ∙ ap f e

  pub listed-drop : (i n j : ℕ) → drop j (listed_from f i n) ≡ listed_from f (i + j) (n - j)
  unfolding listed_from
  listed-drop i n zero =
      let e : i ≡ i + 0 = omega arith in
      let z : n ≡ n - 0 = omega arith in
      λ k. listed_from f (e k) (z k)
  listed-drop i zero (suc j) = let z : 0 - suc j ≡ 0 = omega arith in rw z
  listed-drop i (suc n) (suc j) =
      let e : suc i + j ≡ i + suc j = omega arith in
      let z : n - j ≡ suc n - suc j = omega arith in
      listed-drop (suc i) n j ∙ (λ k. listed_from f (e k) (z k))

-- the change of a number stands at the place before it
pub change_is : (laid : List AgreedChange) (n k : ℕ) → 1 ≤ k → k ≤ n
    → change_of (first_changes laid n) k ≡ change_at laid (k - 1)
change_is laid n k low high =
    let e : 0 + (k - 1) ≡ k - 1 = omega arith in
    listed_at (change_at laid) 0 n (k - 1) empty_undone (omega arith) ∙ ap (change_at laid) e
