-- A loop's turn along a list of what a function gives: the element at the place, and those from the next on. Assumes
-- nothing.
use mathlib.Core.Path.{◌≡◌, ap, ◌∙◌}
use mathlib.Core.List.{[], ◌∷◌}
use Prim.Native.Nat.{ℕ, suc, ◌+◌, ◌-◌, ◌≤◌, ◌<◌}
use native.Mathlib.Omega.{arith}
use Rattle.checker.specs.Layout.{listed_from}

module _ {A : Type 0} (f : ℕ → A) (i n : ℕ) where
  pub listed_next : i < n → listed_from f i (n - i) ≡ f i ∷ listed_from f (i + 1) (n - (i + 1))
  unfolding listed_from
  listed_next l =
      let e : n - i ≡ suc (n - (i + 1)) = omega arith in
      let s : suc i ≡ i + 1 = omega arith in
      ap (listed_from f i) e ∙ (λ k. f i ∷ listed_from f (s k) (n - (i + 1)))

  pub listed_done : n ≤ i → listed_from f i (n - i) ≡ []
  unfolding listed_from
  listed_done l = let e : n - i ≡ 0 = omega arith in ap (listed_from f i) e

pub listed_begin : {A : Type 0} (f : ℕ → A) (n : ℕ) → listed_from f 0 n ≡ listed_from f 0 (n - 0)
listed_begin f n = let e : n ≡ n - 0 = omega arith in ap (listed_from f 0) e
