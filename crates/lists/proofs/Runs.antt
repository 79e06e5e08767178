-- Runs of stores: one run after another, and a run made by a loop. Assumes nothing.
use mathlib.Core.Path.{◌≡◌, refl, sym, ap, ◌∙◌}
use mathlib.Core.List.{List, [], ◌∷◌, ◌++◌}
use Prim.Native.Nat.{ℕ, suc, ◌+◌, ◌≤◌, ◌<◌}
use native.Mathlib.Nat.{add-zero}
use native.Mathlib.Numerals.{add-one}
use native.Mathlib.Omega.{arith}
use lib.ListN.{length, get_or, take, set}
use lib.Seq.{sets, set_comm, take-suc, length-take-le}

module _ {A : Type 0} where
  pub sets_append : (l : List A) (i : ℕ) (a b : List A) → sets l i (a ++ b) ≡ sets (sets l i a) (i + length a) b
  sets_append l i [] b = ap (λ (k : ℕ). sets l k b) (sym (add-zero i))
  sets_append l i (x ∷ a) b =
      sets_append (set l i x) (suc i) a b ∙ ap (λ (k : ℕ). sets (sets (set l i x) (suc i) a) k b) (omega arith)

  -- runs that do not meet, one behind the other, in either order
  set_past : (l : List A) (k j : ℕ) (x : A) (w : List A) → k < j → set (sets l j w) k x ≡ sets (set l k x) j w
  set_past l k j x [] h = refl
  set_past l k j x (y ∷ w) h =
      set_past (set l j y) k (suc j) x w (omega arith)
      ∙ ap (λ (m : List A). sets m (suc j) w) (set_comm l j k y x (λ e. omega arith))

  pub sets_swap : (l : List A) (i j : ℕ) (v w : List A) → i + length v ≤ j
      → sets (sets l j w) i v ≡ sets (sets l i v) j w
  sets_swap l i j [] w h = refl
  sets_swap l i j (x ∷ v) w h =
      ap (λ (m : List A). sets m (suc i) v) (set_past l i j x w (omega arith))
      ∙ sets_swap (set l i x) (suc i) j v w (omega arith)

  -- a turn of the loop that stores a list from an offset on
  pub sets_turn : (l t : List A) (at i : ℕ) (z : A) {m : List A} → i < length t → m ≡ sets l at (take i t)
      → set m (at + i) (get_or t i z) ≡ sets l at (take (i + 1) t)
  sets_turn l t at i z h e = rw (e, add-one, take-suc t i z h, sets_append, length-take-le i t (omega arith))
