-- The comparison of two byte strings tells whether they are the same, and is the library's comparison of slices.
-- Assumes nothing.
use mathlib.Core.Path.{◌≡◌, refl, ap, ap₂}
use mathlib.Core.List.{List, [], ◌∷◌}
use mathlib.Core.Bool.{Bool, true, false, ◌&&◌}
use Prim.Native.Nat.{ℕ}
use borrow.Author.Tests.{eq-eqb, eqb-true}
use lib.Dec.{eqb}
use lib.ListN.{length}
use Rattle.std.specs.Cmp.Lexicographic.{pointwise}
use Rattle.answer.proofs.Bools.{is_false, and_parts, and_join}
use Rattle.lists.specs.Bytes.{equal}

-- byte strings that compare as the same are the same, a byte string is the same as itself, and strings of different
-- lengths are not
pub equal_true : (a b : List ℕ) → equal a b ≡ true → a ≡ b
unfolding equal
equal_true [] [] e = refl
equal_true [] (y ∷ b) e = cc
equal_true (x ∷ a) [] e = cc
equal_true (x ∷ a) (y ∷ b) e =
    let t = and_parts (eqb x y) (equal a b) e in
    ap₂ (λ (z : ℕ) (l : List ℕ). z ∷ l) (eqb-true x y t.0) (equal_true a b t.1)

pub equal_self : (a : List ℕ) → equal a a ≡ true
unfolding equal
equal_self [] = refl
equal_self (x ∷ a) = and_join (eqb x x) (equal a a) (eq-eqb x x refl) (equal_self a)

pub equal-length : (a b : List ℕ) → (length a ≡ length b → ⊥) → equal a b ≡ false
equal-length a b h = is_false (equal a b) (λ e. h (ap length (equal_true a b e)))

-- what the library's comparison of slices says
pub equal_pointwise : (a b : List ℕ) → pointwise eqb a b ≡ equal a b
unfolding equal
equal_pointwise [] [] = refl
equal_pointwise [] (y ∷ b) = refl
equal_pointwise (x ∷ a) [] = refl
equal_pointwise (x ∷ a) (y ∷ b) = ap (λ (z : Bool). eqb x y && z) (equal_pointwise a b)
