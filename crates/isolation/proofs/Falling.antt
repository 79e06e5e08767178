-- Numbers sorted, the highest first: each is above those behind it where none stands twice, and those below a bound are
-- the list's end. Assumes nothing.
use mathlib.Core.Path.{◌≡◌, refl, sym, ap, ◌∙◌}
use mathlib.Core.Bool.{true, false}
use mathlib.Core.List.{List, [], ◌∷◌}
use Prim.Native.Nat.{ℕ, suc, ◌≤◌, ◌<◌}
use native.Mathlib.Omega.{arith}
use lib.Dec.{ltb, eqb}
use borrow.Author.Tests.{ltb-true, ltb-false, lt-ltb, le-ltb, eqb-true, eqb-false, eq-eqb}
use Rattle.answer.proofs.Bools.{by_bool, by_or, by_eq, tf, or_left, or_right, or_none}
use Rattle.lists.specs.Counts.{passing}
use Rattle.lists.specs.Kinds.{among, is_among}
use Rattle.protocol.specs.Orders.{insert, falling}
use Rattle.protocol.proofs.Orders.{insert-among}

-- no number of the list is above k, and all are below it
abbrev pub UpTo : ℕ → List ℕ → Type 0
UpTo k ks = (j : ℕ) → is_among j ks ≡ true → j ≤ k

abbrev pub Under : ℕ → List ℕ → Type 0
Under k ks = (j : ℕ) → is_among j ks ≡ true → j < k

-- each is not below those behind it, and each is above them
abbrev Sorted : List ℕ → Type 0
Sorted [] = Unit {0}
Sorted (k ∷ ks) = UpTo k ks × Sorted ks

abbrev pub Strict : List ℕ → Type 0
Strict [] = Unit {0}
Strict (k ∷ ks) = Under k ks × Strict ks

-- sorting sorts
insert_sorted : (k : ℕ) (js : List ℕ) → Sorted js → Sorted (insert k js)
unfolding insert among
insert_sorted k [] h = (λ j m. tf m refl, tt)
insert_sorted k (j ∷ js) h =
    by_bool (ltb k j)
    (λ e. rw e (
      λ i m. by_or (eqb k i) _ (sym (insert-among i k js) ∙ m) (λ q. omega (arith, eqb-true k i q, ltb-true k j e))
          (λ q. h.0 i q),
      insert_sorted k js h.1,
    ))
    (λ e. rw e (
      λ i m. by_or (eqb j i) _ m (λ q. omega (arith, eqb-true j i q, ltb-false k j e))
          (λ q. omega (arith, h.0 i q, ltb-false k j e)),
      h,
    ))

falling_sorted : (ks : List ℕ) → Sorted (falling ks)
unfolding falling
falling_sorted [] = tt
falling_sorted (k ∷ ks) = insert_sorted k (falling ks) (falling_sorted ks)

-- none stands twice
abbrev pub Once : List ℕ → Type 0
Once [] = Unit {0}
Once (k ∷ ks) = (is_among k ks ≡ false) × Once ks

-- a sorted list in which none stands twice
strict_of : (ks : List ℕ) → Sorted ks → Once ks → Strict ks
strict_of [] s o = tt
strict_of (k ∷ ks) s o = (
  λ j m. by_eq j k (λ e. tf (rw e at m) o.0) (λ n. omega (arith, s.0 j m)),
  strict_of ks s.1 o.1,
)

pub falling_strict : (ks : List ℕ) → Once (falling ks) → Strict (falling ks)
falling_strict ks o = strict_of (falling ks) (falling_sorted ks) o

-- those below a bound
abbrev pub below : ℕ → List ℕ → List ℕ
below k ks = passing (λ j. ltb j k) ks

-- where all are below, where the bound itself is one of them, and where it is not
pub below_all : (k : ℕ) (ks : List ℕ) → Under k ks → below k ks ≡ ks
unfolding passing among
below_all k [] u = refl
below_all k (j ∷ js) u =
    rw (lt-ltb j k (u j (or_left (eqb j j) _ (eq-eqb j j refl)))) (ap (λ (l : List ℕ). j ∷ l)
    (below_all k js (λ i m. u i (or_right (eqb j i) _ m))))

pub below_step : (k : ℕ) (ks : List ℕ) → Strict ks → is_among k ks ≡ true → below (suc k) ks ≡ k ∷ below k ks
unfolding passing among
below_step k [] s m = tf m refl
below_step k (j ∷ js) s m =
    by_bool (eqb j k)
    (λ e.
    let q = eqb-true j k e in
    let wide : below (suc k) js ≡ js = below_all (suc k) js (λ i h. omega (arith, s.0 i h)) in
    let close : below k js ≡ js = below_all k js (λ i h. omega (arith, s.0 i h)) in
    rw (lt-ltb j (suc k) (omega arith), le-ltb j k (omega arith), wide, close) (ap (λ (i : ℕ). i ∷ js) q))
    (λ e.
    let there : is_among k js ≡ true = rw e at m in
    let high = s.0 k there in
    rw (le-ltb j (suc k) (omega arith), le-ltb j k (omega arith)) (below_step k js s.1 there))

pub below_skip : (k : ℕ) (ks : List ℕ) → is_among k ks ≡ false → below (suc k) ks ≡ below k ks
unfolding passing among
below_skip k [] m = refl
below_skip k (j ∷ js) m =
    let t = or_none (eqb j k) _ m in
    let other = eqb-false j k t.0 in
    let rest = below_skip k js t.1 in
    by_bool (ltb j k)
    (λ e. rw (e, lt-ltb j (suc k) (omega (arith, ltb-true j k e)), rest))
    (λ e. rw (e, le-ltb j (suc k) (strictly other (ltb-false j k e))) rest)
  where
    strictly : {j k : ℕ} → (j ≡ k → ⊥) → k ≤ j → suc k ≤ j
    strictly n l = omega arith
