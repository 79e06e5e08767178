-- Rising numbers: the last is not below the given one, each is above the given one and at most the last, no two are
-- equal and a later one is higher, what rises from one rises from a lower one, and what goes on rising from the last
-- one rises as a whole. Assumes nothing.
use mathlib.Core.Path.{◌≡◌, refl, sym, ap}
use mathlib.Core.Bool.{true, not, ◌&&◌, and_assoc}
use mathlib.Core.List.{List, [], ◌∷◌, ◌++◌}
use Prim.Native.Nat.{ℕ, zero, suc, ◌≤◌, ◌<◌}
use native.Mathlib.Omega.{arith}
use lib.Dec.{ltb, eqb}
use lib.ListN.{length, get_or}
use borrow.Author.Tests.{ltb-true, eqb-true, lt-ltb}
use Rattle.answer.proofs.Bools.{tf, is_false, and_join, and_parts, by_or}
use Rattle.lists.specs.Kinds.{among, different}
use Rattle.lists.specs.Rising.{rising_from}
use Rattle.lists.specs.Places.{last_of}

pub rising_last : (last : ℕ) (ks : List ℕ) → rising_from last ks ≡ true → last ≤ last_of last ks
unfolding rising_from last_of
rising_last last [] r = omega arith
rising_last last (j ∷ ks) r =
    let t = and_parts (ltb last j) (rising_from j ks) r in
    omega (arith, ltb-true last j t.0, rising_last j ks t.1)

pub rising_between : (last : ℕ) (ks : List ℕ) → rising_from last ks ≡ true → (k : ℕ) → among eqb k ks ≡ true
    → (last < k) × (k ≤ last_of last ks)
unfolding rising_from last_of among
rising_between last [] r k h = tf h refl
rising_between last (j ∷ ks) r k h =
    let t = and_parts (ltb last j) (rising_from j ks) r in
    let above = ltb-true last j t.0 in
    by_or (eqb j k) (among eqb k ks) h
    (λ e. let same = eqb-true j k e in (omega arith, omega (arith, rising_last j ks t.1)))
    (λ m. let b = rising_between j ks t.1 k m in (omega (arith, b.0), b.1))

pub rising_different : (last : ℕ) (ks : List ℕ) → rising_from last ks ≡ true → different eqb ks ≡ true
unfolding rising_from different
rising_different last [] r = refl
rising_different last (j ∷ ks) r =
    let t = and_parts (ltb last j) (rising_from j ks) r in
    let new = is_false (among eqb j ks) (λ m. omega (arith, (rising_between j ks t.1 j m).0)) in
    and_join (not (among eqb j ks)) _ (ap not new) (rising_different j ks t.1)

-- numbers that rise from one rise from it or a lower one
pub rising_lower : (last k : ℕ) (ks : List ℕ) → last ≤ k → rising_from k ks ≡ true → rising_from last ks ≡ true
unfolding rising_from
rising_lower last k [] h r = refl
rising_lower last k (j ∷ ks) h r =
    let t = and_parts (ltb k j) (rising_from j ks) r in
    and_join (ltb last j) _ (lt-ltb last j (omega (arith, ltb-true k j t.0))) t.1

-- by places: each is above the given one, and of two places the later one has the higher number
pub rising_above : (last : ℕ) (ks : List ℕ) → rising_from last ks ≡ true → (j z : ℕ) → j < length ks → last < get_or ks j z
unfolding rising_from
rising_above last [] r j z h = absurd (omega arith)
rising_above last (k ∷ ks) r zero z h = ltb-true last k (and_parts (ltb last k) (rising_from k ks) r).0
rising_above last (k ∷ ks) r (suc j) z h =
    let t = and_parts (ltb last k) (rising_from k ks) r in
    omega (arith, ltb-true last k t.0, rising_above k ks t.1 j z (omega arith))

pub rising_places : (last : ℕ) (ks : List ℕ) → rising_from last ks ≡ true → (i j z : ℕ) → i < j → j < length ks
    → get_or ks i z < get_or ks j z
unfolding rising_from
rising_places last [] r i j z l h = absurd (omega arith)
rising_places last (k ∷ ks) r i zero z l h = absurd (omega arith)
rising_places last (k ∷ ks) r zero (suc j) z l h =
    rising_above k ks (and_parts (ltb last k) (rising_from k ks) r).1 j z (omega arith)
rising_places last (k ∷ ks) r (suc i) (suc j) z l h =
    rising_places k ks (and_parts (ltb last k) (rising_from k ks) r).1 i j z (omega arith) (omega arith)

-- some numbers after others
pub rising_append : (last : ℕ) (ks ls : List ℕ)
    → rising_from last (ks ++ ls) ≡ (rising_from last ks && rising_from (last_of last ks) ls)
unfolding rising_from last_of
rising_append last [] ls = refl
rising_append last (k ∷ ks) ls = rw (rising_append k ks ls) (sym (and_assoc (ltb last k) _ _))

pub last_append : (last : ℕ) (ks ls : List ℕ) → last_of last (ks ++ ls) ≡ last_of (last_of last ks) ls
unfolding last_of
last_append last [] ls = refl
last_append last (k ∷ ks) ls = last_append k ks ls
