-- The order of keys, a prefix with its length: each test is told by the numbers, and there `omega` decides.
-- Assumes nothing.
use mathlib.Core.Path.{◌≡◌, refl, sym, ap, ◌∙◌}
use mathlib.Core.Bool.{true, false}
use Prim.Native.Nat.{◌≤◌, ◌<◌}
use native.Mathlib.Omega.{arith}
use lib.Dec.{ltb, eqb}
use borrow.Author.Tests.{ltb-true, ltb-false, eqb-true, lt-ltb, eq-eqb}
use Rattle.answer.proofs.Bools.{by_bool, by_eq, by_or, tf, is_false}
use Rattle.answer.proofs.Bools.{and_join, and_parts, not_both, or_left, or_right, or_none}
use Rattle.flow.specs.Rules.{Key, before, same_key}

-- a key before another has a lower prefix, or the same prefix and a lower length
pub by_before : {C : Type 0} (j k : Key) → before j k ≡ true
    → (j.0 < k.0 → C) → (j.0 ≡ k.0 → j.1 < k.1 → C) → C
by_before j k h lower same =
    by_or (ltb j.0 k.0) _ h (λ e. lower (ltb-true _ _ e))
    (λ e. let t = and_parts (eqb j.0 k.0) _ e in same (eqb-true _ _ t.0) (ltb-true _ _ t.1))

pub before_lower : (j k : Key) → j.0 < k.0 → before j k ≡ true
before_lower j k h = or_left (ltb j.0 k.0) _ (lt-ltb _ _ h)

pub before_shorter : (j k : Key) → j.0 ≡ k.0 → j.1 < k.1 → before j k ≡ true
before_shorter j k e h =
    or_right (ltb j.0 k.0) _ (and_join (eqb j.0 k.0) _ (eq-eqb _ _ e) (lt-ltb _ _ h))

pub before_trans : (i j k : Key) → before i j ≡ true → before j k ≡ true → before i k ≡ true
before_trans i j k g h =
    by_before i j g
    (λ a. by_before j k h (λ b. before_lower i k (omega arith)) (λ b c. before_lower i k (omega arith)))
    (λ a d. by_before j k h (λ b. before_lower i k (omega arith))
    (λ b c. before_shorter i k (omega arith) (omega arith)))

-- the test of equality passes for equal keys, and for no others
pub key_sound : (j k : Key) → same_key j k ≡ true → j ≡ k
key_sound j k h =
    let t = and_parts (eqb j.0 k.0) (eqb j.1 k.1) h in
    λ i. (eqb-true j.0 k.0 t.0 i, eqb-true j.1 k.1 t.1 i)

pub key_mine : (k : Key) → same_key k k ≡ true
key_mine k = and_join (eqb k.0 k.0) _ (eq-eqb k.0 k.0 refl) (eq-eqb k.1 k.1 refl)

pub key_is : (j k : Key) → j ≡ k → same_key j k ≡ true
key_is j k e = ap (λ (i : Key). same_key j i) (sym e) ∙ key_mine j

-- a key before another is not the other
pub apart : (j k : Key) → before j k ≡ true → j ≡ k → ⊥
apart j k h e =
    let p : j.0 ≡ k.0 = λ i. (e i).0 in
    let l : j.1 ≡ k.1 = λ i. (e i).1 in
    by_before j k h (λ a. omega arith) (λ a b. omega arith)

pub before_apart : (j k : Key) → before j k ≡ true → same_key j k ≡ false
before_apart j k h = is_false (same_key j k) (λ s. apart j k h (key_sound j k s))

pub after_apart : (j k : Key) → before j k ≡ true → same_key k j ≡ false
after_apart j k h = is_false (same_key k j) (λ s. apart j k h (sym (key_sound k j s)))

not-before : (j k : Key) → before j k ≡ false → (k.0 ≤ j.0) × (j.0 ≡ k.0 → k.1 ≤ j.1)
not-before j k h =
    let t = or_none (ltb j.0 k.0) _ h in
    let both = not_both (eqb j.0 k.0) (ltb j.1 k.1) t.1 in
    (ltb-false _ _ t.0, λ e. by_bool (ltb j.1 k.1) (λ l. absurd (both (eq-eqb _ _ e) l)) (ltb-false _ _))

-- of two different keys the one or the other is before
pub before_other : (j k : Key) → before j k ≡ false → same_key j k ≡ false → before k j ≡ true
before_other j k h s =
    let t = not-before j k h in
    by_eq j.0 k.0
    (λ e. let ne : j.1 ≡ k.1 → ⊥ = λ l. tf (key_is j k (λ i. (e i, l i))) s in
    before_shorter k j (sym e) (omega (arith, t.1 e)))
    (λ ne. before_lower k j (omega (arith, t.0)))
