-- Numbers in decimal: one to ten digits in ASCII, those of the number, with no zero in front of another digit.
-- Assumes nothing.
use mathlib.Core.Path.{◌≡◌, refl, sym, ap, ap₂, ◌∙◌}
use mathlib.Core.List.{List, [], ◌∷◌}
use Prim.Native.Nat.{ℕ, zero, suc, ◌+◌, ◌-◌, ◌*◌, ◌/◌, ◌%◌, ◌^◌, ◌≤◌, ◌<◌}
use native.Mathlib.Nat.{pow-suc, pow-succ', mod-one, mod-eq_of_lt}
use native.Mathlib.Omega.{arith}
use lib.Arith.{mod-mul}
use lib.ListN.{length, get_or}
use borrow.Author.Tests.{eq-eqb, ne_eqb}
use Rattle.answer.proofs.Bools.{by_eq}
use Rattle.rehearsal.specs.Lines.{digits, stripped, decimal}
use Rattle.rehearsal.specs.Storing.{value_of}

pub length_digits : (k x : ℕ) → length (digits k x) ≡ k
unfolding digits
length_digits zero x = refl
length_digits (suc k) x = ap suc (length_digits k x)

-- a zero in front of other digits goes, any other digit stays
pub zero_goes : (d : ℕ) (ds : List ℕ) → d ≡ 48 → 0 < length ds → stripped (d ∷ ds) ≡ stripped ds
unfolding stripped
zero_goes d [] e h = absurd (omega arith)
zero_goes d (x ∷ ds) e h = rw (eq-eqb d 48 e)

pub digit_stays : (d : ℕ) (ds : List ℕ) → (d ≡ 48 → ⊥) → stripped (d ∷ ds) ≡ d ∷ ds
unfolding stripped
digit_stays d [] n = refl
digit_stays d (x ∷ ds) n = rw (ne_eqb d 48 n)

pub last_stays : (d : ℕ) → stripped (d ∷ []) ≡ d ∷ []
unfolding stripped
last_stays d = refl

-- by whether the first digit goes
by_strip : {C : Type 0} (d : ℕ) (ds : List ℕ) → (d ≡ 48 → stripped (d ∷ ds) ≡ stripped ds → C)
    → (stripped (d ∷ ds) ≡ d ∷ ds → C) → C
by_strip d [] goes stays = stays (last_stays d)
by_strip d (x ∷ ds) goes stays =
    by_eq d 48 (λ e. goes e (zero_goes d (x ∷ ds) e (omega arith))) (λ n. stays (digit_stays d (x ∷ ds) n))

stripped-length : (l : List ℕ) → length (stripped l) ≤ length l
unfolding stripped
stripped-length [] = omega arith
stripped-length (d ∷ ds) =
    by_strip d ds (λ e f. rw f (omega (arith, stripped-length ds))) (λ f. rw f (omega arith))

stripped-some : (l : List ℕ) → 0 < length l → 0 < length (stripped l)
unfolding stripped
stripped-some [] h = h
stripped-some (d ∷ []) h = h
stripped-some (d ∷ x ∷ ds) h =
    by_strip d (x ∷ ds) (λ e f. rw f (stripped-some (x ∷ ds) (omega arith))) (λ f. rw f (omega arith))

-- one to ten digits
pub decimal-some : (x : ℕ) → 0 < length (decimal x)
decimal-some x = stripped-some (digits 10 x) (omega (arith, length_digits 10 x))

pub decimal-length : (x : ℕ) → length (decimal x) ≤ 10
decimal-length x = omega (arith, stripped-length (digits 10 x), length_digits 10 x)

-- each of them in ASCII
abbrev pub IsDigit : ℕ → Type 0
IsDigit d = (48 ≤ d) × (d ≤ 57)

digits_ascii : (k x i : ℕ) → i < k → IsDigit (get_or (digits k x) i 0)
unfolding digits
digits_ascii zero x i h = absurd (omega arith)
digits_ascii (suc k) x zero h = (omega arith, omega arith)
digits_ascii (suc k) x (suc i) h = digits_ascii k x i (omega arith)

stripped_ascii : (l : List ℕ) → ((i : ℕ) → i < length l → IsDigit (get_or l i 0)) → (i : ℕ) → i < length (stripped l)
    → IsDigit (get_or (stripped l) i 0)
unfolding stripped
stripped_ascii [] g i = g i
stripped_ascii (d ∷ ds) g i =
    by_strip d ds (λ e f. rw f (stripped_ascii ds (λ j k. g (suc j) (omega arith)) i)) (λ f. rw f (g i))

pub decimal_ascii : (x i : ℕ) → i < length (decimal x) → IsDigit (get_or (decimal x) i 0)
decimal_ascii x =
    stripped_ascii (digits 10 x) (λ i h. digits_ascii 10 x i (omega (arith, length_digits 10 x)))

-- the digits are those of the number
power : (k : ℕ) → 0 < 10 ^ k
power zero = omega arith
power (suc k) = omega (arith, pow-suc 10 k, power k)

value_digits : (k x : ℕ) → value_of (digits k x) ≡ x % 10 ^ k
unfolding digits value_of
value_digits zero x = sym (mod-one x)
value_digits (suc k) x =
    let d : 48 + x / 10 ^ k % 10 - 48 ≡ x / 10 ^ k % 10 = omega arith in
    ap₂ (λ (l n : ℕ). (48 + x / 10 ^ k % 10 - 48) * 10 ^ l + n) (length_digits k x) (value_digits k x)
    ∙ ap (λ (y : ℕ). y * 10 ^ k + x % 10 ^ k) d
    ∙ sym (ap (λ (m : ℕ). x % m) (pow-succ' 10 k) ∙ mod-mul x {m = 10} {c = 10 ^ k} (omega arith) (power k))

value_zero : (d : ℕ) (ds : List ℕ) → d ≡ 48 → value_of (d ∷ ds) ≡ value_of ds
unfolding value_of
value_zero d ds e = rw e (omega arith)

value_stripped : (l : List ℕ) → value_of (stripped l) ≡ value_of l
unfolding stripped
value_stripped [] = refl
value_stripped (d ∷ ds) =
    by_strip d ds (λ e f. ap value_of f ∙ value_stripped ds ∙ sym (value_zero d ds e)) (λ f. ap value_of f)

pub decimal_value : (x : ℕ) → x < 10 ^ 10 → value_of (decimal x) ≡ x
decimal_value x h = value_stripped (digits 10 x) ∙ value_digits 10 x ∙ mod-eq_of_lt h

-- and no zero stands in front of another digit
stripped-first : (l : List ℕ) → 1 < length (stripped l) → get_or (stripped l) 0 0 ≡ 48 → ⊥
unfolding stripped
stripped-first [] h e = omega arith
stripped-first (d ∷ []) h e = omega arith
stripped-first (d ∷ x ∷ ds) h e =
    by_eq d 48
    (λ z. let f = zero_goes d (x ∷ ds) z (omega arith) in stripped-first (x ∷ ds) (rw f at h) (rw f at e))
    (λ n. n (rw (digit_stays d (x ∷ ds) n) at e))

pub decimal-first : (x : ℕ) → 1 < length (decimal x) → get_or (decimal x) 0 0 ≡ 48 → ⊥
decimal-first x = stripped-first (digits 10 x)
