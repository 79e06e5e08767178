-- Numbers and their bytes, at every width. Assumes nothing.
use mathlib.Core.Path.{◌≡◌, refl, sym, ap, ap₂, ◌∙◌}
use mathlib.Core.Bool.{true}
use mathlib.Core.List.{List, [], ◌∷◌, ◌++◌}
use Prim.Native.Nat.{ℕ, zero, suc, ◌+◌, ◌*◌, ◌/◌, ◌%◌, ◌^◌, ◌≤◌, ◌<◌}
use native.Mathlib.Nat.{pow-suc, pow-succ', suc-add, add-suc, add-zero, add-mul, mul_assoc, mul_comm}
use native.Mathlib.Nat.{add_assoc, mod-one, div-div-eq-div-mul, div-add-mod', mod-eq_of_lt, mul-add-div_right}
use native.Mathlib.Nat.{mul-add-mod_self_right}
use native.Mathlib.Omega.{arith}
use lib.Arith.{mod-mul, digits_lt, digits_div}
use lib.Dec.{ltb}
use lib.Pow.{pow-add}
use lib.ListN.{length, get_or, take, drop, length-append, length-drop}
use lib.Seq.{take-add, drop-drop, drop-cons, length-take-le, get_or-drop}
use borrow.Author.Tests.{ltb-true}
use Rattle.answer.proofs.Bools.{and_parts}
use Rattle.lists.specs.Arrays.{every}
use Rattle.std.specs.Int.{bytes_high_first}
use Rattle.lists.specs.Bytes.{be, num, field, AreBytes}

pub pos : (k : ℕ) → 0 < 256 ^ k
pos zero = omega arith
pos (suc k) = omega (arith, pow-suc 256 k, pos k)

pub length-be : (k x : ℕ) → length (be k x) ≡ k
unfolding be
length-be zero x = refl
length-be (suc k) x = ap suc (length-be k x)

-- what stands above the low k bytes does not matter to them
pub be_more : (k d q n : ℕ) → be k (q * 256 ^ (k + d) + n) ≡ be k n
unfolding be
be_more zero d q n = refl
be_more (suc k) d q n =
    let e : 256 ^ (suc k + d) ≡ 256 ^ d * 256 * 256 ^ k =
    ap (λ (i : ℕ). 256 ^ i) (suc-add k d) ∙ pow-suc 256 (k + d) ∙ ap (λ (x : ℕ). x * 256) (pow-add 256 k d)
    ∙ mul_assoc (256 ^ k) (256 ^ d) 256 ∙ mul_comm (256 ^ k) (256 ^ d * 256) in
    let f : q * 256 ^ (suc k + d) ≡ q * 256 ^ d * 256 * 256 ^ k =
    ap (λ (x : ℕ). q * x) e ∙ sym (mul_assoc q (256 ^ d * 256) (256 ^ k))
    ∙ ap (λ (x : ℕ). x * 256 ^ k) (sym (mul_assoc q (256 ^ d) 256)) in
    let h : (q * 256 ^ (suc k + d) + n) / 256 ^ k % 256 ≡ n / 256 ^ k % 256 =
    ap (λ (x : ℕ). (x + n) / 256 ^ k % 256) f ∙ ap (λ (x : ℕ). x % 256)
    (mul-add-div_right (pos k) (q * 256 ^ d * 256) n) ∙ mul-add-mod_self_right (q * 256 ^ d) 256 (n / 256 ^ k) in
    let t : be k (q * 256 ^ (suc k + d) + n) ≡ be k n =
    ap (λ (i : ℕ). be k (q * 256 ^ i + n)) (suc-add k d ∙ sym (add-suc k d)) ∙ be_more k (suc d) q n in
    ap₂ (λ (x : ℕ) (l : List ℕ). x ∷ l) h t

pub be-mod : (k x : ℕ) → be k (x % 256 ^ k) ≡ be k x
be-mod k x =
    sym (be_more k 0 (x / 256 ^ k) (x % 256 ^ k))
    ∙ ap (λ (i : ℕ). be k (x / 256 ^ k * 256 ^ i + x % 256 ^ k)) (add-zero k) ∙ ap (be k) (div-add-mod' x (256 ^ k))

-- the bytes of a number are those of its high part, then those of its low part
pub be-add : (a b x : ℕ) → be (a + b) x ≡ be a (x / 256 ^ b) ++ be b x
unfolding be
be-add zero b x = let e : zero + b ≡ b = omega arith in ap (λ (i : ℕ). be i x) e
be-add (suc a) b x =
    let h : x / 256 ^ (a + b) % 256 ≡ x / 256 ^ b / 256 ^ a % 256 =
    ap (λ (y : ℕ). x / y % 256) (pow-add 256 a b ∙ mul_comm (256 ^ a) (256 ^ b))
    ∙ ap (λ (y : ℕ). y % 256) (sym (div-div-eq-div-mul x (256 ^ b) (256 ^ a))) in
    ap (λ (i : ℕ). be i x) (suc-add a b) ∙ ap₂ (λ (y : ℕ) (l : List ℕ). y ∷ l) h (be-add a b x)

pub be_split : (a b x : ℕ) → be (a + b) x ≡ be a (x / 256 ^ b) ++ be b (x % 256 ^ b)
be_split a b x = be-add a b x ∙ ap (λ (l : List ℕ). be a (x / 256 ^ b) ++ l) (sym (be-mod b x))

-- the bytes that the library makes of a number are these
pub be_high_first : (k x : ℕ) → be k x ≡ bytes_high_first k x
unfolding be
be_high_first zero x = refl
be_high_first (suc zero) x = let p : x / 256 ^ 0 % 256 ≡ x % 256 = omega arith in ap (λ (y : ℕ). y ∷ []) p
be_high_first (suc (suc k)) x = ap (λ (l : List ℕ). x / 256 ^ suc k % 256 ∷ l) (be_high_first (suc k) x)

pub be_one : (x : ℕ) → x < 256 → be 1 x ≡ x ∷ []
unfolding be
be_one x h = let p : x / 256 ^ 0 % 256 ≡ x = omega arith in ap (λ (y : ℕ). y ∷ []) p

-- a number from its low bytes, and from all of them
pub num-mod : (k x : ℕ) → num (be k x) ≡ x % 256 ^ k
unfolding be num
num-mod zero x = sym (mod-one x)
num-mod (suc k) x =
    ap₂ (λ (l n : ℕ). x / 256 ^ k % 256 * 256 ^ l + n) (length-be k x) (num-mod k x)
    ∙ sym (ap (λ (m : ℕ). x % m) (pow-succ' 256 k) ∙ mod-mul x {m = 256} {c = 256 ^ k} (omega arith) (pos k))

pub num-be : (k x : ℕ) → x < 256 ^ k → num (be k x) ≡ x
num-be k x h = num-mod k x ∙ mod-eq_of_lt h

pub num-lt : (s : List ℕ) → AreBytes s → num s < 256 ^ length s
unfolding num
num-lt [] h = omega arith
num-lt (b ∷ bs) h = rw (pow-succ' 256 (length bs)) (digits_lt (h 0) (num-lt bs (λ i. h (suc i))))

-- bytes from their number
pub be-num : (s : List ℕ) → AreBytes s → be (length s) (num s) ≡ s
unfolding be num
be-num [] h = refl
be-num (b ∷ bs) h =
    let n : num bs < 256 ^ length bs = num-lt bs (λ i. h (suc i)) in
    let x : (b * 256 ^ length bs + num bs) / 256 ^ length bs % 256 ≡ b =
    ap (λ (y : ℕ). y % 256) (digits_div b n) ∙ mod-eq_of_lt (h 0) in
    let t : be (length bs) (b * 256 ^ length bs + num bs) ≡ bs =
    ap (λ (i : ℕ). be (length bs) (b * 256 ^ i + num bs)) (sym (add-zero (length bs)))
    ∙ be_more (length bs) 0 b (num bs) ∙ be-num bs (λ i. h (suc i)) in
    ap₂ (λ (y : ℕ) (l : List ℕ). y ∷ l) x t

pub num-append : (a b : List ℕ) → num (a ++ b) ≡ num a * 256 ^ length b + num b
unfolding num
num-append [] b = omega arith
num-append (x ∷ a) b =
    let p = 256 ^ length a in
    let q = 256 ^ length b in
    ap₂ (λ (y n : ℕ). x * y + n) (ap (λ (i : ℕ). 256 ^ i) (length-append a b) ∙ pow-add 256 (length a) (length b))
    (num-append a b)
    ∙ ap (λ (y : ℕ). y + (num a * q + num b)) (sym (mul_assoc x p q))
    ∙ sym (add_assoc (x * p * q) (num a * q) (num b)) ∙ ap (λ (y : ℕ). y + num b) (sym (add-mul (x * p) (num a) q))

part_length : (s : List ℕ) (at k : ℕ) → at + k ≤ length s → length (take k (drop at s)) ≡ k
part_length s at k h = length-take-le k (drop at s) (simp length-drop (omega arith))

-- a field is its high part, then its low part
pub field-add : (s : List ℕ) (at a b : ℕ) → at + a + b ≤ length s
    → field s at (a + b) ≡ field s at a * 256 ^ b + field s (at + a) b
unfolding field
field-add s at a b h =
    ap num (take-add a b (drop at s) ∙ ap (λ (t : List ℕ). take a (drop at s) ++ take b t) (drop-drop a at s))
    ∙ num-append (take a (drop at s)) (take b (drop (at + a) s))
    ∙ ap (λ (i : ℕ). num (take a (drop at s)) * 256 ^ i + num (take b (drop (at + a) s)))
    (part_length s (at + a) b h)

pub field_one : (s : List ℕ) (at : ℕ) → at < length s → field s at 1 ≡ get_or s at 0
unfolding field num
field_one s at h = ap (λ (t : List ℕ). num (take 1 t)) (drop-cons s at 0 h) ∙ one (get_or s at 0)
  where
    one : (x : ℕ) → num (x ∷ []) ≡ x
    one x = omega arith

-- bytes by a test of each; a part of bytes is bytes
pub bytes-tested : (l : List ℕ) → every (λ b. ltb b 256) l ≡ true → AreBytes l
unfolding every
bytes-tested [] h i = omega arith
bytes-tested (b ∷ l) h zero = ltb-true _ _ (and_parts (ltb b 256) (every (λ b. ltb b 256) l) h).0
bytes-tested (b ∷ l) h (suc i) = bytes-tested l (and_parts (ltb b 256) (every (λ b. ltb b 256) l) h).1 i

pub bytes_take : (k : ℕ) (l : List ℕ) → AreBytes l → AreBytes (take k l)
bytes_take zero l h i = omega arith
bytes_take (suc k) [] h i = omega arith
bytes_take (suc k) (x ∷ l) h zero = h 0
bytes_take (suc k) (x ∷ l) h (suc i) = bytes_take k l (λ j. h (suc j)) i

pub bytes_drop : (k : ℕ) (l : List ℕ) → AreBytes l → AreBytes (drop k l)
bytes_drop k l h i = rw (get_or-drop k l i 0) (h (k + i))

-- the bytes of a field
pub be-field : (s : List ℕ) (at k : ℕ) → AreBytes s → at + k ≤ length s → be k (field s at k) ≡ take k (drop at s)
unfolding field
be-field s at k h f =
    ap (λ (i : ℕ). be i (num (take k (drop at s)))) (sym (part_length s at k f))
    ∙ be-num (take k (drop at s)) (bytes_take k (drop at s) (bytes_drop at s h))

pub field_range : (s : List ℕ) (at k : ℕ) → AreBytes s → at + k ≤ length s → field s at k < 256 ^ k
unfolding field
field_range s at k b h =
    rw (part_length s at k h) at (num-lt (take k (drop at s)) (bytes_take k (drop at s) (bytes_drop at s b)))

get2 : (s : List ℕ) (at : ℕ) → at + 2 ≤ length s → get_or s at 0 * 256 + get_or s (at + 1) 0 ≡ field s at 2
get2 s at h =
    let f : field s at 2 ≡ field s at 1 * 256 + field s (at + 1) 1 = field-add s at 1 1 (omega arith) in
    sym (f ∙ ap₂ (λ (x y : ℕ). x * 256 + y) (field_one s at (omega arith)) (field_one s (at + 1) (omega arith)))

get4 : (s : List ℕ) (at : ℕ) {x y : ℕ} → at + 4 ≤ length s → x ≡ field s at 2 → y ≡ field s (at + 2) 2
    → x * 65536 + y ≡ field s at 4
get4 s at h e f =
    let g : field s at 4 ≡ field s at 2 * 65536 + field s (at + 2) 2 = field-add s at 2 2 (omega arith) in
    ap₂ (λ (x y : ℕ). x * 65536 + y) e f ∙ sym g

-- a number from two bytes, and from four as two halves
pub num_two : (a b : ℕ) → a * 256 + b ≡ num (a ∷ b ∷ [])
unfolding num
num_two a b = omega arith

pub num_four : (a b c d : ℕ) {x y : ℕ} → x ≡ num (a ∷ b ∷ []) → y ≡ num (c ∷ d ∷ [])
    → x * 65536 + y ≡ num (a ∷ b ∷ c ∷ d ∷ [])
num_four a b c d e f = ap₂ (λ (x y : ℕ). x * 65536 + y) e f ∙ sym (num-append (a ∷ b ∷ []) (c ∷ d ∷ []))

-- a field as its bytes
pub field_two : (s : List ℕ) (at : ℕ) → at + 2 ≤ length s → num (get_or s at 0 ∷ get_or s (at + 1) 0 ∷ []) ≡ field s at 2
field_two s at h = sym (num_two (get_or s at 0) (get_or s (at + 1) 0)) ∙ get2 s at h

pub field_four : (s : List ℕ) (at : ℕ) → at + 4 ≤ length s
    → num (get_or s at 0 ∷ get_or s (at + 1) 0 ∷ get_or s (at + 2) 0 ∷ get_or s (at + 3) 0 ∷ []) ≡ field s at 4
field_four s at h =
    let i : at + 2 + 1 ≡ at + 3 = omega arith in
    let l : num (get_or s (at + 2) 0 ∷ get_or s (at + 3) 0 ∷ []) ≡ field s (at + 2) 2 =
    ap (λ (j : ℕ). num (get_or s (at + 2) 0 ∷ get_or s j 0 ∷ [])) (sym i) ∙ field_two s (at + 2) (omega arith) in
    sym (num_four (get_or s at 0) (get_or s (at + 1) 0) (get_or s (at + 2) 0) (get_or s (at + 3) 0) refl refl)
    ∙ get4 s at h (field_two s at (omega arith)) l
