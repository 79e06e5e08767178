-- Numbers as bytes, the highest first (document 01, "Bytes"; FIPS 180-4, 3.1), and byte strings compared.
use Rattle.std.specs.Prelude.{ℕ, zero, suc, ◌+◌, ◌*◌, ◌/◌, ◌%◌, ◌^◌, ◌<◌, Bool, true, false, ◌&&◌, List, [], ◌∷◌, eqb, length, get_or, take, drop}

-- the low k bytes of a number
unfoldable pub be : ℕ → ℕ → List ℕ
be zero x = []
be (suc k) x = x / 256 ^ k % 256 ∷ be k x

-- the number that bytes are
unfoldable pub num : List ℕ → ℕ
num [] = 0
num (b ∷ bs) = b * 256 ^ length bs + num bs

-- so many bytes from an offset, as many of them as there are
abbrev pub part : ℕ → ℕ → List ℕ → List ℕ
part k at s = take k (drop at s)

-- the number in the k bytes from an offset
unfoldable pub field : List ℕ → ℕ → ℕ → ℕ
field s at k = num (part k at s)

-- the byte at a place, 0 past the end
abbrev pub byte_at : List ℕ → ℕ → ℕ
byte_at s i = get_or s i 0

-- every element is a byte
abbrev pub AreBytes : List ℕ → Type 0
AreBytes s = (i : ℕ) → get_or s i 0 < 256

-- whether two byte strings are the same
unfoldable pub equal : List ℕ → List ℕ → Bool
equal [] [] = true
equal [] (y ∷ ys) = false
equal (x ∷ xs) [] = false
equal (x ∷ xs) (y ∷ ys) = eqb x y && equal xs ys
