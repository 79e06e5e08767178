-- The text of lines: how long it is at most, and one line more. Assumes nothing.
use mathlib.Core.Path.{◌≡◌, refl, sym, ap, ◌∙◌}
use mathlib.Core.List.{List, [], ◌∷◌, ◌++◌, append_assoc, append-nil}
use Prim.Native.Nat.{ℕ, zero, suc, ◌+◌, ◌*◌, ◌≤◌, ◌<◌}
use native.Mathlib.Omega.{arith}
use lib.ListN.{length, get_or, take, length-append}
use Rattle.lists.proofs.Stores.{take_next}
use Rattle.rehearsal.specs.Lines.{digits, stripped, decimal, text_of, text}
use Rattle.rehearsal.specs.declared.Line.{Line}
use Rattle.rehearsal.proofs.Decimals.{decimal-length}

pub line_length : (l : Line)
    → length (text_of l)
    ≡ length (decimal l.ordinal) + length (decimal l.answer) + length (decimal l.figure) + 3
line_length l = simp length-append (omega arith)

pub line_short : (l : Line) → length (text_of l) ≤ 33
line_short l =
    omega (
      arith,
      line_length l,
      decimal-length l.ordinal,
      decimal-length l.answer,
      decimal-length l.figure,
    )

pub text_short : (ls : List Line) → length (text ls) ≤ 33 * length ls
unfolding text
text_short [] = omega arith
text_short (l ∷ ls) = rw (length-append (text_of l) (text ls)) (omega (arith, line_short l, text_short ls))

text-append : (a b : List Line) → text (a ++ b) ≡ text a ++ text b
unfolding text
text-append [] b = refl
text-append (l ∷ a) b =
    ap (λ (t : List ℕ). text_of l ++ t) (text-append a b) ∙ sym (append_assoc (text_of l) (text a) (text b))

text_one : (l : Line) → text (l ∷ []) ≡ text_of l
unfolding text
text_one l = append-nil (text_of l)

-- one line more, and the length with it
module _ (ls : List Line) (i : ℕ) (z : Line) (h : i < length ls) where
  pub text-next : text (take (i + 1) ls) ≡ text (take i ls) ++ text_of (get_or ls i z)
  text-next =
      ap text (take_next ls i z h) ∙ text-append (take i ls) (get_or ls i z ∷ [])
      ∙ ap (λ (t : List ℕ). text (take i ls) ++ t) (text_one (get_or ls i z))

  pub length-next : length (text (take i ls)) + length (text_of (get_or ls i z)) ≡ length (text (take (i + 1) ls))
  length-next = sym (ap length text-next ∙ length-append (text (take i ls)) (text_of (get_or ls i z)))

-- the first lines are no longer than more of them
pub text_rises : (ls : List Line) (i n : ℕ) → i ≤ n → length (text (take i ls)) ≤ length (text (take n ls))
unfolding text
text_rises ls zero n h = omega arith
text_rises ls (suc i) zero h = absurd (omega arith)
text_rises [] (suc i) (suc n) h = omega arith
text_rises (l ∷ ls) (suc i) (suc n) h = simp length-append (omega (arith, text_rises ls i n (omega arith)))

-- the last line of document 01's example
example : text_of (record { ordinal = 12; answer = 16; figure = 2 }) ≡ 49 ∷ 50 ∷ 32 ∷ 49 ∷ 54 ∷ 32 ∷ 50 ∷ 10 ∷ []
unfolding digits stripped
example = refl
