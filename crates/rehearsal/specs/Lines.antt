-- The lines of a rehearsal and their bytes (document 01, "Rehearsal program").
use Rattle.std.specs.Prelude.{ℕ, zero, suc, ◌+◌, ◌/◌, ◌%◌, ◌^◌, List, [], ◌∷◌, ◌++◌, length, drop, eqb, leb}
use Rattle.answer.specs.Ask.{pick, reply}
use Rattle.rehearsal.specs.declared.Line.{Line}
use Rattle.rehearsal.specs.declared.Printed.{Printed}

-- the last k decimal digits of a number, in ASCII
unfoldable pub digits : ℕ → ℕ → List ℕ
digits zero x = []
digits (suc k) x = (48 + x / 10 ^ k % 10) ∷ digits k x

-- digits without zeros in front; the last digit stays
unfoldable pub stripped : List ℕ → List ℕ
stripped [] = []
stripped (d ∷ []) = d ∷ []
stripped (d ∷ e ∷ ds) = pick (eqb d 48) (stripped (e ∷ ds)) (d ∷ e ∷ ds)

-- a number of at most ten digits as text
abbrev pub decimal : ℕ → List ℕ
decimal x = stripped (digits 10 x)

-- a line: ordinal, answer and figure, with a space between them and a line feed at the end
abbrev pub text_of : Line → List ℕ
text_of l = decimal l.ordinal ++ 32 ∷ decimal l.answer ++ 32 ∷ decimal l.figure ++ 10 ∷ []

-- lines, one after another
unfoldable pub text : List Line → List ℕ
text [] = []
text (l ∷ ls) = text_of l ++ text ls

-- bytes printed from the start of an output; one that is too short gets 25, and no byte of it is written
unfoldable pub printed : List ℕ → List ℕ → Printed × List ℕ
printed bytes out =
    reply ((25, leb (length bytes) (length out)) ∷ []) (λ k. (record { answer = k; length = 0 }, out))
    (record { answer = 0; length = length bytes }, bytes ++ drop (length bytes) out)
