-- A script carried out record after record, and the whole input (document 01, "Rehearsal program").
use Rattle.std.specs.Prelude.{ℕ, zero, suc, ◌+◌, ◌-◌, ◌&&◌, List, [], ◌∷◌, Result, Ok, Err, length, take, drop, ltb, leb, eqb}
use Rattle.answer.specs.Limits.{most_controllers}
use Rattle.answer.specs.Ask.{Question, reply}
use Rattle.lists.specs.Bytes.{byte_at}
use Rattle.playbook.specs.Reading.{read_first}
use Rattle.playbook.specs.declared.Outcome.{Outcome}
use Rattle.rehearsal.specs.Limits.{longest_script}
use Rattle.rehearsal.specs.Lines.{text, printed}
use Rattle.rehearsal.specs.Worlds.{world_of}
use Rattle.rehearsal.specs.Records.{size_of, record_at}
use Rattle.rehearsal.specs.Effects.{place_of, record_questions, carried_in, world_after}
use Rattle.rehearsal.specs.declared.Line.{Line}
use Rattle.rehearsal.specs.declared.Printed.{Printed}
use Rattle.rehearsal.specs.declared.Record.{Record}
use Rattle.rehearsal.specs.declared.World.{World}

-- a line
abbrev pub line_of : ℕ → ℕ → ℕ → Line
line_of k answer figure = record { ordinal = k; answer = answer; figure = figure }

-- the line of the record with an ordinal, and the lines that follow from the world after it: the figure is 0 where the
-- record is refused before anything is made or delivered, and the world stays
abbrev pub record_lines : World → ℕ → Record → List ℕ → (World → List Line) → List Line
record_lines w k r bytes rest =
    reply (record_questions w.n r (place_of w r)) (λ q. line_of k q 0 ∷ rest w)
    (line_of k (carried_in w r bytes).answer (carried_in w r bytes).figure ∷ rest (world_after w r bytes))

-- what stands at the front of a script: bytes that are refused print their line, and the run stops
abbrev pub next_lines : World → ℕ → Result Record ℕ → List ℕ → (ℕ → World → List Line) → List Line
next_lines w k (Err q) b on = line_of k q 0 ∷ []
next_lines w k (Ok r) b on = record_lines w k r (take (size_of r.kind) b) (on (size_of r.kind - 1))

-- byte after byte: `skip` bytes of the record at hand are still to pass, k is the ordinal of the next record
unfoldable pub lines_from : ℕ → List ℕ → ℕ → World → List Line
lines_from skip [] k w = []
lines_from (suc skip) (x ∷ xs) k w = lines_from skip xs k w
lines_from zero (x ∷ xs) k w =
    next_lines w k (record_at (x ∷ xs)) (x ∷ xs) (λ skip next. lines_from skip xs (k + 1) next)

-- an input: a byte n, a playbook up to its end record, and a script
abbrev pub controllers_in : List ℕ → ℕ
controllers_in input = byte_at input 0

abbrev pub book_in : List ℕ → Outcome
book_in input = read_first (drop 1 input)

abbrev pub script_in : List ℕ → List ℕ
script_in input = drop (book_in input).used (drop 1 input)

-- what is asked of it: a first byte? From 1 to 16 controllers? The playbook's own questions. A script of at most 8,192
-- bytes?
abbrev pub input_questions : List ℕ → List Question
input_questions input =
    (30, ltb 0 (length input))
    ∷ (20, leb 1 (controllers_in input) && leb (controllers_in input) most_controllers)
    ∷ ((book_in input).answer, eqb (book_in input).answer 0)
    ∷ (28, leb (length (script_in input)) longest_script)
    ∷ []

-- the world before its script
abbrev pub world_in : List ℕ → World
world_in input = world_of (controllers_in input) (book_in input).playbook

-- its lines; a fault before the script is the only one
unfoldable pub lines_of : List ℕ → List Line
lines_of input =
    reply (input_questions input) (λ q. line_of 0 q 0 ∷ [])
    (lines_from 0 (script_in input) 1 (world_in input))

-- the rehearsal of an input, printed to an output
abbrev pub rehearsed : List ℕ → List ℕ → Printed × List ℕ
rehearsed input out = printed (text (lines_of input)) out
