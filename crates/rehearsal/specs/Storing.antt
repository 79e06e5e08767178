-- What functions inside this crate hand to each other, and what its laws say of digits; no contract of a public one
-- cites it.
use Rattle.std.specs.Prelude.{ℕ, ◌+◌, ◌-◌, ◌*◌, ◌^◌, true, List, [], ◌∷◌, Option, Result, Ok, Err, length, take}
use Rattle.answer.specs.Ask.{reply}
use Rattle.lists.specs.Arrays.{pad}
use Rattle.rehearsal.specs.Limits.{most_lines}
use Rattle.rehearsal.specs.Effects.{place_of, switch_of, record_questions}
use Rattle.rehearsal.specs.Scripts.{line_of, book_in, input_questions, world_in}
use Rattle.rehearsal.specs.Deeds.{plain_deed, deed_in, world_but}
use Rattle.rehearsal.specs.declared.Begun.{Begun}
use Rattle.rehearsal.specs.declared.Deed.{Deed}
use Rattle.rehearsal.specs.declared.Line.{Line}
use Rattle.rehearsal.specs.declared.Lines.{Lines}
use Rattle.rehearsal.specs.declared.Record.{Record}
use Rattle.rehearsal.specs.declared.World.{World}

-- lines in the places of an array
abbrev pub no_line : Line
no_line = line_of 0 0 0

abbrev pub lines_stored : List Line → Lines
lines_stored ls = record { places = pad most_lines no_line ls; count = length ls }

-- the lines in use of an array
abbrev pub lines_in : Lines → List Line
lines_in ls = take ls.count ls.places

-- what an input is before its script: the world, and where the script begins; or the question that refuses it
unfoldable pub begun_of : List ℕ → Result Begun ℕ
begun_of input =
    reply (input_questions input) Err (Ok (record { script = 1 + (book_in input).used; world = world_in input }))

-- a record with its bytes in a world: its deed, and the world after it
unfoldable pub turn_of : Option ℕ → World → Record → List ℕ → Deed × World
turn_of d w r bytes =
    reply (record_questions w.n r (place_of w r))
    (λ q. (plain_deed true r (switch_of r.kind r (place_of w r)) q, w))
    (deed_in d w r bytes, world_but d w r bytes)

-- the number that digits in ASCII are
unfoldable pub value_of : List ℕ → ℕ
value_of [] = 0
value_of (d ∷ ds) = (d - 48) * 10 ^ length ds + value_of ds
