-- A turn over lent bytes: the bytes after it, and the sum. Digests, playbooks read, and inputs rehearsed.
use Rattle.std.specs.Prelude.{ℕ, ◌%◌, List, [], ◌∷◌, slice_set}
use Rattle.lists.specs.Bytes.{num, byte_at}
use Rattle.playbook.specs.Reading.{read_whole}
use Rattle.playbook.specs.declared.Outcome.{Outcome}
use Rattle.rehearsal.specs.Scripts.{rehearsed}
use Rattle.rehearsal.specs.declared.Printed.{Printed}
use Rattle.timed.specs.Turns.{mixed}

-- lent bytes, and a sum
abbrev pub Summed : Type 0
Summed = List ℕ × ℕ

-- the number of the first four bytes of a digest
abbrev pub front : List ℕ → ℕ
front d = num (byte_at d 0 ∷ byte_at d 1 ∷ byte_at d 2 ∷ byte_at d 3 ∷ [])

-- a digest of the bytes: its first byte goes to their front, its first four into the sum
abbrev pub digested : (List ℕ → List ℕ) → ℕ → Summed → Summed
digested digest i a = (slice_set a.0 0 (byte_at (digest a.0) 0), mixed a.1 (front (digest a.0)))

-- the answer to a playbook, and how many plans and changes are stored
abbrev pub read_mixed : Outcome → ℕ → ℕ
read_mixed r sum =
    mixed (mixed (mixed sum r.answer) (r.playbook.planned % 1024)) (r.playbook.listed % 1024)

-- a playbook read, another byte at a place of it
abbrev pub read_once : ℕ → ℕ → Summed → Summed
read_once place i a =
    let book = slice_set a.0 place (i % 256) in
    (book, read_mixed (read_whole book) a.1)

-- the answer to an input, and the length of what is printed
abbrev pub print_mixed : Printed → ℕ → ℕ
print_mixed p sum = mixed (mixed sum p.answer) (p.length % 1000000)

-- an input rehearsed, its lines printed to an output
abbrev pub rehearsed_once : List ℕ → ℕ → Summed → Summed
rehearsed_once input i a =
    let printed = rehearsed input a.0 in
    (printed.1, print_mixed printed.0 a.1)
