-- The ranges of a domain (document 01, "What the domain consists of") and how much an end holds, each number once.
use Rattle.std.specs.Prelude.{ℕ}

-- switches are 0 to 15, and controllers 0 to 15 at most
abbrev pub switch_count : ℕ
switch_count = 16

abbrev pub most_controllers : ℕ
most_controllers = 16

-- entries of a flow table
abbrev pub most_entries : ℕ
most_entries = 64

-- undone changes of a controller
abbrev pub most_undone : ℕ
most_undone = 64

-- the largest number of a change, and the largest serial of an event
abbrev pub largest : ℕ
largest = 4294967295
