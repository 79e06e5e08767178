-- Lookup in the table of a switch (document 01, "Bytes"). Assumes nothing.
use Rattle.std.specs.Prelude.{ℕ, [], ◌∷◌, Option, Some, None, Result, Ok, Err}
use Rattle.answer.specs.Ask.{Numbered, reply}
use Rattle.flow.specs.Tables.{entries_of}
use Rattle.flow.specs.Lookups.{lookup_of}
use Rattle.switch.specs.States.{switch_ok}
use Rattle.switch.specs.declared.Switch.{Switch}

-- the number of the question that refuses the state, no entry, or the port
abbrev pub looked_up : Switch → ℕ → Result (Option ℕ) ℕ
looked_up s address = reply ((20, switch_ok s) ∷ []) Err (Ok (lookup_of address (entries_of s.table)))

-- document 01's number of each case, 0 where the state passed, and its values
abbrev pub looked_said : Result (Option ℕ) ℕ → Numbered
looked_said (Err k) = (k, [])
looked_said (Ok None) = (0, [])
looked_said (Ok (Some port)) = (0, port ∷ [])
