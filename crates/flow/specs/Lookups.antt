-- Lookup of an address (document 01, "Bytes"). Assumes nothing.
use Rattle.std.specs.Prelude.{ℕ, ◌/◌, Bool, true, false, List, [], ◌∷◌, leb, eqb, Option, Some, None}
use Rattle.answer.specs.Ask.{Numbered, pick}
use Rattle.flow.specs.Rules.{Key, entry_key, block_size}
use Rattle.flow.specs.declared.Entry.{Entry}

-- whether an address begins with a prefix of this length
abbrev pub covers : Key → ℕ → Bool
covers k address = eqb (address / block_size k.1) (k.0 / block_size k.1)

-- a port found, and the length of its entry
abbrev pub Best : Type 0
Best = Option ℕ × ℕ

-- an entry that covers the address beats what was found after it, unless it is shorter
abbrev pub better : Bool → Entry → Best → Best
better true e b = pick (leb b.1 e.length) (Some e.port, e.length) b
better false e b = b

unfoldable pub best_of : ℕ → List Entry → Best
best_of address [] = (None, 0)
best_of address (e ∷ es) = better (covers (entry_key e) address) e (best_of address es)

-- the port of the longest entry that covers the address, the earlier of equals, or nothing
abbrev pub lookup_of : ℕ → List Entry → Option ℕ
lookup_of address es = (best_of address es).0

-- document 01's number of each case, and its values
abbrev pub found_said : Option ℕ → Numbered
found_said (Some port) = (0, port ∷ [])
found_said None = (0, [])
