-- Flow tables as lists of entries, and their limits (document 01, "Bytes"). Assumes nothing.
use Rattle.std.specs.Prelude.{Bool, true, ◌&&◌, List, [], ◌∷◌, length, take, drop, ltb, leb, eqb}
use Rattle.answer.specs.Limits.{most_entries}
use Rattle.lists.specs.Arrays.{pad, every_tail, on_head, every}
use Rattle.flow.specs.Rules.{entry_key, prefix_ok, before}
use Rattle.flow.specs.declared.Entry.{Entry}
use Rattle.flow.specs.declared.Table.{Table}

abbrev pub empty_entry : Entry
empty_entry = record { prefix = 0; length = 0; port = 0 }

abbrev pub is_empty : Entry → Bool
is_empty e = eqb e.prefix 0 && eqb e.length 0 && eqb e.port 0

-- the entries in use
abbrev pub entries_of : Table → List Entry
entries_of t = take t.count t.entries

-- the table with these entries, zero past them
abbrev pub table_of : List Entry → Table
table_of es = record { entries = pad most_entries empty_entry es; count = length es }

-- an entry that may stand in a table: well formed, its port above 0
abbrev pub entry_ok : Entry → Bool
entry_ok e = prefix_ok (entry_key e) && ltb 0 e.port

-- the first entry may stand in a table, and comes before the second
abbrev pub head_ok : List Entry → Bool
head_ok [] = true
head_ok (e ∷ es) = entry_ok e && on_head (λ f. before (entry_key e) (entry_key f)) es

-- no more entries than there is room for, which may stand in a table, by rising prefix and length, none twice; unused places are zero
unfoldable pub table_ok : Table → Bool
table_ok t =
    leb t.count most_entries && every_tail head_ok (entries_of t) && every is_empty (drop t.count t.entries)
