-- What a rule does to a flow table, and room for it (document 01, "Bytes" and question 19). Assumes nothing.
use Rattle.std.specs.Prelude.{ℕ, Bool, true, false, ◌||◌, List, [], ◌∷◌, map, length, ltb}
use Rattle.answer.specs.Ask.{pick, reply, first_no}
use Rattle.answer.specs.Limits.{most_entries}
use Rattle.lists.specs.Kinds.{among}
use Rattle.flow.specs.Rules.{Key, entry_key, rule_key, before, same_key, well_formed}
use Rattle.flow.specs.Tables.{entries_of, table_of, table_ok}
use Rattle.flow.specs.declared.Action.{Action}
use Rattle.flow.specs.declared.Action.TheVariants.{Remove, Set}
use Rattle.flow.specs.declared.Rule.{Rule}
use Rattle.flow.specs.declared.Entry.{Entry}
use Rattle.flow.specs.declared.Table.{Table}
use Rattle.flow.specs.declared.Applied.{Applied}

-- the entry set: in its place in the order, or for the one with its prefix and length
unfoldable pub set_entry : Entry → List Entry → List Entry
set_entry e [] = e ∷ []
set_entry e (f ∷ fs) =
    pick (before (entry_key f) (entry_key e)) (f ∷ set_entry e fs)
    (pick (same_key (entry_key f) (entry_key e)) (e ∷ fs) (e ∷ f ∷ fs))

-- without the entry of this prefix and length
unfoldable pub drop_entry : Key → List Entry → List Entry
drop_entry k [] = []
drop_entry k (f ∷ fs) =
    pick (before (entry_key f) k) (f ∷ drop_entry k fs)
    (pick (same_key (entry_key f) k) fs (f ∷ fs))

abbrev pub act : Action → Key → List Entry → List Entry
act Remove k es = drop_entry k es
act (Set port) k es = set_entry (record { prefix = k.0; length = k.1; port = port }) es

-- what a rule does to the entries, and to the table
abbrev pub apply_rule : Rule → List Entry → List Entry
apply_rule r es = act r.action (rule_key r) es

abbrev pub changed : Rule → Table → Table
changed r t = table_of (apply_rule r (entries_of t))

abbrev pub removes : Action → Bool
removes Remove = true
removes (Set port) = false

-- whether some entry has this prefix and length
abbrev pub has_entry : Key → List Entry → Bool
has_entry k es = among same_key k (map entry_key es)

-- a removal, or its entry is present, or there is room for one entry more
abbrev pub room_for : Rule → List Entry → Bool
room_for r es = removes r.action || has_entry (rule_key r) es || ltb (length es) most_entries

-- question 19
abbrev pub room_answer : Table → Rule → ℕ
room_answer t r = first_no ((19, room_for r (entries_of t)) ∷ [])

-- questions 20, 15 and 19; then the rule is applied, answer 1
abbrev pub apply_to : Table → Rule → Applied
apply_to t r =
    reply ((20, table_ok t) ∷ (15, well_formed r) ∷ (19, room_for r (entries_of t)) ∷ [])
    (λ k. record { answer = k; table = t })
    (record { answer = 1; table = changed r t })
