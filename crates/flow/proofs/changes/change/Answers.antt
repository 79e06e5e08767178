-- `change` meets its contract, by the action's variant. Assumes nothing.
use mathlib.Core.Path.{sym, ap, ◌∙◌}
use Rattle.flow.specs.Rules.{Key}
use Rattle.flow.specs.Changes.{drop_entry}
use Rattle.flow.specs.Tables.{entries_of, table_of}
use Rattle.flow.proofs.Places.{apply_remove, apply_set}
use Rattle.flow.proofs.changes.change.Goals as goal

pub set_entry-requires : goal.set_entry-requires
set_entry-requires c = let set = apply_set c.args.rule c.in-Set.port (entries_of c.args.t) c.in-Set.is in
    record { padded = c.requires.padded; ordered = c.requires.ordered; room = rw set at c.requires.room }

pub returns-in-Remove : goal.returns-in-Remove
returns-in-Remove c = let a = c.args in
    let removal = apply_remove a.rule (entries_of a.t) c.in-Remove.is in
    c.remove_entry.ensures ∙ ap table_of (ap (λ (k : Key). drop_entry k (entries_of a.t)) c.key.ensures ∙ sym removal)

pub returns-in-Set : goal.returns-in-Set
returns-in-Set c = let a = c.args in
    let set = apply_set a.rule c.in-Set.port (entries_of a.t) c.in-Set.is in
    c.set_entry.ensures ∙ ap table_of (sym set)
