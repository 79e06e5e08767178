-- `remove_entry` meets its contract: the entry of its key is taken out where the search finds it, by the laws of padded
-- tables. Assumes nothing.
use Rattle.std.proofs.Common.{rules, ◌≡◌, ◌∙◌, sym, ap, length, arith, Ok, Err}
use Rattle.lists.proofs.Stores.{length_mapped}
use Rattle.flow.specs.Tables.{empty_entry, entries_of}
use Rattle.flow.specs.Places.{searched}
use Rattle.flow.proofs.Places.{present_lt}
use Rattle.flow.proofs.Searched.{found_at, missing_at}
use Rattle.flow.proofs.Moves.{moved_down}
use Rattle.flow.proofs.Padded.{count_is, count-le, removed_table, kept_table}
use Rattle.flow.proofs.changes.remove_entry.Goals as goal

pub returns-in-Ok : goal.returns-in-Ok
returns-in-Ok c =
    let t = c.args.t in
    let long : length t.entries ≡ 64 = search (rules, length_mapped) in
    let padded = c.requires.padded in
    let answer : searched c.args.key (entries_of t) ≡ Ok c.in-Ok.at =
    sym (c.search.ensures ∙ ap (searched c.args.key) c.used.ensures) ∙ c.in-Ok.is in
    let at = found_at c.args.key (entries_of t) c.in-Ok.at answer in
    let below = present_lt c.args.key c.in-Ok.at (entries_of t) at.1 in
    let few = count-le t long padded in
    let moved = moved_down t.entries c.in-Ok.at t.count empty_entry (omega (arith, count_is t long padded)) (omega arith) in
    removed_table t long padded c.args.key c.in-Ok.at _ at.0 at.1 (rw c.copy_within.ensures.after moved)

pub returns-in_default : goal.returns-in_default
returns-in_default c =
    let t = c.args.t in
    let long : length t.entries ≡ 64 = search (rules, length_mapped) in
    let answer : searched c.args.key (entries_of t) ≡ Err c.in_default.field-0 =
    sym (c.search.ensures ∙ ap (searched c.args.key) c.used.ensures) ∙ c.in_default.is in
    let at = missing_at c.args.key (entries_of t) c.in_default.field-0 answer in
    kept_table t long c.requires.padded c.args.key c.in_default.field-0 at.0 at.1
