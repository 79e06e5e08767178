-- `set_entry` meets its contract: the entry goes where the search finds its key, or is put in where its key belongs, by
-- the laws of padded tables. Assumes nothing.
use Rattle.std.proofs.Common.{rules, ◌≡◌, ◌≤◌, ◌<◌, length, arith, ℕ, Ok, Err}
use Rattle.lists.proofs.Stores.{length_mapped}
use Rattle.flow.specs.Rules.{entry_key}
use Rattle.flow.specs.Tables.{entries_of, table_of}
use Rattle.flow.specs.Changes as changes
use Rattle.flow.specs.Places.{searched}
use Rattle.flow.specs.declared.Entry.{Entry}
use Rattle.flow.specs.declared.Table.{Table}
use Rattle.flow.proofs.Places.{place_le}
use Rattle.flow.proofs.Searched.{found_at, missing_at}
use Rattle.flow.proofs.Moves.{moved_up}
use Rattle.flow.proofs.Padded.{count_is, set-table, set-length, inserted_table}
use Rattle.flow.proofs.changes.set_entry.Goals as goal

-- where the key belongs, and how many entries there are
record Room (t : Table) (at : ℕ) : Type 0 where
  place : at ≤ t.count
  few : t.count < 64

room_for_one : (t : Table) (long : length t.entries ≡ 64) (e : Entry) (at : ℕ) → t ≡ table_of (entries_of t)
    → searched (entry_key e) (entries_of t) ≡ Err at → length (changes.set_entry e (entries_of t)) ≤ 64 → Room t at
room_for_one t long e at padded answer fits =
    let found = missing_at (entry_key e) (entries_of t) at answer in
    let more = set-length t long padded e at found.0 found.1 in
    let last = place_le (entry_key e) (entries_of t) in
    record { place = omega (arith, found.0, count_is t long padded); few = omega arith }

pub overflow_add-at : goal.overflow_add-at
overflow_add-at c =
    let t = c.args.t in
    let long : length t.entries ≡ 64 = search (rules, length_mapped) in
    let room = room_for_one t long c.args.e c.in-Err.at c.requires.padded (cc) c.requires.room in
    omega (arith, room.place, room.few)

pub copy_within-requires-clause-start_le_end : goal.copy_within-requires-clause-start_le_end
copy_within-requires-clause-start_le_end c =
    let t = c.args.t in
    let long : length t.entries ≡ 64 = search (rules, length_mapped) in
    let room = room_for_one t long c.args.e c.in-Err.at c.requires.padded (cc) c.requires.room in
    room.place

pub copy_within-requires-clause-dest_in_bounds : goal.copy_within-requires-clause-dest_in_bounds
copy_within-requires-clause-dest_in_bounds c =
    let t = c.args.t in
    let long : length t.entries ≡ 64 = search (rules, length_mapped) in
    let room = room_for_one t long c.args.e c.in-Err.at c.requires.padded (cc) c.requires.room in
    omega (arith, room.place, room.few)

pub offset_bounds-t-at-in-Err : goal.offset_bounds-t-at-in-Err
offset_bounds-t-at-in-Err c =
    let t = c.args.t in
    let long : length t.entries ≡ 64 = search (rules, length_mapped) in
    let room = room_for_one t long c.args.e c.in-Err.at c.requires.padded (cc) c.requires.room in
    omega (arith, room.place, room.few)

pub bounds-t-at-in-Err : goal.bounds-t-at-in-Err
bounds-t-at-in-Err c =
    let t = c.args.t in
    let long : length t.entries ≡ 64 = search (rules, length_mapped) in
    let room = room_for_one t long c.args.e c.in-Err.at c.requires.padded (cc) c.requires.room in
    omega (arith, room.place, room.few)

pub returns-in-Ok : goal.returns-in-Ok
returns-in-Ok c =
    let t = c.args.t in
    let long : length t.entries ≡ 64 = search (rules, length_mapped) in
    let answer : searched (entry_key c.args.e) (entries_of t) ≡ Ok c.in-Ok.at = cc in
    let at = found_at (entry_key c.args.e) (entries_of t) c.in-Ok.at answer in
    set-table t long c.requires.padded c.args.e c.in-Ok.at at.0 at.1

pub returns-in-Err : goal.returns-in-Err
returns-in-Err c =
    let t = c.args.t in
    let e = c.args.e in
    let long : length t.entries ≡ 64 = search (rules, length_mapped) in
    let answer : searched (entry_key e) (entries_of t) ≡ Err c.in-Err.at = cc in
    let at = missing_at (entry_key e) (entries_of t) c.in-Err.at answer in
    let room = room_for_one t long e c.in-Err.at c.requires.padded answer c.requires.room in
    let moved = moved_up t.entries c.in-Err.at t.count e room.place (omega (arith, room.few)) in
    inserted_table t long c.requires.padded e c.in-Err.at _ at.0 at.1 room.few (rw c.copy_within.ensures.after moved)
