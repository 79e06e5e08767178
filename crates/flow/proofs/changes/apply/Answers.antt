-- `apply` meets its contract: the branches answer the questions in order, and a rule with room keeps a table that obeys
-- its limits within 64 entries. Assumes nothing.
use mathlib.Core.Path.{◌≡◌, sym, ◌∙◌}
use mathlib.Core.Bool.{true}
use borrow.Author.Rules.{rules}
use lib.ListN.{length}
use Rattle.answer.proofs.Asked.{refused, asked}
use Rattle.lists.proofs.Stores.{length_mapped}
use Rattle.flow.specs.Rules.{well_formed}
use Rattle.flow.specs.Tables.{entries_of, table_ok}
use Rattle.flow.specs.Changes.{room_for}
use Rattle.flow.proofs.Padded.{ok_padded}
use Rattle.flow.proofs.Kept.{ok_ordered, ok_few, room_law, apply_done}
use Rattle.flow.proofs.changes.apply.Goals as goal

pub returns-then-not-table_ok : goal.returns-then-not-table_ok
returns-then-not-table_ok c = sym (refused _ _ 20 _ _ (sym c.table_ok.ensures ∙ c.if-not-table_ok.true))

pub returns-then-not-well_formed : goal.returns-then-not-well_formed
returns-then-not-well_formed c =
    let within : table_ok c.args.t ≡ true = sym c.table_ok.ensures ∙ c.if-not-table_ok.false in
    let malformed = sym c.well_formed-2.ensures ∙ c.if-not-well_formed.true in
    sym (asked _ _ 20 _ _ within ∙ refused _ _ 15 _ _ malformed)

pub returns-then-not-has_room : goal.returns-then-not-has_room
returns-then-not-has_room c =
    let within : table_ok c.args.t ≡ true = sym c.table_ok.ensures ∙ c.if-not-table_ok.false in
    let formed : well_formed c.args.rule ≡ true = sym c.well_formed-2.ensures ∙ c.if-not-well_formed.false in
    let full = sym c.has_room.ensures ∙ c.if-not-has_room.true in
    sym (asked _ _ 20 _ _ within
    ∙ asked _ _ 15 _ _ formed
    ∙ refused _ _ 19 _ _ full)

pub change-requires : goal.change-requires
change-requires c =
    let within : table_ok c.args.t ≡ true = sym c.table_ok.ensures ∙ c.if-not-table_ok.false in
    let fits : (let a = c.args in
    room_for a.rule (entries_of a.t) ≡ true) = sym c.has_room.ensures ∙ c.if-not-has_room.false in
    let long : length c.args.t.entries ≡ 64 = search (rules, length_mapped) in
    let t = c.args.t in
    let ok = within in
    record {
      padded = ok_padded t long ok;
      ordered = ok_ordered t ok;
      room = room_law c.args.rule (entries_of t) (ok_ordered t ok) (ok_few t ok) fits;
    }

pub returns : goal.returns
returns c =
    let within : table_ok c.args.t ≡ true = sym c.table_ok.ensures ∙ c.if-not-table_ok.false in
    let formed : well_formed c.args.rule ≡ true = sym c.well_formed-2.ensures ∙ c.if-not-well_formed.false in
    let fits : (let a = c.args in
    room_for a.rule (entries_of a.t) ≡ true) = sym c.has_room.ensures ∙ c.if-not-has_room.false in
    let rule = c.args.rule in
    let limits = within in
    rw c.change.ensures (sym (apply_done _ rule limits formed fits))
