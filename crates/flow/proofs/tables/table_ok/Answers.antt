-- `table_ok` meets its contract: the first test that fails decides. Assumes nothing.
use Rattle.std.proofs.Common.{◌≡◌, ◌∙◌, sym, ap, true, false}
use borrow.Author.Tests.{le-leb, lt-leb}
use Rattle.answer.proofs.Bools.{tf}
use Rattle.lists.specs.Arrays.{every_tail}
use Rattle.lists.proofs.Stores.{lent_rest}
use Rattle.flow.specs.Tables.{entries_of, head_ok, table_ok}
use Rattle.flow.proofs.tables.table_ok.Goals as goal
use Rattle.flow.proofs.tables.table_ok.Goals.{then-t-le-ENTRIES, else-t-le-ENTRIES}

pub returns-then-are_ordered : goal.returns-then-are_ordered
unfolding table_ok
returns-then-are_ordered c =
    let t = c.args.t in
    elim c.if-t-le-ENTRIES.branch [
      | then-t-le-ENTRIES w ↦
          let ordered : every_tail head_ok (entries_of t) ≡ true =
          sym (w.are_ordered.ensures ∙ ap (every_tail head_ok) w.used.ensures) ∙ sym w.value-is ∙ c.if-are_ordered.true in
          rw (le-leb t.count 64 w.if-t-le-ENTRIES.true, ordered) (rw (lent_rest t.entries t.count) at c.are_unused.ensures)
      | else-t-le-ENTRIES w ↦ tf c.if-are_ordered.true (w.value-is ∙ lt-leb t.count 64 w.if-t-le-ENTRIES.false)
    ]

pub returns-else-are_ordered : goal.returns-else-are_ordered
unfolding table_ok
returns-else-are_ordered c =
    let t = c.args.t in
    elim c.if-t-le-ENTRIES.branch [
      | then-t-le-ENTRIES w ↦
          let disordered : every_tail head_ok (entries_of t) ≡ false =
          sym (w.are_ordered.ensures ∙ ap (every_tail head_ok) w.used.ensures) ∙ sym w.value-is ∙ c.if-are_ordered.false in
          rw (c.if-are_ordered.false, le-leb t.count 64 w.if-t-le-ENTRIES.true, disordered)
      | else-t-le-ENTRIES w ↦ rw (c.if-are_ordered.false, lt-leb t.count 64 w.if-t-le-ENTRIES.false)
    ]
