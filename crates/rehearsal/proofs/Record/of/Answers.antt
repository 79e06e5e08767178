-- `Record::of` meets its contract: the serial of a decision is the field of four bytes. Assumes nothing.
use mathlib.Core.Path.{◌≡◌, ◌∙◌}
use Prim.Native.Nat.{◌≤◌}
use native.Mathlib.Omega.{arith}
use borrow.Author.Rules.{rules}
use lib.ListN.{length}
use Rattle.lists.specs.Bytes.{field}
use Rattle.lists.proofs.Numbers.{field_four}
use Rattle.rehearsal.proofs.Fields.{sized}
use Rattle.rehearsal.proofs.Record.of.Goals as goal

pub returns-in-Decide : goal.returns-in-Decide
returns-in-Decide c = let b = c.args.b.now in
    let whole : 8 ≤ length b = sized _ c.in-Decide.is _ (search rules) in
    let serial : c.u32_of.result ≡ field b 3 4 =
    c.u32_of.ensures
    ∙ rw (
      c.byte_at-in-Decide-2.ensures,
      c.byte_at-in-Decide-3.ensures,
      c.byte_at-in-Decide-4.ensures,
      c.byte_at-in-Decide-5.ensures,
    ) (field_four b 3 (omega (arith, whole))) in
    rw (
      c.in-Decide.is,
      c.byte_at.ensures,
      c.byte_at-in-Decide.ensures,
      serial,
      c.byte_at-in-Decide-6.ensures,
    )
