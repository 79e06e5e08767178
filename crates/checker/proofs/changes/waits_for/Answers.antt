-- Each branch decides a test of the fields.
use mathlib.Core.Path.{sym, ◌∙◌}
use native.Mathlib.Omega.{arith}
use borrow.Author.Tests.{ne_eqb}
use Rattle.checker.proofs.Waiting.{waits_first, waits_apart}
use Rattle.checker.proofs.changes.waits_for.Goals as goal

pub returns-then-v-u-2 : goal.returns-then-v-u-2
returns-then-v-u-2 c = let a = c.args in
    sym (waits_first a.changes.now a.i a.j (omega arith) c.if-v-u.false c.if-v-u-2.true)

pub returns-else-v-u-2 : goal.returns-else-v-u-2
returns-else-v-u-2 c = let a = c.args in
    ne_eqb _ _ c.if-v-u-2.false ∙ sym (waits_apart a.changes.now a.i a.j (omega arith) c.if-v-u.false c.if-v-u-2.false)
