-- The two bounds of a change stand at an odd place and the even one after it.
use mathlib.Core.Path.{sym, ◌∙◌}
use native.Mathlib.Omega.{arith}
use Rattle.checker.proofs.Bounding.{asked_begin, asked_end}
use Rattle.checker.proofs.classes.bound_at.Goals as goal

pub returns-then-i-eq1 : goal.returns-then-i-eq1
returns-then-i-eq1 c = let a = c.args in
    c.begins.ensures ∙ sym (asked_begin a.changes.now a.q a.i c.if-i-eq1.true (omega arith))

pub returns-else-i-eq1 : goal.returns-else-i-eq1
returns-else-i-eq1 c = let a = c.args in
    c.ends.ensures ∙ sym (asked_end a.changes.now a.q a.i c.if-i-eq0.false c.if-i-eq1.false (omega arith))
