-- The change at place j is tested in its turn.
use mathlib.Core.Path.{sym, ◌∙◌}
use native.Mathlib.Omega.{arith}
use Rattle.checker.proofs.Waiting.{clear_free, clear_marked, clear_missed, clear_done}
use Rattle.checker.proofs.changes.skips_none.Goals.{else-waits_for-via-then-waits_for+else-not-marks-j, else-waits_for-via-else-waits_for}
use Rattle.checker.proofs.changes.skips_none.Goals as goal

pub returns-then-not-marks-j : goal.returns-then-not-marks-j
returns-then-not-marks-j c = let a = c.args in
    sym (c.loop-j.invariant ∙ clear_missed a.changes.now a.marks.now a.k c.loop-j.j (omega arith)
    (sym c.waits_for.ensures ∙ c.if-waits_for.true) c.if-not-marks-j.true)

pub loop-j-preserved : goal.loop-j-preserved
loop-j-preserved c = let a = c.args in
    c.loop-j.invariant
    ∙ elim c.else-waits_for.branch [
      | else-waits_for-via-then-waits_for+else-not-marks-j w ↦ clear_marked a.changes.now a.marks.now a.k c.loop-j.j (omega arith)
          (sym c.waits_for.ensures ∙ w.if-waits_for.true) w.if-not-marks-j.false
      | else-waits_for-via-else-waits_for w ↦ clear_free a.changes.now a.marks.now a.k c.loop-j.j (omega arith)
          (sym c.waits_for.ensures ∙ w.if-waits_for.false)
    ]

pub returns : goal.returns
returns c = let a = c.args in
    sym (c.loop-j.invariant ∙ clear_done a.changes.now a.marks.now a.k c.loop-j.j (omega arith))
