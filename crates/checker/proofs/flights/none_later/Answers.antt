-- The change at place i is asked in its turn.
use mathlib.Core.Path.{sym, ap, ◌∙◌}
use mathlib.Core.Bool.{Bool, not, ◌&&◌}
use Prim.Native.Nat.{◌+◌}
use native.Mathlib.Omega.{arith}
use Rattle.checker.proofs.Trying.{none_from, none_start, none_here, none_unmarked, none_stop}
use Rattle.checker.proofs.flights.none_later.Goals.{else-marks-i-via-then-marks-i+else-is_at, else-marks-i-via-else-marks-i}
use Rattle.checker.proofs.flights.none_later.Goals as goal

pub loop-i-init : goal.loop-i-init
loop-i-init c = let a = c.args in
    none_start a.changes.now a.switch a.address a.marks.now a.number (omega arith)

pub returns-then-is_at : goal.returns-then-is_at
returns-then-is_at c = let a = c.args in
    sym (c.loop-i.invariant
    ∙ none_here a.changes.now a.switch a.address a.marks.now a.number c.loop-i.i
    (omega arith) (omega arith) c.if-marks-i.true c.is_at.result c.is_at.ensures
    ∙ ap (λ (b : Bool). not b && none_from a.changes.now a.switch a.address a.marks.now
    a.number (c.loop-i.i + 1)) c.if-is_at.true)

pub loop-i-preserved : goal.loop-i-preserved
loop-i-preserved c = let a = c.args in
    c.loop-i.invariant
    ∙ elim c.else-marks-i.branch [
      | else-marks-i-via-then-marks-i+else-is_at w ↦ none_here a.changes.now a.switch a.address a.marks.now a.number c.loop-i.i
          (omega arith) (omega arith) w.if-marks-i.true w.is_at.result w.is_at.ensures
          ∙ ap (λ (b : Bool). not b && none_from a.changes.now a.switch a.address a.marks.now
          a.number (c.loop-i.i + 1)) w.if-is_at.false
      | else-marks-i-via-else-marks-i w ↦ none_unmarked a.changes.now a.switch a.address a.marks.now a.number c.loop-i.i
          (omega arith) (omega arith) w.if-marks-i.false
    ]

pub returns : goal.returns
returns c = let a = c.args in
    sym (c.loop-i.invariant
    ∙ none_stop a.changes.now a.switch a.address a.marks.now a.number c.loop-i.i (omega arith))
