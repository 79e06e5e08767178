-- The change at place i is looked at in its turn.
use mathlib.Core.Path.{sym, ap, ◌∙◌}
use native.Mathlib.Omega.{arith}
use lib.ListN.{length}
use Rattle.answer.proofs.Bools.{or_left}
use mathlib.Core.Bool.{Bool, ◌||◌}
use Prim.Native.Nat.{◌+◌}
use Rattle.isolation.specs.Flights.{is_needed}
use Rattle.checker.specs.Layout.{changes_in}
use Rattle.checker.proofs.Needing.{rising_past, needed_here, needed_unmarked, needed_end}
use Rattle.checker.proofs.flights.is_needed.Goals.{else-marks-i-via-then-marks-i+else-waits_for, else-marks-i-via-else-marks-i}
use Rattle.checker.proofs.flights.is_needed.Goals as goal

pub returns-then-waits_for : goal.returns-then-waits_for
returns-then-waits_for c = let a = c.args in
    sym (c.loop-i.invariant ∙ needed_here a.changes.now (length a.changes.now) a.marks.now a.j c.loop-i.i (omega arith)
    (omega arith) c.if-marks-i.true c.waits_for.result c.waits_for.ensures
    ∙ or_left _ _ c.if-waits_for.true)

pub loop-i-preserved : goal.loop-i-preserved
loop-i-preserved c = let a = c.args in
    let n = length a.changes.now in
    c.loop-i.invariant
    ∙ elim c.else-marks-i.branch [
      | else-marks-i-via-then-marks-i+else-waits_for w ↦ needed_here a.changes.now n a.marks.now a.j c.loop-i.i
          (omega arith) (omega arith) w.if-marks-i.true w.waits_for.result w.waits_for.ensures
          ∙ ap (λ (b : Bool). b || is_needed (changes_in a.changes.now) (a.j + 1)
          (rising_past a.marks.now n (c.loop-i.i + 1))) w.if-waits_for.false
      | else-marks-i-via-else-marks-i w ↦ needed_unmarked a.changes.now n a.marks.now a.j c.loop-i.i
          (omega arith) (omega arith) w.if-marks-i.false
    ]

pub returns : goal.returns
returns c = let a = c.args in
    sym (c.loop-i.invariant ∙ needed_end a.changes.now (length a.changes.now) a.marks.now a.j c.loop-i.i (omega arith))
