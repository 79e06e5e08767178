-- None, or one that is on the switch, and none marked above it is.
use mathlib.Core.Path.{◌∙◌}
use native.Mathlib.Omega.{arith}
use lib.ListN.{length}
use Rattle.checker.specs.Marks.{rising_in}
use Rattle.checker.proofs.Trying.{last_none, last_off, last_on}
use Rattle.checker.proofs.flights.can_be_last.Goals.{else-number-ne0-via-then-number-ne0+else-not-is_at, else-number-ne0-via-else-number-ne0}
use Rattle.checker.proofs.flights.can_be_last.Goals as goal

pub returns-then-not-is_at : goal.returns-then-not-is_at
returns-then-not-is_at c = let a = c.args in
    last_off a.changes.now a.switch a.address (rising_in a.marks.now (length a.changes.now)) a.number
    (omega arith) (omega arith) c.is_at.result c.is_at.ensures c.if-not-is_at.true

pub returns : goal.returns
returns c = let a = c.args in
    let known = rising_in a.marks.now (length a.changes.now) in
    c.none_later.ensures
    ∙ elim c.else-number-ne0.branch [
      | else-number-ne0-via-then-number-ne0+else-not-is_at w ↦ last_on a.changes.now a.switch a.address known a.number
          (omega arith) (omega arith) w.is_at.result w.is_at.ensures w.if-not-is_at.false
      | else-number-ne0-via-else-number-ne0 w ↦ last_none a.changes.now a.switch a.address known a.number (omega arith)
    ]
