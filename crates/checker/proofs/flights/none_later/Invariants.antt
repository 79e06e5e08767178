-- Those from place i on are left to be asked.
use mathlib.Core.Path.{◌≡◌}
use lib.ListN.{length}
use Rattle.checker.specs.Marks.{rising_in}
use Rattle.checker.specs.Trials.{none_later}
use Rattle.checker.proofs.Trying.{none_from}
use Rattle.checker.proofs.flights.none_later.Given as goal

abbrev pub invariant-loop-i : goal.invariant-loop-i
invariant-loop-i l =
    none_later l.changes l.switch l.address l.number (rising_in l.marks (length l.changes))
    ≡ none_from l.changes l.switch l.address l.marks l.number l.i
