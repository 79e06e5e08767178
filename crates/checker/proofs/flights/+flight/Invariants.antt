-- The hops fall. The flight is what the numbers below the present one still say, with the budget that is left.
use mathlib.Core.Path.{◌≡◌}
use lib.ListN.{length}
use Rattle.checker.specs.Marks.{rising_in}
use Rattle.checker.proofs.Flying.{flight_of, flight_below}
use Rattle.checker.proofs.flights.+flight.Given as goal

abbrev pub decreases-flight : goal.decreases-flight
decreases-flight l = l.hops

abbrev pub invariant-loop-number : goal.invariant-loop-number
invariant-loop-number l =
    flight_of l.changes l.links l.q l.address l.hops l.switch (rising_in l.marks (length l.changes)) l.budget
    ≡ flight_below l.changes l.links l.q l.address l.hops l.switch (rising_in l.marks (length l.changes)) l.number l.left
