-- What is needed by those from place i on is the answer.
use mathlib.Core.Path.{◌≡◌}
use Prim.Native.Nat.{◌+◌}
use lib.ListN.{length}
use Rattle.isolation.specs.Flights.{is_needed}
use Rattle.checker.specs.Layout.{changes_in}
use Rattle.checker.proofs.Needing.{rising_past}
use Rattle.checker.proofs.flights.is_needed.Given as goal

abbrev pub invariant-loop-i : goal.invariant-loop-i
invariant-loop-i l =
    is_needed (changes_in l.changes) (l.j + 1) (rising_past l.marks (length l.changes) (l.j + 1))
    ≡ is_needed (changes_in l.changes) (l.j + 1) (rising_past l.marks (length l.changes) l.i)
