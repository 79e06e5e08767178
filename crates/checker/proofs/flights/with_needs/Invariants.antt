-- The places from j on are decided, and the marks below j are still the first ones.
use mathlib.Core.Path.{◌≡◌}
use lib.ListN.{length}
use Rattle.checker.proofs.Needing.{Decided}
use Rattle.checker.proofs.flights.with_needs.Given as goal

abbrev pub invariant-loop-j : goal.invariant-loop-j
invariant-loop-j l =
    (length l.out ≡ 256) × Decided l.changes (length l.changes) l.initial.out l.out l.j
