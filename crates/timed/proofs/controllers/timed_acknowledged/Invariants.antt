-- The sum keeps its bound.
use Rattle.std.proofs.Common.{◌^◌, ◌<◌}
use Rattle.timed.proofs.controllers.timed_acknowledged.Given as goal

abbrev pub invariant-loop : goal.invariant-loop
invariant-loop l =
    l.sum < 2 ^ 45
