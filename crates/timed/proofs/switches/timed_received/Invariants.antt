-- The sum keeps its bound.
use Rattle.std.proofs.Common.{◌^◌, ◌<◌}
use Rattle.timed.proofs.switches.timed_received.Given as goal

abbrev pub invariant-loop : goal.invariant-loop
invariant-loop l =
    l.sum < 2 ^ 45
