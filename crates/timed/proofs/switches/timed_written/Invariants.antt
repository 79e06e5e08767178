-- The sum keeps its bound.
use Rattle.std.proofs.Common.{◌^◌, ◌<◌}
use Rattle.timed.proofs.switches.timed_written.Given as goal

abbrev pub invariant-loop-i : goal.invariant-loop-i
invariant-loop-i l =
    l.sum < 2 ^ 45
