-- After each turn output and sum are those of as many turns.
use Rattle.std.proofs.Common.{◌≡◌}
use Rattle.timed.specs.Turns.{turned}
use Rattle.timed.specs.Bytes.{Summed, rehearsed_once}
use Rattle.timed.proofs.rehearsals.timed_rehearsed.Given as goal

abbrev pub invariant-loop-i : goal.invariant-loop-i
invariant-loop-i l =
    ◌≡◌ {A = Summed} (l.out, l.sum) (turned (rehearsed_once l.input) l.i (l.initial.out, 0))
