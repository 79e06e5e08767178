-- After each turn bytes and sum are those of as many turns.
use Rattle.std.proofs.Common.{◌≡◌}
use Rattle.timed.specs.Turns.{turned}
use Rattle.timed.specs.Bytes.{Summed, read_once}
use Rattle.timed.proofs.playbooks.timed_read.Given as goal

abbrev pub invariant-loop-i : goal.invariant-loop-i
invariant-loop-i l =
    ◌≡◌ {A = Summed} (l.book, l.sum) (turned (read_once l.place) l.i (l.initial.book, 0))
