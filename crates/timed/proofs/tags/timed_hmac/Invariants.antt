-- After each turn bytes and sum are those of as many turns.
use Rattle.std.proofs.Common.{◌≡◌}
use Rattle.tag.specs.Hmac.{hmac}
use Rattle.timed.specs.Turns.{turned}
use Rattle.timed.specs.Bytes.{Summed, digested}
use Rattle.timed.proofs.tags.timed_hmac.Given as goal

abbrev pub invariant-loop-i : goal.invariant-loop-i
invariant-loop-i l =
    ◌≡◌ {A = Summed} (l.m, l.sum) (turned (digested (hmac l.key)) l.i (l.initial.m, 0))
