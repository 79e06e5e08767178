-- 64 rounds, by eight: so many of them are made, and the schedule stands 16 words further, to its end.
use Rattle.std.proofs.Common.{◌≡◌, ◌*◌, length, take}
use Rattle.tag.specs.Unrolled.{Rounds}
use Rattle.tag.proofs.Rounds.{Stands}
use Rattle.tag.proofs.block.rounds.Given as goal

abbrev pub invariant-loop-turn : goal.invariant-loop-turn
invariant-loop-turn l =
    (length l.w ≡ 64) × Stands (take 16 l.initial.w) l.w (8 * l.turn) × Rounds l.w 0 l.initial.s (8 * l.turn) l.s
