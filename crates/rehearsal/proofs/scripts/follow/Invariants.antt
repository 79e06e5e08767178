-- The loop's invariant: the deeds so far stand in their places, and the others follow from the bytes that are left and
-- the world as it is.
use lib.ListN.{length}
use Rattle.rehearsal.proofs.Turns.{SoFar}
use Rattle.rehearsal.proofs.scripts.follow.Given as goal

abbrev pub invariant-loop-rest : goal.invariant-loop-rest
invariant-loop-rest l = SoFar l.dropped l.script l.fn.world l.world l.deeds l.count l.rest

abbrev pub decreases-loop-rest : goal.decreases-loop-rest
decreases-loop-rest l = length l.rest
