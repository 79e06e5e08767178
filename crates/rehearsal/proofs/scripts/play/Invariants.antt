-- The loop's invariant: the lines of the first i deeds stand in their places.
use Rattle.rehearsal.proofs.Telling.{LinesBefore}
use Rattle.rehearsal.proofs.scripts.play.Given as goal

abbrev pub invariant-loop-i : goal.invariant-loop-i
invariant-loop-i l = LinesBefore l.deeds l.i l.places
