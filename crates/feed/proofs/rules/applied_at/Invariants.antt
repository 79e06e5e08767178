-- The loop's invariant: the rules of the deeds so far stand in their places.
use Rattle.feed.proofs.Gathered.{Gathered}
use Rattle.feed.proofs.rules.applied_at.Given as goal

abbrev pub invariant-loop-deed : goal.invariant-loop-deed
invariant-loop-deed l = Gathered l.switch l.deeds l.deed-index l.rules l.count
