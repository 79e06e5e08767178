-- The loop's invariant: the FLOW_MODs of the rules so far stand at the start of the output.
use Rattle.feed.proofs.Putting.{Put}
use Rattle.feed.proofs.mods.put_all.Given as goal

abbrev pub invariant-loop-slot : goal.invariant-loop-slot
invariant-loop-slot l = Put l.rules l.initial.out l.slot-index l.at l.out
