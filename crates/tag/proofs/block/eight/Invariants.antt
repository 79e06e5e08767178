-- Eight rounds, one by one: those below i are made.
use Rattle.tag.specs.Unrolled.{Rounds}
use Rattle.tag.proofs.block.eight.Given as goal

abbrev pub invariant-loop-i : goal.invariant-loop-i
invariant-loop-i l = Rounds l.w l.t l.initial.s l.i l.s
