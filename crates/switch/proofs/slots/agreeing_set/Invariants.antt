-- `agreeing_set` meets its contract. The loop's invariant: the set of the slots before that agree. Assumes nothing.
use mathlib.Core.Path.{◌≡◌}
use lib.ListN.{take}
use Rattle.switch.specs.Slots.{agreeing}
use Rattle.switch.proofs.slots.agreeing_set.Given as goal

abbrev pub invariant-loop-c : goal.invariant-loop-c
invariant-loop-c l = l.set ≡ agreeing l.share (take l.c l.slots)
