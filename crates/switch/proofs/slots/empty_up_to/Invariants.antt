-- `empty_up_to` meets its contract. The loop's invariant: the first slots are emptied, and the others are as they were.
-- Assumes nothing.
use mathlib.Core.Path.{◌≡◌}
use Rattle.switch.proofs.Emptied.{emptied_to}
use Rattle.switch.proofs.slots.empty_up_to.Given as goal

abbrev pub invariant-loop-slot : goal.invariant-loop-slot
invariant-loop-slot l = l.slots ≡ emptied_to l.number l.slot-index l.initial.slots
