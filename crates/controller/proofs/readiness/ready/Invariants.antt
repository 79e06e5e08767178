-- `ready` meets its contract. The loop's invariant: none of the changes before is on the switch. Assumes nothing.
use mathlib.Core.Path.{◌≡◌}
use mathlib.Core.Bool.{true}
use lib.ListN.{take}
use Rattle.lists.specs.Arrays.{every}
use Rattle.controller.proofs.Scanning.{elsewhere}
use Rattle.controller.proofs.readiness.ready.Given as goal

abbrev pub invariant-loop-i : goal.invariant-loop-i
invariant-loop-i l = every (elsewhere l.switch) (take l.i l.changes) ≡ true
