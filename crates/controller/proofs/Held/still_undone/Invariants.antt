-- `still_undone` meets its contract. The loop's invariant: those of the changes before that are not done are held.
-- Assumes nothing.
use mathlib.Core.Path.{◌≡◌}
use lib.ListN.{take}
use Rattle.controller.specs.Changes.{held_of, still_undone}
use Rattle.controller.proofs.Held.still_undone.Given as goal

abbrev pub invariant-loop-u : goal.invariant-loop-u
invariant-loop-u l = l.left ≡ held_of (still_undone l.acknowledged (take l.u-index l.changes))
