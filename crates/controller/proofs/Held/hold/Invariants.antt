-- `hold` meets its contract. The loop's invariant: the changes before have numbers, and those that are not done are
-- held after the undone ones. Assumes nothing.
use mathlib.Core.Path.{◌≡◌}
use mathlib.Core.List.{◌++◌}
use Prim.Native.Nat.{◌+◌}
use lib.ListN.{take}
use Rattle.controller.specs.Changes.{undone_in, held_of, still_undone, numbered_from}
use Rattle.controller.proofs.Held.hold.Given as goal

abbrev pub invariant-loop-change : goal.invariant-loop-change
invariant-loop-change l = record {
  numbers : l.number ≡ l.last + l.change-index;
  held :
      l.self
      ≡ held_of (undone_in l.initial.self
      ++ still_undone l.acknowledged (numbered_from (l.last + 1) (l.last + 1) (take l.change-index l.plan)));
}
