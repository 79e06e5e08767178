-- The address is among the bounds from the first place on exactly if it is among those from place i on.
use mathlib.Core.Path.{◌≡◌}
use lib.ListN.{drop}
use Rattle.lists.specs.Kinds.{is_among}
use Rattle.checker.specs.Layout.{bounds_for}
use Rattle.checker.proofs.classes.comes_again.Given as goal

abbrev pub invariant-loop-i : goal.invariant-loop-i
invariant-loop-i l =
    is_among l.address (drop l.from (bounds_for l.changes l.q)) ≡ is_among l.address (drop l.i (bounds_for l.changes l.q))
