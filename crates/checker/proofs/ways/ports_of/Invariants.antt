-- The ports are those of the first i changes.
use mathlib.Core.Path.{◌≡◌}
use Rattle.checker.specs.Marks.{ports_in}
use Rattle.checker.proofs.ways.ports_of.Given as goal

abbrev pub invariant-loop-i : goal.invariant-loop-i
invariant-loop-i l =
    l.ports ≡ ports_in l.changes l.marks l.switch l.address l.i
