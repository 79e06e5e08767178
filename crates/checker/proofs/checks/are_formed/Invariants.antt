-- The test of all lines is that of those from the one at hand on.
use mathlib.Core.Path.{◌≡◌}
use Rattle.lists.specs.Arrays.{every}
use Rattle.isolation.specs.Networks.{traffic_ok}
use Rattle.checker.specs.Layout.{traffic_in}
use Rattle.checker.proofs.Replying.{lines_from}
use Rattle.checker.proofs.checks.are_formed.Given as goal

abbrev pub invariant-loop-line : goal.invariant-loop-line
invariant-loop-line l =
    every traffic_ok (traffic_in l.traffic) ≡ every traffic_ok (lines_from l.traffic l.line-index)
