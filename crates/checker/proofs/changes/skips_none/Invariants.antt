-- The test of all changes is that of those from j on.
use mathlib.Core.Path.{◌≡◌}
use Rattle.lists.specs.Arrays.{every}
use Rattle.checker.specs.Layout.{first_changes}
use Rattle.checker.proofs.Waiting.{is_clear, clear_from}
use Rattle.checker.proofs.changes.skips_none.Given as goal

abbrev pub invariant-loop-j : goal.invariant-loop-j
invariant-loop-j l =
    every (is_clear l.changes l.marks l.k) (first_changes l.changes l.k) ≡ clear_from l.changes l.marks l.k l.j
