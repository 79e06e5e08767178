-- What is asked of all lines is what is asked of those from the one at hand on, with what is left of the budget.
use mathlib.Core.Path.{◌≡◌}
use Rattle.isolation.specs.Check.{in_turn}
use Rattle.checker.specs.Layout.{changes_in, links_in, network_in}
use Rattle.checker.specs.Checked.{aimed}
use Rattle.checker.proofs.Judging.{asked_of}
use Rattle.checker.proofs.Replying.{lines_from}
use Rattle.checker.proofs.checks.each_line.Given as goal

abbrev pub invariant-loop-line : goal.invariant-loop-line
invariant-loop-line l =
    aimed l.aim (changes_in l.changes) l.settled (network_in l.links l.traffic) l.budget
    ≡ in_turn (asked_of l.aim (changes_in l.changes) l.settled (links_in l.links)) (lines_from l.traffic l.line-index) l.left
