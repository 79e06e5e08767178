-- No change is made before the first.
use mathlib.Core.Path.{ap, ◌∙◌}
use mathlib.Core.Bool.{false}
use lib.ListN.{length, replicate}
use Rattle.checker.specs.Layout.{changes_in, network_for, traffic_of}
use Rattle.checker.specs.Checked.{outcome_of}
use Rattle.checker.proofs.Judging.{from_first, explored_at}
use Rattle.checker.proofs.classes.ask.Goals as goal

pub returns-in-Resting : goal.returns-in-Resting
returns-in-Resting c = let a = c.args in
    c.explore.ensures
    ∙ ap outcome_of (from_first a.changes.now (length a.changes.now) _ _ _ a.q.settled (replicate 256 false) a.budget
    ∙ explored_at a.q.aim c.in-Resting.is (changes_in a.changes.now) a.q.settled (network_for a.links.now) (traffic_of a.q)
    a.address a.budget)
