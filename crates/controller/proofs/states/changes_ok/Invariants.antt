-- `changes_ok` meets its contract. The loop's invariant: the walk over all changes passes where it does over those that
-- are left, after the number before. Assumes nothing.
use mathlib.Core.Path.{◌≡◌}
use lib.ListN.{drop}
use Rattle.controller.proofs.Walked.{walked}
use Rattle.controller.proofs.states.changes_ok.Given as goal

abbrev pub invariant-loop-u : goal.invariant-loop-u
invariant-loop-u l =
    walked l.acknowledged l.last 0 l.changes ≡ walked l.acknowledged l.last l.before (drop l.u-index l.changes)
