-- A flight where the settled changes are known.
use mathlib.Core.Path.{ap, ◌∙◌}
use Rattle.checker.specs.Checked.{outcome_of}
use Rattle.checker.proofs.Flying.{fly-known}
use Rattle.checker.proofs.flights.fly.Goals as goal

pub returns : goal.returns
returns c = let a = c.args in
    c.flight.ensures
    ∙ ap outcome_of (fly-known a.changes.now a.links.now a.q a.address c.known_first-known.result a.budget
    c.known_first-known.ensures)
