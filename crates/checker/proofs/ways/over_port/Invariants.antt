-- What all links say is what those from the one at hand on say.
use mathlib.Core.Path.{◌≡◌}
use Rattle.isolation.specs.Traces as traces
use Rattle.checker.specs.Layout.{links_in}
use Rattle.checker.proofs.Going.{over_from}
use Rattle.checker.proofs.ways.over_port.Given as goal

abbrev pub invariant-loop-link : goal.invariant-loop-link
invariant-loop-link l =
    traces.over l.client (links_in l.links) l.switch l.port ≡ over_from l.client l.links l.switch l.port l.link-index
