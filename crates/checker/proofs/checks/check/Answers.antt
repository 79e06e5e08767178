-- What is no network, and what is one.
use mathlib.Core.Path.{sym, ◌∙◌}
use Rattle.checker.proofs.Replying.{checked_none, checked_some}
use Rattle.checker.proofs.checks.check.Goals as goal

pub returns-then-not-is_network : goal.returns-then-not-is_network
returns-then-not-is_network c = let a = c.args in
    checked_none a.aim a.settled a.budget a.changes.now a.links.now a.traffic.now
    (sym c.is_network.ensures ∙ c.if-not-is_network.true)

pub returns : goal.returns
returns c = let a = c.args in
    c.each_line.ensures
    ∙ checked_some a.aim a.settled a.budget a.changes.now a.links.now a.traffic.now
    (sym c.is_network.ensures ∙ c.if-not-is_network.false)
