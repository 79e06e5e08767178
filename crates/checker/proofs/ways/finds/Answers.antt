-- The longest of the ports is what the switch finds.
use Rattle.checker.proofs.Finding.{finds_is}
use Rattle.checker.proofs.ways.finds.Goals as goal

pub returns : goal.returns
returns c = let a = c.args in
    finds_is a.changes.now a.marks.now a.switch a.address a.upto c.ports_of.result
    c.longest.result c.ports_of.ensures c.longest.ensures
