-- Each hop goes by what the switch finds and what its port does.
use mathlib.Core.Path.{sym, ◌∙◌}
use native.Mathlib.Omega.{arith}
use Rattle.isolation.specs.Traces.{foreign, leaves, goes_to}
use Rattle.checker.specs.Layout.{links_in}
use Rattle.checker.proofs.Going.{way_done, way-lost, way_on}
use Rattle.checker.proofs.ways.follow.Invariants.{finding}
use Rattle.checker.proofs.ways.follow.Goals as goal

pub returns-in_default : goal.returns-in_default
returns-in_default c = let a = c.args in
    sym (c.loop-hop.invariant
    ∙ way-lost a.line.client (links_in a.links.now) (finding a.changes.now a.marks.now a.address) c.loop-hop._hop
    c.loop-hop.switch (omega arith) c.in_default.ensures)

pub returns-in-Foreign : goal.returns-in-Foreign
returns-in-Foreign c = let a = c.args in
    sym (c.loop-hop.invariant
    ∙ way_on a.line.client (links_in a.links.now) (finding a.changes.now a.marks.now a.address) c.loop-hop._hop
    c.loop-hop.switch (omega arith) c.in-Some.port c.in-Some.ensures foreign c.in-Foreign.ensures)

pub returns-in-Leaves : goal.returns-in-Leaves
returns-in-Leaves c = let a = c.args in
    sym (c.loop-hop.invariant
    ∙ way_on a.line.client (links_in a.links.now) (finding a.changes.now a.marks.now a.address) c.loop-hop._hop
    c.loop-hop.switch (omega arith) c.in-Some.port c.in-Some.ensures leaves c.in-Leaves.ensures)

pub loop-hop-preserved : goal.loop-hop-preserved
loop-hop-preserved c = let a = c.args in
    (c.loop-hop.invariant
    ∙ way_on a.line.client (links_in a.links.now) (finding a.changes.now a.marks.now a.address) c.loop-hop._hop
    c.loop-hop.switch (omega arith) c.in-Some.port c.in-Some.ensures (goes_to c.in-GoesTo.next) c.in-GoesTo.ensures)

pub returns : goal.returns
returns c = let a = c.args in
    sym (c.loop-hop.invariant
    ∙ way_done a.line.client (links_in a.links.now) (finding a.changes.now a.marks.now a.address) c.loop-hop._hop
    c.loop-hop.switch (omega arith))
