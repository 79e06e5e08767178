-- The link at hand is looked at in its turn.
use mathlib.Core.Path.{sym, ◌∙◌}
use native.Mathlib.Omega.{arith}
use Rattle.checker.proofs.Going.{over_done, over_here, over_other, over_apart}
use Rattle.checker.proofs.ways.over_port.Goals.{else-link-switch-via-then-link-switch+else-link-port, else-link-switch-via-else-link-switch}
use Rattle.checker.proofs.ways.over_port.Goals as goal

pub returns-then-link-port : goal.returns-then-link-port
returns-then-link-port c = let a = c.args in
    c.behind.ensures
    ∙ sym (c.loop-link.invariant ∙ over_here a.client a.links.now a.switch a.port c.loop-link.link-index _ (omega arith)
    c.if-link-switch.true c.if-link-port.true)

pub loop-link-preserved : goal.loop-link-preserved
loop-link-preserved c = let a = c.args in
    c.loop-link.invariant
    ∙ elim c.else-link-switch.branch [
      | else-link-switch-via-then-link-switch+else-link-port w ↦ over_apart a.client a.links.now a.switch a.port
          c.loop-link.link-index _ (omega arith) w.if-link-switch.true w.if-link-port.false
      | else-link-switch-via-else-link-switch w ↦ over_other a.client a.links.now a.switch a.port c.loop-link.link-index
          _ (omega arith) w.if-link-switch.false
    ]

pub returns : goal.returns
returns c = let a = c.args in
    sym (c.loop-link.invariant
    ∙ over_done a.client a.links.now a.switch a.port c.loop-link.link-index (omega arith))
