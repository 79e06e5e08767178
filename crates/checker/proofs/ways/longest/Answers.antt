-- The port of length l is looked at in its turn.
use mathlib.Core.Path.{sym, ◌∙◌}
use native.Mathlib.Omega.{arith}
use Rattle.checker.proofs.Finding.{found_port, longest_down, longest_here}
use Rattle.checker.proofs.ways.longest.Goals as goal

pub returns-then-ports-l-ne0 : goal.returns-then-ports-l-ne0
returns-then-ports-l-ne0 c = let ports = c.args.ports.now in
    sym (c.loop-l.invariant ∙ longest_here ports c.loop-l.l (omega arith) c.if-ports-l-ne0.true
    ∙ found_port _ c.if-ports-l-ne0.true)

pub loop-l-preserved : goal.loop-l-preserved
loop-l-preserved c = let ports = c.args.ports.now in
    c.loop-l.invariant ∙ longest_down ports c.loop-l.l (omega arith) c.if-ports-l-ne0.false
