-- `match_end` meets its contract: at length 0 a match has no destination. Assumes nothing.
use native.Mathlib.Omega.{arith}
use Rattle.openflow.proofs.Lengths.{match_none, match_some}
use Rattle.openflow.proofs.writing.match_end.Goals as goal

pub returns-then-rule-eq0 : goal.returns-then-rule-eq0
returns-then-rule-eq0 c = let r = c.args.rule in
    omega (arith, match_none r.prefix r.length c.if-rule-eq0.true)

pub returns-else-rule-eq0 : goal.returns-else-rule-eq0
returns-else-rule-eq0 c = let r = c.args.rule in
    omega (arith, match_some r.prefix r.length c.if-rule-eq0.false)
