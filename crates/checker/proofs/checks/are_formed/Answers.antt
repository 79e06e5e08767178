-- The line at hand is tested in its turn.
use mathlib.Core.Path.{sym, ap, ◌∙◌}
use mathlib.Core.Bool.{Bool, ◌&&◌}
use Prim.Native.Nat.{◌+◌}
use native.Mathlib.Omega.{arith}
use lib.ListN.{drop}
use Rattle.lists.specs.Arrays.{every}
use Rattle.isolation.specs.Networks.{traffic_ok}
use Rattle.checker.specs.Layout.{traffic_in}
use Rattle.checker.proofs.Replying.{lines_tested, lines_passed}
use Rattle.checker.proofs.checks.are_formed.Goals as goal

pub returns-then-not-is_formed : goal.returns-then-not-is_formed
returns-then-not-is_formed c = let lines = c.args.traffic.now in
    let i = c.loop-line.line-index in
    sym (c.loop-line.invariant ∙ lines_tested lines i _ (omega arith)
    ∙ ap (λ (b : Bool). b && every traffic_ok (traffic_in (drop (i + 1) lines)))
    (sym c.is_formed.ensures ∙ c.if-not-is_formed.true))

pub loop-line-preserved : goal.loop-line-preserved
loop-line-preserved c = let lines = c.args.traffic.now in
    let i = c.loop-line.line-index in
    c.loop-line.invariant ∙ lines_tested lines i _ (omega arith)
    ∙ ap (λ (b : Bool). b && every traffic_ok (traffic_in (drop (i + 1) lines)))
    (sym c.is_formed.ensures ∙ c.if-not-is_formed.false)

pub returns : goal.returns
returns c = let lines = c.args.traffic.now in
    sym (c.loop-line.invariant ∙ lines_passed lines c.loop-line.line-index (omega arith))
