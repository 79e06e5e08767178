-- `giver_of` meets its contract: the key of none of the first i pairs gives the tag.
use Rattle.std.proofs.Common.{sym, ◌∙◌, arith}
use Rattle.notation.proofs.Givers.{giver_here, giver_next, giver_end}
use Rattle.notation.proofs.pairs.giver_of.Goals as goal

pub returns-then-gives : goal.returns-then-gives
returns-then-gives c = let share = c.args.share.now in
    let at = c.loop-i in
    giver_here share at.i (omega arith) c.front-body.ensures c.behind-given.ensures
    c.gives.ensures c.if-gives.true ∙ sym at.invariant

pub loop-i-preserved : goal.loop-i-preserved
loop-i-preserved c = let share = c.args.share.now in
    let at = c.loop-i in
    at.invariant ∙ giver_next share at.i (omega arith) c.front-body.ensures
    c.behind-given.ensures c.gives.ensures c.if-gives.false

pub returns : goal.returns
returns c = let share = c.args.share.now in
    let at = c.loop-i in
    sym (at.invariant ∙ giver_end share at.i (omega arith))
