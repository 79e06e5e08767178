-- The last block, or the last two.
use Rattle.std.proofs.Common.{refl}
use Rattle.tag.proofs.Padded.{short_finish, long_finish}
use Rattle.tag.proofs.digest.finish.Goals as goal

pub returns-then-m-from-lt56 : goal.returns-then-m-from-lt56
returns-then-m-from-lt56 c = short_finish c.args.s c.args.m.now c.args.n _ c.requires refl
    c.if-m-from-lt56.true c.blocks-h.ensures
    c.ended-b.ensures c.counted-l.ensures c.compress.ensures

pub returns-else-m-from-lt56 : goal.returns-else-m-from-lt56
returns-else-m-from-lt56 c = long_finish c.args.s c.args.m.now c.args.n _ c.requires refl
    c.if-m-from-lt56.false
    c.blocks-h.ensures
    c.ended-b.ensures
    c.compress-g.ensures c.counted-l-else-m-from-lt56.ensures c.compress-else-m-from-lt56.ensures
