-- Eight rounds, one by one: those below i are made.
use Rattle.std.proofs.Common.{◌≡◌, ◌+◌, refl, arith}
use Rattle.tag.specs.Sha256.{K}
use Rattle.tag.proofs.Rounds.{round_more}
use Rattle.tag.proofs.block.eight.Goals as goal

pub loop-i-init : goal.loop-i-init
loop-i-init c = λ i h. h

pub loop-i-preserved : goal.loop-i-preserved
unfolding K
loop-i-preserved c = let loop = c.loop-i in
    round_more c.args.w.now _ c.args.t loop.i c.args.s refl loop.invariant c.round-s.ensures

pub returns : goal.returns
returns c = let loop = c.loop-i in
    let last : loop.i ≡ c.args.t + 8 = omega arith in
    rw last at loop.invariant
