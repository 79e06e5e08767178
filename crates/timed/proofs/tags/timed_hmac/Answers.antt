-- After each turn bytes and sum are those of as many turns.
use Rattle.std.proofs.Common.{◌≡◌, arith}
use Rattle.tag.specs.Hmac.{hmac}
use Rattle.timed.specs.Bytes.{digested}
use Rattle.timed.proofs.Turning.{none, digest_more}
use Rattle.timed.proofs.tags.timed_hmac.Goals as goal

pub loop-i-init : goal.loop-i-init
loop-i-init c = none (digested (hmac _)) _

pub loop-i-preserved : goal.loop-i-preserved
loop-i-preserved c = let loop = c.loop-i in
    digest_more _ _ _ _ _ _ (hmac _) _ _ loop.invariant c.hmac-d.ensures c.stir.ensures
    c.front.ensures c.mix-sum.ensures.0

pub returns : goal.returns
returns c = let e : c.args.times ≡ c.loop-i.i = omega arith in
    rw e c.loop-i.invariant
