-- After each turn bytes and sum are those of as many turns.
use Rattle.std.proofs.Common.{◌≡◌, arith}
use Rattle.tag.specs.Sha256.{sha256}
use Rattle.timed.specs.Bytes.{digested}
use Rattle.timed.proofs.Turning.{none, digest_more}
use Rattle.timed.proofs.tags.timed_sha256.Goals as goal

pub loop-i-init : goal.loop-i-init
loop-i-init c = none (digested sha256) _

pub loop-i-preserved : goal.loop-i-preserved
loop-i-preserved c = let loop = c.loop-i in
    digest_more _ _ _ _ _ _ sha256 _ _ loop.invariant c.sha256-d.ensures c.stir.ensures
    c.front.ensures c.mix-sum.ensures.0

pub returns : goal.returns
returns c = let e : c.args.times ≡ c.loop-i.i = omega arith in
    rw e c.loop-i.invariant
