-- After each turn bytes and sum are those of as many turns.
use Rattle.std.proofs.Common.{◌≡◌, arith}
use Rattle.timed.specs.Bytes.{read_once}
use Rattle.timed.proofs.Turning.{none, read_more}
use Rattle.timed.proofs.playbooks.timed_read.Goals as goal

pub loop-i-init : goal.loop-i-init
loop-i-init c = none (read_once _) _

pub loop-i-preserved : goal.loop-i-preserved
loop-i-preserved c = let loop = c.loop-i in
    read_more _ _ _ _ _ _ _ loop.invariant c.stir.ensures c.read_one-sum.ensures

pub returns : goal.returns
returns c = let e : c.args.times ≡ c.loop-i.i = omega arith in
    rw e c.loop-i.invariant
