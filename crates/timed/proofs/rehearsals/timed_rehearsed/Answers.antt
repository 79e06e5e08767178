-- After each turn output and sum are those of as many turns.
use Rattle.std.proofs.Common.{◌≡◌, arith}
use Rattle.timed.specs.Bytes.{rehearsed_once}
use Rattle.timed.proofs.Turning.{none, rehearse_more}
use Rattle.timed.proofs.rehearsals.timed_rehearsed.Goals as goal

pub loop-i-init : goal.loop-i-init
loop-i-init c = none (rehearsed_once _) _

pub loop-i-preserved : goal.loop-i-preserved
loop-i-preserved c = let loop = c.loop-i in
    rehearse_more _ _ _ _ _ _ _ _ loop.invariant c.rehearse-r.ensures
    (simp (c.mix-sum.ensures.0, c.mix.ensures.0))

pub returns : goal.returns
returns c = let e : c.args.times ≡ c.loop-i.i = omega arith in
    rw e c.loop-i.invariant
