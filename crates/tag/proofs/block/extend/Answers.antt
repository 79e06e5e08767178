-- Eight words more, one by one: of every schedule that stood to word t, the first i stand.
use Rattle.std.proofs.Common.{◌≡◌, ◌+◌, refl, ◌∙◌, arith, rules}
use lib.Seq.{take-set-le}
use Rattle.tag.proofs.Rounds.{schedule-step}
use Rattle.tag.proofs.block.extend.Goals as goal

pub loop-i-init : goal.loop-i-init
loop-i-init c = (search rules, refl, λ m e. e)

pub loop-i-preserved : goal.loop-i-preserved
loop-i-preserved c = let loop = c.loop-i in (
  search rules,
  take-set-le _ loop.w _ _ loop.auto.i ∙ loop.invariant.1,
  λ m e. schedule-step m _ _ _ (omega arith) (omega arith) (loop.invariant.2 m e) c.next.ensures,
)

pub returns : goal.returns
returns c = let loop = c.loop-i in
    let last : loop.i ≡ c.args.t + 8 = omega arith in
    (loop.invariant.0, (loop.invariant.1, λ m e. rw last at (loop.invariant.2 m e)))
