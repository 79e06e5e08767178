-- The words of a block, from the front: the first t stand.
use Rattle.std.proofs.Common.{◌≡◌, refl, arith, rules}
use Rattle.tag.specs.Sha256 as sha
use Rattle.tag.proofs.Rounds.{words_step}
use Rattle.tag.proofs.block.words.Goals as goal

pub loop-t-init : goal.loop-t-init
unfolding sha.words
loop-t-init c = (search rules, refl)

pub loop-t-preserved : goal.loop-t-preserved
loop-t-preserved c = (search rules, words_step _ _ _ _ (omega arith) c.loop-t.invariant.1 c.word.ensures)

pub returns : goal.returns
returns c = let e : c.loop-t.t ≡ 16 = omega arith in
    rw e at c.loop-t.invariant.1
