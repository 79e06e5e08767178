-- The blocks from the front: those that came are hashed, and the rest is still to come.
use Rattle.std.proofs.Common.{◌≡◌, length, refl, ◌∙◌, rules}
use Rattle.std.proofs.lemmas.List.{length_push}
use Rattle.tag.specs.Sha256 as sha
use Rattle.tag.proofs.Counts.{block_turn, blocks_step}
use Rattle.tag.proofs.digest.blocks.Goals as goal

pub loop-block-init : goal.loop-block-init
unfolding sha.blocks
loop-block-init c = (search rules, search rules, refl)

pub loop-block-preserved : goal.loop-block-preserved
loop-block-preserved c = let m = c.args.m.now in
    let loop = c.loop-block in
    let n = length loop.yielded in
    let came = c.in-Some.ensures.steps in
    let size : length c.in-Some.block.now ≡ 64 = came.1.1 ∙ loop.invariant.0 in
    let turn = block_turn m _ c.in-Some.block.now _ n loop.invariant.1 came.1.0 size in
    rw (length_push loop.yielded c.in-Some.block) (
      came.0 ∙ loop.invariant.0,
      turn.1,
      blocks_step c.args.s m c.in-Some.block.now n _ _ loop.invariant.2 turn.0 c.compress-h.ensures,
    )
