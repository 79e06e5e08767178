-- 64 rounds, by eight: so many of them are made, and the schedule stands 16 words further, to its end.
use Rattle.std.proofs.Common.{◌≡◌, ℕ, ◌+◌, ◌*◌, take, refl, arith, rules}
use Rattle.tag.specs.Sha256.{schedule}
use Rattle.tag.proofs.Rounds.{Kept, eight_more, kept_extended, kept_whole, all_rounds}
use Rattle.tag.proofs.block.rounds.Goals.{then-t-lt48, else-t-lt48}
use Rattle.tag.proofs.block.rounds.Goals as goal

pub loop-turn-init : goal.loop-turn-init
unfolding schedule
loop-turn-init c = (search rules, (λ l. refl, λ l. absurd (omega arith)), λ i h. h)

pub loop-turn-preserved : goal.loop-turn-preserved
loop-turn-preserved c = let loop = c.loop-turn in
    let m = take 16 c.args.w in
    let t : ℕ = 8 * loop.turn in
    let more : 8 * (loop.turn + 1) ≡ t + 8 = omega arith in
    let kept : Kept m loop.w t c.if-t-lt48.w =
    elim c.if-t-lt48.branch [
      | then-t-lt48 way ↦ rw way.w-is (kept_extended m loop.w way.extend.new.w t way.if-t-lt48.true (omega arith)
          way.extend.ensures.0 way.extend.ensures.1 loop.invariant.1)
      | else-t-lt48 way ↦ kept_whole m loop.w c.if-t-lt48.w t way.if-t-lt48.false loop.invariant.0 way.w-is
          loop.invariant.1
    ] in
    rw more (kept.0, kept.1, eight_more loop.w c.if-t-lt48.w t kept.2 loop.invariant.2 c.eight-s.ensures)

pub returns : goal.returns
returns c = let loop = c.loop-turn in
    let last : 8 * loop.turn ≡ 64 = omega arith in
    all_rounds c.args.w loop.w loop.invariant.0 (rw last at loop.invariant.1) (rw last at loop.invariant.2)
