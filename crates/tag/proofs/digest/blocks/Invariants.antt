-- The blocks from the front: those that came are hashed, and the rest is still to come.
use Rattle.std.proofs.Common.{◌≡◌, ◌*◌, length, drop}
use Rattle.std.specs.Slice.Iter.{chunks_exact_rest, chunks_exact_size}
use Rattle.tag.specs.Sha256 as sha
use Rattle.tag.proofs.digest.blocks.Given as goal

abbrev pub invariant-loop-block : goal.invariant-loop-block
invariant-loop-block l =
    (chunks_exact_size l.block-iterator ≡ 64) × (chunks_exact_rest l.block-iterator ≡ drop (64 * length l.yielded) l.m)
    × (l.h ≡ sha.blocks l.initial.h l.m (length l.yielded))
