-- The words of a block, from the front: the first t stand.
use Rattle.std.proofs.Common.{◌≡◌, length, take}
use Rattle.tag.specs.Sha256 as sha
use Rattle.tag.proofs.block.words.Given as goal

abbrev pub invariant-loop-t : goal.invariant-loop-t
invariant-loop-t l = (length l.w ≡ 64) × (take l.t l.w ≡ sha.words l.m l.t)
