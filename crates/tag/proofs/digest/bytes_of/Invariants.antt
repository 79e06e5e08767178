-- The words from the front: the bytes of the first i stand.
use Rattle.std.proofs.Common.{◌≡◌, ◌*◌, length, take}
use Rattle.std.specs.List.{flat_map}
use Rattle.tag.specs.Sha256.{word_bytes}
use Rattle.tag.proofs.digest.bytes_of.Given as goal

abbrev pub invariant-loop-i : goal.invariant-loop-i
invariant-loop-i l = (length l.bytes ≡ 32) × (take (4 * l.i) l.bytes ≡ flat_map word_bytes (take l.i l.word-items))
