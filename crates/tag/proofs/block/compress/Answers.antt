-- Words, rounds and sums, one after the other.
use Rattle.tag.proofs.Rounds.{compress_law}
use Rattle.tag.proofs.block.compress.Goals as goal

pub returns : goal.returns
returns c = let words = c.words in
    compress_law _ _ words.result words.ensures c.rounds.ensures c.sums.ensures
