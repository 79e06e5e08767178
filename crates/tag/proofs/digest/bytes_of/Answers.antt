-- The words from the front: the bytes of the first i stand.
use Rattle.std.proofs.Common.{arith, rules, ◌∙◌}
use Rattle.std.proofs.lemmas.Slice.{overwrites}
use Rattle.tag.proofs.Counts.{word_more}
use Rattle.tag.proofs.digest.bytes_of.Goals as goal

pub loop-i-preserved : goal.loop-i-preserved
loop-i-preserved c = let loop = c.loop-i in (
  search (rules, overwrites),
  word_more _ loop.bytes _ loop.i (search rules) loop.invariant.0 (omega arith) loop.invariant.1
      (c.copy_from_slice.ensures.after ∙ c.to_be_bytes.ensures),
)
