-- One byte more in a padded block.
use Rattle.lists.proofs.Padding.{pad_snoc}
use Rattle.tag.proofs.digest.ended.Goals as goal

pub returns : goal.returns
returns c = rw c.block_of-b.ensures (pad_snoc 64 0 c.args.m.now 128)
