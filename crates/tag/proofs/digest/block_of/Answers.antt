-- The bytes stand in front, and the zeros past them stay.
use Rattle.lists.proofs.Padding.{pad_written}
use Rattle.tag.proofs.digest.block_of.Goals as goal

pub returns : goal.returns
returns c = rw c.copy_from_slice.ensures.after (pad_written 64 0 c.args.m.now c.requires)
