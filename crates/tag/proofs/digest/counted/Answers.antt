-- The count stands in the last eight bytes.
use Rattle.std.proofs.Common.{rules}
use Rattle.tag.proofs.Counts.{count_put}
use Rattle.tag.proofs.digest.counted.Goals as goal

pub returns : goal.returns
returns c = rw (c.copy_from_slice.ensures.after, c.to_be_bytes.ensures) (count_put c.args.b c.args.n (search rules))
