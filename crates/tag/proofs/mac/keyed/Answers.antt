-- The hash value after the block, and then the message's.
use Rattle.std.proofs.Common.{◌+◌, length, refl, ◌∙◌, rules}
use Rattle.tag.proofs.Padded.{keyed_law}
use Rattle.tag.proofs.mac.keyed.Goals as goal

pub returns : goal.returns
returns c = c.bytes_of.ensures ∙ keyed_law c.args.b c.args.m.now (64 + length c.args.m.now) (search rules) refl
    c.initial.ensures c.compress-h.ensures
    c.finish.ensures
