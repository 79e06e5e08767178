-- The hash value of the whole message, as bytes.
use Rattle.std.proofs.Common.{◌∙◌}
use Rattle.tag.proofs.Padded.{sha_law}
use Rattle.tag.proofs.digest.sha256.Goals as goal

pub returns : goal.returns
returns c = c.bytes_of.ensures ∙ sha_law _ c.initial.ensures c.finish.ensures
