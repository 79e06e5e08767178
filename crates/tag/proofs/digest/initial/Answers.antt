-- The initial hash value, word by word.
use Rattle.std.proofs.Common.{refl}
use Rattle.tag.specs.Sha256.{H₀}
use Rattle.tag.proofs.digest.initial.Goals as goal

pub returns : goal.returns
unfolding H₀
returns c = refl
