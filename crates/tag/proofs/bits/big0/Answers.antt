-- `big0` computes Σ₀ as the standard writes it.
use Rattle.std.proofs.Common.{refl}
use Rattle.tag.specs.Sha256.{Σ₀}
use Rattle.tag.proofs.bits.big0.Goals as goal

pub returns : goal.returns
unfolding Σ₀
returns c = rw (c.rotate_right.ensures, c.rotate_right-2.ensures, c.rotate_right-3.ensures) refl
