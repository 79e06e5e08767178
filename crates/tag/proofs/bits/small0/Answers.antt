-- `small0` computes σ₀ as the standard writes it.
use Rattle.std.proofs.Common.{refl}
use Rattle.tag.specs.Sha256.{σ₀}
use Rattle.tag.proofs.bits.small0.Goals as goal

pub returns : goal.returns
unfolding σ₀
returns c = rw (c.rotate_right.ensures, c.rotate_right-2.ensures) refl
