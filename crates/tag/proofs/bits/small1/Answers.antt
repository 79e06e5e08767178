-- `small1` computes σ₁ as the standard writes it.
use Rattle.std.proofs.Common.{refl}
use Rattle.tag.specs.Sha256.{σ₁}
use Rattle.tag.proofs.bits.small1.Goals as goal

pub returns : goal.returns
unfolding σ₁
returns c = rw (c.rotate_right.ensures, c.rotate_right-2.ensures) refl
