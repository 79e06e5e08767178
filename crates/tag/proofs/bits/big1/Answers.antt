-- `big1` computes Σ₁ as the standard writes it.
use Rattle.std.proofs.Common.{refl}
use Rattle.tag.specs.Sha256.{Σ₁}
use Rattle.tag.proofs.bits.big1.Goals as goal

pub returns : goal.returns
unfolding Σ₁
returns c = rw (c.rotate_right.ensures, c.rotate_right-2.ensures, c.rotate_right-3.ensures) refl
