-- `mask_of` meets its contract: the block of a prefix with a length has at most 2 ^ 31 addresses. Assumes nothing.
use Prim.Native.Nat.{ℕ, ◌-◌, ◌^◌, ◌≤◌}
use native.Mathlib.Omega.{arith}
use lib.Pow.{pow_mono, pow_pos}
use Rattle.flow.specs.Rules.{block_size}
use Rattle.openflow.proofs.matches.mask_of.Goals as goal

small : (size : ℕ) → 1 ≤ size → (1 ≤ block_size size) × (block_size size ≤ 2 ^ 31)
small size h = (pow_pos (32 - size), pow_mono {j = 31} (omega arith))

pub overflow_sub-result : goal.overflow_sub-result
overflow_sub-result c = omega (arith, c.size_of.ensures, small c.args.size c.requires.0)

pub overflow_cast-result : goal.overflow_cast-result
overflow_cast-result c = omega (arith, c.size_of.ensures, small c.args.size c.requires.0)

pub returns : goal.returns
returns c = rw c.size_of.ensures
