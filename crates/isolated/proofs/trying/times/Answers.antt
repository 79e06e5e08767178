-- A product of two bounded numbers is bounded. Assumes nothing.
use Prim.Native.Nat.{◌≤◌, ◌*◌}
use native.Mathlib.Nat.{mul-le-mul_left}
use native.Mathlib.Omega.{arith}
use Rattle.isolated.proofs.trying.times.Goals as goal

pub overflow_mul-result : goal.overflow_mul-result
overflow_mul-result c = let bound : c.args.lists * c.args.plans ≤ c.args.lists * 64 = mul-le-mul_left c.args.lists c.requires.1 in
    omega arith

pub returns : goal.returns
returns c = mul-le-mul_left c.args.lists c.requires.1
