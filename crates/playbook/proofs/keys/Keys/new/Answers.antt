-- `Keys::new` meets its contract: of no keys all is so. Assumes nothing.
use mathlib.Core.Path.{refl}
use Prim.Native.Nat.{ℕ}
use lib.ListN.{get_or-replicate}
use native.Mathlib.Omega.{arith}
use Rattle.lists.specs.Kinds.{among}
use Rattle.playbook.proofs.keys.Keys.new.Goals as goal

pub invariant_of-result-clause-within : goal.invariant_of-result-clause-within
invariant_of-result-clause-within c = λ m h. omega (arith, get_or-replicate {A = ℕ} 251 m 0 0 h)

pub invariant_of-result-clause-hinted : goal.invariant_of-result-clause-hinted
unfolding among
invariant_of-result-clause-hinted c = λ k h. refl
