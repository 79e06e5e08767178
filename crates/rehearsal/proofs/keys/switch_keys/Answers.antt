-- `switch_keys` meets its contract. The loop's invariant: the keys of the controllers before c stand in their places,
-- and zeros follow. Assumes nothing.
use mathlib.Core.Path.{refl}
use Prim.Native.Nat.{ℕ}
use native.Mathlib.Omega.{arith}
use Rattle.message.specs.Keys.{key_of}
use Rattle.rehearsal.proofs.Filling.{first_key, next-key, last_key}
use Rattle.rehearsal.proofs.keys.switch_keys.Goals as goal

pub loop-c-init : goal.loop-c-init
loop-c-init c = first_key (λ (i : ℕ). key_of i c.args.switch)

pub loop-c-preserved : goal.loop-c-preserved
loop-c-preserved c = let switch = c.args.switch in
    let at = c.loop-c in
    next-key (λ (i : ℕ). key_of i switch) (λ i. refl) at.c at.c switch at.invariant (omega arith) refl

pub returns : goal.returns
returns c = let switch = c.args.switch in
    let at = c.loop-c in
    last_key (λ (i : ℕ). key_of i switch) at.c at.invariant (omega arith)
