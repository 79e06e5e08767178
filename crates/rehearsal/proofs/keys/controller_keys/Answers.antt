-- `controller_keys` meets its contract. The loop's invariant: the keys of the switches before s stand in their places,
-- and zeros follow. Assumes nothing.
use mathlib.Core.Path.{refl}
use native.Mathlib.Omega.{arith}
use Rattle.message.specs.Keys.{key_of}
use Rattle.rehearsal.proofs.Filling.{first_key, next-key, last_key}
use Rattle.rehearsal.proofs.keys.controller_keys.Goals as goal

pub loop-s-init : goal.loop-s-init
loop-s-init c = first_key (key_of c.args.controller)

pub loop-s-preserved : goal.loop-s-preserved
loop-s-preserved c = let controller = c.args.controller in
    let at = c.loop-s in
    next-key (key_of controller) (λ i. refl) at.s controller at.s at.invariant (omega arith) refl

pub returns : goal.returns
returns c = let controller = c.args.controller in
    let at = c.loop-s in
    last_key (key_of controller) at.s at.invariant (omega arith)
