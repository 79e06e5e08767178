-- `switches_of` meets its contract: all are set up, each with its own id.
use mathlib.Core.Path.{refl, ap}
use Prim.Native.Nat.{ℕ}
use native.Mathlib.Omega.{arith}
use Rattle.switch.specs.States.{setup_of}
use Rattle.switch.specs.declared.Reply.{Reply}
use Rattle.rehearsal.proofs.Filling.{next-placed, last_placed}
use Rattle.rehearsal.proofs.worlds.switches_of.Goals as goal

pub loop-id-init : goal.loop-id-init
loop-id-init c = (omega arith, refl, refl)

pub loop-id-preserved : goal.loop-id-preserved
loop-id-preserved c = let n = c.args.n in
    let at = c.loop-id in
    next-placed (λ (id : ℕ). (setup_of id n).state) at.id _ at.invariant (omega arith) _
    (ap (λ (r : Reply). r.state) c.setup-in-loop-id.ensures)

pub returns : goal.returns
returns c = let n = c.args.n in
    let at = c.loop-id in
    last_placed (λ (id : ℕ). (setup_of id n).state) at.id _ at.invariant (omega arith)
