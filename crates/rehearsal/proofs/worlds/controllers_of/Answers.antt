-- `controllers_of` meets its contract: all are set up, each with its own id.
use mathlib.Core.Path.{refl, ap}
use Prim.Native.Nat.{ℕ}
use native.Mathlib.Omega.{arith}
use Rattle.controller.specs.States.{setup_of}
use Rattle.controller.specs.declared.Reply.{Reply}
use Rattle.rehearsal.proofs.Filling.{next-placed, last_placed}
use Rattle.rehearsal.proofs.worlds.controllers_of.Goals as goal

pub loop-id-init : goal.loop-id-init
loop-id-init c = (omega arith, refl, refl)

pub loop-id-preserved : goal.loop-id-preserved
loop-id-preserved c = let a = c.args in
    let at = c.loop-id in
    next-placed (λ (id : ℕ). (setup_of id a.n a.p).state) at.id _ at.invariant (omega arith) _
    (ap (λ (r : Reply). r.state) c.setup-in-loop-id.ensures)

pub returns : goal.returns
returns c = let a = c.args in
    let at = c.loop-id in
    last_placed (λ (id : ℕ). (setup_of id a.n a.p).state) at.id _ at.invariant (omega arith)
