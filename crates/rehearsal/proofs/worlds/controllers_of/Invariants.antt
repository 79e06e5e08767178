-- The loop's invariant: the controllers before `id` are set up, each with its own id.
use Prim.Native.Nat.{ℕ}
use Rattle.controller.specs.States.{setup_of}
use Rattle.rehearsal.proofs.Filling.{PlacedBefore}
use Rattle.rehearsal.proofs.worlds.controllers_of.Given as goal

abbrev pub invariant-loop-id : goal.invariant-loop-id
invariant-loop-id l = PlacedBefore (λ (id : ℕ). (setup_of id l.n l.p).state) l.id l.initial.place-items l.place-items
