-- `switch_keys` meets its contract. The loop's invariant: the keys of the controllers before c stand in their places,
-- and zeros follow. Assumes nothing.
use Prim.Native.Nat.{ℕ}
use Rattle.message.specs.Keys.{key_of}
use Rattle.rehearsal.proofs.Filling.{KeysBefore}
use Rattle.rehearsal.proofs.keys.switch_keys.Given as goal

abbrev pub invariant-loop-c : goal.invariant-loop-c
invariant-loop-c l = KeysBefore (λ (i : ℕ). key_of i l.switch) l.c l.keys
