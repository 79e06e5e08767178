-- `controller_keys` meets its contract. The loop's invariant: the keys of the switches before s stand in their places,
-- and zeros follow. Assumes nothing.
use Rattle.message.specs.Keys.{key_of}
use Rattle.rehearsal.proofs.Filling.{KeysBefore}
use Rattle.rehearsal.proofs.keys.controller_keys.Given as goal

abbrev pub invariant-loop-s : goal.invariant-loop-s
invariant-loop-s l = KeysBefore (key_of l.controller) l.s l.keys
