-- `longest` meets its contract. The loop's invariant: the entry held gives what the entries so far give. Assumes nothing.
use Rattle.std.proofs.Common.{◌≡◌, Bor, map, reverse}
use Rattle.flow.specs.Lookups.{best_of}
use Rattle.flow.specs.declared.Entry.{Entry}
use Rattle.flow.proofs.Bests.{held}
use Rattle.flow.proofs.lookups.longest.Given as goal

abbrev pub invariant-loop-entry : goal.invariant-loop-entry
invariant-loop-entry l = best_of l.address (reverse (map (λ (x : Bor Entry). x.now) l.yielded)) ≡ held l.best
