-- `keys_fit` meets its contract. The loop's invariant: the keys gathered are the different ones of the changes from i on.
-- Assumes nothing.
use lib.ListN.{take, drop}
use Rattle.playbook.specs.Books.{keys_on}
use Rattle.playbook.specs.Gathering.{Gathered}
use Rattle.playbook.proofs.keys.keys_fit.Given as goal

abbrev pub invariant-loop-i : goal.invariant-loop-i
invariant-loop-i l = Gathered (take l.keys.count l.keys.held) (keys_on l.switch (drop l.i l.changes))
