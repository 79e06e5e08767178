-- `changes_ok` meets its contract. The first loop's invariant: the changes so far pass, and they are counted for each
-- switch. The second's: no switch so far has too many different keys. Assumes nothing.
use mathlib.Core.Path.{◌≡◌}
use mathlib.Core.Bool.{true}
use lib.ListN.{take}
use Rattle.lists.specs.Arrays.{every}
use Rattle.playbook.specs.Storing.{change_ok, few_keys_below}
use Rattle.playbook.proofs.Gathered.{Tally}
use Rattle.playbook.proofs.storing.changes_ok.Given as goal

abbrev pub invariant-loop-change : goal.invariant-loop-change
invariant-loop-change l =
    let passed = take l.change-index l.changes in
    (every change_ok passed ≡ true) × Tally l.on passed

abbrev pub invariant-loop-switch : goal.invariant-loop-switch
invariant-loop-switch l = few_keys_below l.switch l.changes ≡ true
