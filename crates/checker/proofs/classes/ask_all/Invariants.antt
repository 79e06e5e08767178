-- What is asked about all bounds is what is asked about those from place i on, with what is left of the budget.
use mathlib.Core.Path.{◌≡◌}
use mathlib.Core.Bool.{Bool}
use Prim.Native.Nat.{ℕ}
use lib.ListN.{drop}
use Rattle.flow.specs.Lookups.{covers}
use Rattle.checker.specs.Layout.{bounds_for}
use Rattle.checker.specs.declared.Quest.{Quest}
use Rattle.checker.proofs.Judging.{asks_from}
use Rattle.checker.proofs.classes.ask_all.Given as goal

-- which bounds are asked about
abbrev pub within : Quest → ℕ → Bool
within q address = covers (q.line.prefix, q.line.length) address

abbrev pub invariant-loop-i : goal.invariant-loop-i
invariant-loop-i l =
    asks_from (within l.q) l.changes l.links l.q (bounds_for l.changes l.q) l.budget
    ≡ asks_from (within l.q) l.changes l.links l.q (drop l.i (bounds_for l.changes l.q)) l.left
