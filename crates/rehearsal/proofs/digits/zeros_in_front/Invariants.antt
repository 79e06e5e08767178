-- The loop's invariant: the zeros before i go.
use mathlib.Core.Path.{◌≡◌}
use lib.ListN.{drop}
use Rattle.rehearsal.specs.Lines.{stripped}
use Rattle.rehearsal.proofs.digits.zeros_in_front.Given as goal

abbrev pub invariant-loop-i : goal.invariant-loop-i
invariant-loop-i l = stripped l.fn.digits ≡ stripped (drop l.i l.fn.digits)
