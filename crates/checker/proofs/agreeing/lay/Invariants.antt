-- The first i listed changes are laid out.
use mathlib.Core.Path.{◌≡◌}
use Prim.Native.Nat.{◌+◌}
use lib.ListN.{take}
use Rattle.checker.specs.Agreeing.{laid_with}
use Rattle.checker.proofs.agreeing.lay.Given as goal

abbrev pub invariant-loop-i : goal.invariant-loop-i
invariant-loop-i l =
    l.laid ≡ laid_with l.initial.laid l.at (l.at + 1) (take l.i l.listed)
