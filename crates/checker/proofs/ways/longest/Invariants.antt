-- The longest of all lengths is the longest of those below l.
use mathlib.Core.Path.{◌≡◌}
use Prim.Native.Nat.{ℕ}
use lib.ListN.{get_or}
use Rattle.isolation.specs.Check.{longest_to}
use Rattle.checker.specs.Layout.{found_of}
use Rattle.checker.proofs.Finding.{longest_below}
use Rattle.checker.proofs.ways.longest.Given as goal

abbrev pub invariant-loop-l : goal.invariant-loop-l
invariant-loop-l l =
    longest_to 32 (λ (k : ℕ). found_of (get_or l.ports k 0)) ≡ longest_below l.l (λ (k : ℕ). found_of (get_or l.ports k 0))
