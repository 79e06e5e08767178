-- An input that is longer than any that can be rehearsed: of it a switch applied what it applied of its first bytes, if
-- these are more than can be rehearsed.
use mathlib.Core.Path.{◌≡◌, sym, ap, ◌∙◌}
use mathlib.Core.List.{List}
use Prim.Native.Nat.{ℕ, ◌<◌}
use native.Mathlib.Omega.{arith}
use lib.ListN.{take}
use lib.Seq.{take-take}
use Rattle.std.specs.Prelude.{None}
use Rattle.rehearsal.specs.Limits.{longest_input}
use Rattle.rehearsal.specs.Deeds.{told_of}
use Rattle.rehearsal.proofs.Cut.{looked, cut_told}
use Rattle.feed.specs.Rules.{applied_of}

pub cut-applied : (s k : ℕ) (input : List ℕ) → longest_input < k → applied_of s (take k input) ≡ applied_of s input
unfolding applied_of
cut-applied s k input more =
    let same : told_of None (take k input) ≡ told_of None input =
    sym (cut_told None (take k input))
    ∙ ap (told_of None) (take-take looked k input (omega arith))
    ∙ cut_told None input in
    rw same
