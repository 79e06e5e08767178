-- An array of so many zeros has so many places: by the law, since counting them one by one takes too long.
use Prim.Native.Nat.{ℕ, ◌+◌}
use mathlib.Core.Path.{sym}
use lib.ListN.{length-replicate}
use Rattle.notation.specs.Limits.{text_limit}
use Rattle.assemble.proofs.for_text.Goals as goal

pub returns : goal.returns
returns c = sym (length-replicate {A = ℕ} (text_limit + 1) 0)
