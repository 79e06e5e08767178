-- `Share::of` meets its contract: the bytes stand in front, and zeros follow.
use mathlib.Core.Path.{ap, ◌∙◌}
use mathlib.Core.List.{List, ◌++◌}
use Prim.Native.Nat.{ℕ}
use lib.ListN.{length, drop, replicate}
use Rattle.rehearsal.specs.Worlds.{longest_share}
use Rattle.rehearsal.specs.declared.Share.{Share}
use Rattle.rehearsal.proofs.Making.{padded}
use Rattle.rehearsal.proofs.Share.of.Goals as goal

abbrev share_of : List ℕ → ℕ → Share
share_of room n = record { bytes = room; length = n }

pub returns : goal.returns
returns c = let bytes = c.args.bytes.now in
    ap (λ (room : List ℕ). share_of room (length bytes))
    (ap (λ (l : List ℕ). l ++ drop (length bytes) (replicate longest_share 0)) c.copy_from_slice.ensures.after
    ∙ padded longest_share bytes c.requires)
