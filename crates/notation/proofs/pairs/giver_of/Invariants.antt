-- `giver_of` meets its contract: the key of none of the first i pairs gives the tag.
use Rattle.std.proofs.Common.{◌≡◌, ◌-◌}
use Rattle.notation.specs.Pairs.{giver_among, giver_of}
use Rattle.notation.proofs.pairs.giver_of.Given as goal

abbrev pub invariant-loop-i : goal.invariant-loop-i
invariant-loop-i l = giver_of l.share ≡ giver_among (256 - l.i) l.i l.share
