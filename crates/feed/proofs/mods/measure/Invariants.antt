-- The loop's invariant: the total is the length of the FLOW_MODs of the rules so far.
use mathlib.Core.Path.{◌≡◌}
use lib.ListN.{length, take}
use Rattle.feed.specs.Mods.{mods_of}
use Rattle.feed.proofs.mods.measure.Given as goal

abbrev pub invariant-loop-slot : goal.invariant-loop-slot
invariant-loop-slot l = l.total ≡ length (mods_of (take l.slot-index l.rules))
