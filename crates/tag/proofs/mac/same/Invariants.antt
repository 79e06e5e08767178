-- The differences of the bytes that were looked at are gathered.
use Rattle.std.proofs.Common.{◌≡◌, eqb, length, take}
use Rattle.lists.specs.Bytes.{equal}
use Rattle.tag.proofs.mac.same.Given as goal

abbrev pub invariant-loop-x : goal.invariant-loop-x
invariant-loop-x l = let n = length l.yielded in eqb l.difference 0 ≡ equal (take n l.a) (take n l.b)
