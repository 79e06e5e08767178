-- Byte by byte: the first are done.
use Rattle.std.proofs.Common.{◌≡◌, ◌++◌, take, drop}
use Rattle.tag.specs.Hmac.{xored}
use Rattle.tag.proofs.mac.xored.Given as goal

abbrev pub invariant-loop-y : goal.invariant-loop-y
invariant-loop-y l = l.y-items ≡ take l.y-index (xored l.initial.y-items l.x) ++ drop l.y-index l.initial.y-items
