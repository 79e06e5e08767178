-- Byte by byte: the first are done.
use Rattle.std.proofs.Common.{arith}
use Rattle.tag.proofs.Macs.{xor_step, xor_end}
use Rattle.tag.proofs.mac.xored.Goals as goal

pub loop-y-preserved : goal.loop-y-preserved
loop-y-preserved c = let loop = c.loop-y in
    xor_step c.args.b loop.y-items c.args.x loop.y-index (omega arith) loop.invariant

pub returns : goal.returns
returns c = let loop = c.loop-y in
    xor_end c.args.b loop.y-items c.args.x loop.y-index (omega arith) loop.invariant
