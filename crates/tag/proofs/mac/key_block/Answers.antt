-- A key of at most a block, or its hash.
use Rattle.std.proofs.Common.{arith}
use Rattle.tag.proofs.Macs.{short_key, long_key}
use Rattle.tag.proofs.mac.key_block.Goals as goal

pub returns-then-key-le64 : goal.returns-then-key-le64
returns-then-key-le64 c = short_key c.args.key.now (omega arith) c.block_of.ensures

pub returns-else-key-le64 : goal.returns-else-key-le64
returns-else-key-le64 c = let key = c.args.key.now in
    long_key key (omega arith) c.sha256-d.ensures c.block_of-else-key-le64.ensures
