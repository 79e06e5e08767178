-- Past the end a store leaves the bytes as they are.
use Rattle.std.proofs.Common.{sym, arith}
use lib.Seq.{set_out}
use Rattle.timed.proofs.turns.stir.Goals as goal

pub returns-else-place-bytes : goal.returns-else-place-bytes
returns-else-place-bytes c = sym (set_out _ _ _ (omega arith))
