-- `run` is safe and ends: each case takes at least three bytes.
use Rattle.std.proofs.Common.{length}
use Rattle.trials.proofs.run.Given as goal

abbrev pub decreases-loop-rest : goal.decreases-loop-rest
decreases-loop-rest l = length l.rest
