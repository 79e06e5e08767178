-- Each record leaves fewer bytes.
use lib.ListN.{length}
use Rattle.isolated.proofs.network.read.Given as goal

abbrev pub decreases-loop-rest : goal.decreases-loop-rest
decreases-loop-rest l = length l.rest
