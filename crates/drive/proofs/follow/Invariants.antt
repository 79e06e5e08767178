-- Every turn takes four bytes or more off the rest. Assumes nothing.
use lib.ListN.{length}
use Rattle.drive.proofs.follow.Given as goal

abbrev pub decreases-loop-head : goal.decreases-loop-head
decreases-loop-head l = length l.rest
