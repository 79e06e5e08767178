-- `say_records` is safe and ends: every turn takes a record off the rest.
use Rattle.std.proofs.Common.{length}
use Rattle.disassemble.proofs.say_records.Given as goal

abbrev pub decreases-loop-kind : goal.decreases-loop-kind
decreases-loop-kind l = length l.rest
