-- `plans_ok` meets its contract. The loop's invariant: the plans so far pass, and their triggers are flagged. Assumes
-- nothing.
use Rattle.playbook.proofs.Walked.{Walked}
use Rattle.playbook.proofs.storing.plans_ok.Given as goal

abbrev pub invariant-loop-plan : goal.invariant-loop-plan
invariant-loop-plan l = Walked l.plans l.end l.triggers.used l.start l.plan-index
