-- `plan_of` meets its contract. The loop's invariant: the plan of the trigger is that of the plans from here on.
-- Assumes nothing.
use mathlib.Core.Path.{◌≡◌}
use lib.ListN.{drop}
use Rattle.playbook.specs.Plans.{plan_of}
use Rattle.playbook.proofs.plans.plan_of.Given as goal

abbrev pub invariant-loop-plan : goal.invariant-loop-plan
invariant-loop-plan l =
    plan_of (l.switch, l.cause) l.plan-items ≡ plan_of (l.switch, l.cause) (drop l.plan-index l.plan-items)
