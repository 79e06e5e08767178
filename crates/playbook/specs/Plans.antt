-- The plan of a switch and cause, and its changes (document 01, "Controller end"). Assumes nothing.
use Rattle.std.specs.Prelude.{List, [], ◌∷◌, take, drop}
use Rattle.answer.specs.Ask.{pick}
use Rattle.playbook.specs.Books.{Trigger, trigger_of, same_trigger, new_plan, book_of}
use Rattle.playbook.specs.declared.Change.{Change}
use Rattle.playbook.specs.declared.Plan.{Plan}
use Rattle.playbook.specs.declared.Playbook.{Playbook}

-- the first plan with this trigger; without one a plan with no changes
unfoldable pub plan_of : Trigger → List Plan → Plan
plan_of t [] = new_plan t 0
plan_of t (q ∷ qs) = pick (same_trigger (trigger_of q) t) q (plan_of t qs)

-- the changes of a plan, and those that a trigger has in a playbook
abbrev pub changes_of : Plan → List Change → List Change
changes_of q cs = take q.count (drop q.first cs)

abbrev pub changes_for : Playbook → Trigger → List Change
changes_for p t = changes_of (plan_of t (book_of p).plans) (book_of p).changes
