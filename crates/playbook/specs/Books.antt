-- A playbook as lists, the store that holds it, and what a plan and a change do to it (document 01, "Bytes").
use Rattle.std.specs.Prelude.{ℕ, ◌+◌, Bool, ◌&&◌, List, [], ◌∷◌, ◌++◌, map, length, take, ltb, eqb}
use Rattle.answer.specs.Ask.{pick}
use Rattle.lists.specs.Arrays.{pad}
use Rattle.lists.specs.Kinds.{among, kinds}
use Rattle.flow.specs.Rules.{Key, rule_key, same_key, empty_rule}
use Rattle.playbook.specs.Limits.{max_plans, max_changes, max_of_plan}
use Rattle.playbook.specs.declared.Change.{Change}
use Rattle.playbook.specs.declared.Plan.{Plan}
use Rattle.playbook.specs.declared.Playbook.{Playbook}

-- the plans, and all their changes one after another
pub record Book : Type 0 where
  pub plans : List Plan
  pub changes : List Change

abbrev pub no_plans : Book
no_plans = record { plans = []; changes = [] }

-- what stands in unused places
abbrev pub empty_plan : Plan
empty_plan = record { switch = 0; cause = 0; first = 0; count = 0 }

abbrev pub empty_change : Change
empty_change = record { flow = 0; switch = 0; rule = empty_rule }

-- the plans and changes in use, and the store with these, zero past them
abbrev pub book_of : Playbook → Book
book_of p = record { plans = take p.planned p.plans; changes = take p.listed p.changes }

abbrev pub store_of : Book → Playbook
store_of b = record {
  plans = pad max_plans empty_plan b.plans;
  planned = length b.plans;
  changes = pad max_changes empty_change b.changes;
  listed = length b.changes;
}

-- a trigger is a switch and a cause
abbrev pub Trigger : Type 0
Trigger = ℕ × ℕ

abbrev pub trigger_of : Plan → Trigger
trigger_of q = (q.switch, q.cause)

abbrev pub same_trigger : Trigger → Trigger → Bool
same_trigger t u = eqb t.0 u.0 && eqb t.1 u.1

abbrev pub has_trigger : Trigger → List Plan → Bool
has_trigger t qs = among same_trigger t (map trigger_of qs)

-- whether a change is on a switch, set or removal
abbrev pub is_on : ℕ → Change → Bool
is_on s c = eqb c.switch s

-- the prefixes with lengths of the changes on a switch, and how many different ones these are
unfoldable pub keys_on : ℕ → List Change → List Key
keys_on s [] = []
keys_on s (c ∷ cs) = pick (is_on s c) (rule_key c.rule ∷ keys_on s cs) (keys_on s cs)

abbrev pub kinds_on : ℕ → List Change → ℕ
kinds_on s cs = kinds same_key (keys_on s cs)

-- how many changes the last plan has, and the plans where it has one more
unfoldable pub last_count : List Plan → ℕ
last_count [] = 0
last_count (q ∷ []) = q.count
last_count (q ∷ r ∷ qs) = last_count (r ∷ qs)

abbrev pub counted : Plan → Plan
counted q = record { switch = q.switch; cause = q.cause; first = q.first; count = q.count + 1 }

unfoldable pub count_last : List Plan → List Plan
count_last [] = []
count_last (q ∷ []) = counted q ∷ []
count_last (q ∷ r ∷ qs) = q ∷ count_last (r ∷ qs)

-- a plan more, with no changes yet
abbrev pub new_plan : Trigger → ℕ → Plan
new_plan t n = record { switch = t.0; cause = t.1; first = n; count = 0 }

abbrev pub with_plan : Book → Trigger → Book
with_plan b t = record { plans = b.plans ++ new_plan t (length b.changes) ∷ []; changes = b.changes }

-- a change more, of the last plan
abbrev pub with_change : Book → Change → Book
with_change b c = record { plans = count_last b.plans; changes = b.changes ++ c ∷ [] }

-- room for a plan more, and for a change more of the last plan
abbrev pub plan_room : Book → Bool
plan_room b = ltb (length b.plans) max_plans

abbrev pub change_room : Book → Bool
change_room b = ltb (length b.changes) max_changes && ltb (last_count b.plans) max_of_plan
