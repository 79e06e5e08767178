-- A store such as the reader stores (document 01, question 20). Assumes nothing.
use Rattle.std.specs.Prelude.{ℕ, zero, suc, ◌+◌, Bool, true, ◌&&◌, List, [], ◌∷◌, map, length, drop, ltb, leb, eqb}
use Rattle.answer.specs.Limits.{switch_count}
use Rattle.lists.specs.Arrays.{every}
use Rattle.lists.specs.Kinds.{different}
use Rattle.flow.specs.Rules.{well_formed, rule_empty}
use Rattle.playbook.specs.Limits.{max_plans, max_changes, max_of_plan, max_keys}
use Rattle.playbook.specs.Books.{Book, book_of, trigger_of, same_trigger, kinds_on}
use Rattle.playbook.specs.declared.Change.{Change}
use Rattle.playbook.specs.declared.Plan.{Plan}
use Rattle.playbook.specs.declared.Playbook.{Playbook}

-- known switches, no plan too long, and the plans' changes one after another from a place up to an end
unfoldable pub spans : ℕ → ℕ → List Plan → Bool
spans from end [] = eqb from end
spans from end (q ∷ qs) =
    ltb q.switch switch_count && leb q.count max_of_plan && eqb q.first from && spans (from + q.count) end qs

abbrev pub change_ok : Change → Bool
change_ok c = ltb c.switch switch_count && well_formed c.rule

-- on each switch below n, not too many different prefixes with lengths
unfoldable pub few_keys_below : ℕ → List Change → Bool
few_keys_below zero cs = true
few_keys_below (suc s) cs = leb (kinds_on s cs) max_keys && few_keys_below s cs

-- the limits of a book
unfoldable pub book_ok : Book → Bool
book_ok b =
    leb (length b.plans) max_plans
    && leb (length b.changes) max_changes
    && spans 0 (length b.changes) b.plans
    && different same_trigger (map trigger_of b.plans)
    && every change_ok b.changes
    && few_keys_below switch_count b.changes

abbrev pub plan_empty : Plan → Bool
plan_empty q = eqb q.switch 0 && eqb q.cause 0 && eqb q.first 0 && eqb q.count 0

abbrev pub change_empty : Change → Bool
change_empty c = eqb c.flow 0 && eqb c.switch 0 && rule_empty c.rule

-- counts within the store, what is in use within the limits, and unused places zero
unfoldable pub stored_ok : Playbook → Bool
stored_ok p =
    leb p.planned max_plans
    && leb p.listed max_changes
    && book_ok (book_of p)
    && every plan_empty (drop p.planned p.plans)
    && every change_empty (drop p.listed p.changes)
