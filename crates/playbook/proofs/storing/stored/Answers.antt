-- `stored` meets its contract: the counts are the lengths of what is in use, and the branches decide the other tests.
-- Assumes nothing.
use mathlib.Core.Path.{◌≡◌, refl, sym, ◌∙◌}
use mathlib.Core.List.{map}
use mathlib.Core.Bool.{Bool, true, false, ◌&&◌}
use Prim.Native.Nat.{◌≤◌}
use native.Mathlib.Omega.{arith}
use borrow.Author.Rules.{rules}
use borrow.Author.Tests.{le-leb, lt-leb}
use lib.ListN.{length, take, drop}
use lib.Seq.{length-take-le}
use Rattle.answer.specs.Limits.{switch_count}
use Rattle.lists.specs.Arrays.{every}
use Rattle.lists.specs.Kinds.{different}
use Rattle.lists.proofs.Stores.{length_mapped}
use Rattle.playbook.specs.Limits.{max_plans, max_changes}
use Rattle.playbook.specs.Books.{trigger_of, same_trigger}
use Rattle.playbook.specs.Storing.{spans, change_ok, few_keys_below, book_ok, plan_empty, change_empty, stored_ok}
use Rattle.playbook.specs.declared.Playbook.{Playbook}
use Rattle.playbook.proofs.storing.stored.Goals as goal
use Rattle.playbook.proofs.storing.stored.Goals.{then-p-gt-PLANS-via-then-p-gt-PLANS, then-p-gt-PLANS-via-else-p-gt-PLANS+then-p-gt-CHANGES}

pub returns-then-p-gt-PLANS : goal.returns-then-p-gt-PLANS
unfolding stored_ok
returns-then-p-gt-PLANS c =
    elim c.then-p-gt-PLANS.branch [
      | then-p-gt-PLANS-via-then-p-gt-PLANS w ↦ rw (lt-leb _ _ w.if-p-gt-PLANS.true)
      | then-p-gt-PLANS-via-else-p-gt-PLANS+then-p-gt-CHANGES w ↦
          rw (le-leb _ _ w.if-p-gt-PLANS.false, lt-leb _ _ w.if-p-gt-CHANGES.true)
    ]

-- the tests as the code asks them: of the plans, and of the changes
abbrev plans_ok : Playbook → Bool
plans_ok p =
    spans 0 p.listed (take p.planned p.plans)
    && different same_trigger (map trigger_of (take p.planned p.plans))
    && every plan_empty (drop p.planned p.plans)

abbrev changes_ok : Playbook → Bool
changes_ok p =
    every change_ok (take p.listed p.changes)
    && every change_empty (drop p.listed p.changes)
    && few_keys_below switch_count (take p.listed p.changes)

other-order : (plans right few no-plans no_changes : Bool)
    → (plans && right && few && no-plans && no_changes) ≡ (plans && no-plans && (right && no_changes && few))
other-order false right few no-plans no_changes = refl
other-order true false few true no_changes = refl
other-order true false few false no_changes = refl
other-order true true false false no_changes = refl
other-order true true false true true = refl
other-order true true false true false = refl
other-order true true true false no_changes = refl
other-order true true true true true = refl
other-order true true true true false = refl

asked : (p : Playbook) → length p.plans ≡ max_plans → length p.changes ≡ max_changes → p.planned ≤ max_plans
    → p.listed ≤ max_changes → stored_ok p ≡ (plans_ok p && changes_ok p)
unfolding stored_ok book_ok
asked p plans changes n m =
    let planned = length-take-le p.planned p.plans (omega arith) in
    let listed = length-take-le p.listed p.changes (omega arith) in
    rw (planned, listed, le-leb _ _ n, le-leb _ _ m) (other-order
    (spans 0 p.listed (take p.planned p.plans)
    && different same_trigger (map trigger_of (take p.planned p.plans)))
    (every change_ok (take p.listed p.changes)) (few_keys_below switch_count (take p.listed p.changes))
    (every plan_empty (drop p.planned p.plans)) (every change_empty (drop p.listed p.changes)))

pub returns-then-plans_ok : goal.returns-then-plans_ok
returns-then-plans_ok c =
    let p = c.args.p in
    let plans : length p.plans ≡ max_plans = search (rules, length_mapped) in
    let changes : length p.changes ≡ max_changes = search (rules, length_mapped) in
    let right : plans_ok p ≡ true =
    sym (rw (c.split_at.ensures.front, c.split_at.ensures.back) at c.plans_ok.ensures) ∙ c.if-plans_ok.true in
    let rest : c.changes_ok.result ≡ changes_ok p =
    rw (c.split_at-2.ensures.front, c.split_at-2.ensures.back) at c.changes_ok.ensures in
    rest ∙ sym (asked p plans changes c.if-p-gt-PLANS.false c.if-p-gt-CHANGES.false ∙ rw right)

pub returns-else-plans_ok : goal.returns-else-plans_ok
returns-else-plans_ok c =
    let p = c.args.p in
    let plans : length p.plans ≡ max_plans = search (rules, length_mapped) in
    let changes : length p.changes ≡ max_changes = search (rules, length_mapped) in
    let wrong : plans_ok p ≡ false =
    sym (rw (c.split_at.ensures.front, c.split_at.ensures.back) at c.plans_ok.ensures) ∙ c.if-plans_ok.false in
    c.if-plans_ok.false ∙ sym (asked p plans changes c.if-p-gt-PLANS.false c.if-p-gt-CHANGES.false ∙ rw wrong)
