-- `Reader::open` meets its contract: the branches answer the questions of a plan in order. Assumes nothing.
use mathlib.Core.Path.{◌≡◌, sym, ◌∙◌}
use native.Mathlib.Omega.{arith}
use borrow.Author.Rules.{rules}
use lib.ListN.{length}
use Rattle.lists.proofs.Stores.{length_mapped}
use Rattle.playbook.specs.Limits.{max_plans, max_changes}
use Rattle.playbook.proofs.Turns.{plan_unknown, plan_used, plan_over, plan-ok, plan_next, plan-stored, plan-marked}
use Rattle.playbook.proofs.reading.Reader.open.Goals as goal

pub returns-then-switch-ge-SWITCHES-clause-asked : goal.returns-then-switch-ge-SWITCHES-clause-asked
returns-then-switch-ge-SWITCHES-clause-asked c =
    let r = c.args.self.now in
    let plans : length r.playbook.plans ≡ max_plans = search (rules, length_mapped) in
    let changes : length r.playbook.changes ≡ max_changes = search (rules, length_mapped) in
    plan_unknown r.playbook plans changes r.stored (c.args.switch, c.args.cause) (omega arith) r.triggers.used r.marked
    c.if-switch-ge-SWITCHES.true

pub returns-then-contains-clause-asked : goal.returns-then-contains-clause-asked
returns-then-contains-clause-asked c =
    let r = c.args.self.now in
    let plans : length r.playbook.plans ≡ max_plans = search (rules, length_mapped) in
    let changes : length r.playbook.changes ≡ max_changes = search (rules, length_mapped) in
    plan_used r.playbook plans changes r.stored (c.args.switch, c.args.cause) (omega arith) r.triggers.used r.marked
    c.if-switch-ge-SWITCHES.false (sym c.contains.ensures ∙ c.if-contains.true)

pub returns-then-planned-ge-PLANS-clause-asked : goal.returns-then-planned-ge-PLANS-clause-asked
returns-then-planned-ge-PLANS-clause-asked c =
    let r = c.args.self.now in
    let plans : length r.playbook.plans ≡ max_plans = search (rules, length_mapped) in
    let changes : length r.playbook.changes ≡ max_changes = search (rules, length_mapped) in
    plan_over r.playbook plans changes r.stored (c.args.switch, c.args.cause) (omega arith) r.triggers.used r.marked
    c.if-switch-ge-SWITCHES.false (sym c.contains.ensures ∙ c.if-contains.false) c.if-planned-ge-PLANS.true

pub returns-clause-asked : goal.returns-clause-asked
returns-clause-asked c =
    let r = c.args.self.now in
    let plans : length r.playbook.plans ≡ max_plans = search (rules, length_mapped) in
    let changes : length r.playbook.changes ≡ max_changes = search (rules, length_mapped) in
    plan-ok r.playbook plans changes r.stored (c.args.switch, c.args.cause) (omega arith) r.triggers.used r.marked
    c.if-switch-ge-SWITCHES.false (sym c.contains.ensures ∙ c.if-contains.false) c.if-planned-ge-PLANS.false

pub returns-clause-opened : goal.returns-clause-opened
returns-clause-opened c =
    let r = c.args.self.now in
    let plans : length r.playbook.plans ≡ max_plans = search (rules, length_mapped) in
    let changes : length r.playbook.changes ≡ max_changes = search (rules, length_mapped) in
    rw c.new.ensures
    (plan_next r.playbook plans changes r.stored (c.args.switch, c.args.cause) (omega arith) r.triggers.used r.marked
    c.if-switch-ge-SWITCHES.false (sym c.contains.ensures ∙ c.if-contains.false) c.if-planned-ge-PLANS.false)

pub invariant_of-self-clause-stored : goal.invariant_of-self-clause-stored
invariant_of-self-clause-stored c =
    let r = c.args.self.now in
    let plans : length r.playbook.plans ≡ max_plans = search (rules, length_mapped) in
    let changes : length r.playbook.changes ≡ max_changes = search (rules, length_mapped) in
    rw c.new.ensures
    (plan-stored r.playbook plans changes r.stored (c.args.switch, c.args.cause) (omega arith) r.triggers.used r.marked
    c.if-switch-ge-SWITCHES.false (sym c.contains.ensures ∙ c.if-contains.false) c.if-planned-ge-PLANS.false)

pub invariant_of-self-clause-marked : goal.invariant_of-self-clause-marked
invariant_of-self-clause-marked c =
    let r = c.args.self.now in
    let plans : length r.playbook.plans ≡ max_plans = search (rules, length_mapped) in
    let changes : length r.playbook.changes ≡ max_changes = search (rules, length_mapped) in
    rw (c.new.ensures, c.insert.ensures.added)
    (plan-marked r.playbook plans changes r.stored (c.args.switch, c.args.cause) (omega arith) r.triggers.used r.marked
    c.if-switch-ge-SWITCHES.false (sym c.contains.ensures ∙ c.if-contains.false) c.if-planned-ge-PLANS.false)
