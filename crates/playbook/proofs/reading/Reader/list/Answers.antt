-- `Reader::list` meets its contract: the branches answer the questions of a change in order. Assumes nothing.
use mathlib.Core.Path.{◌≡◌, sym, ◌∙◌}
use mathlib.Core.List.{List, map}
use Prim.Native.Nat.{◌≤◌}
use native.Mathlib.Omega.{arith}
use borrow.Author.Rules.{rules}
use lib.ListN.{length}
use Rattle.lists.proofs.Stores.{length_mapped}
use Rattle.flow.specs.Rules.{Key}
use Rattle.playbook.specs.Limits.{max_plans, max_changes}
use Rattle.playbook.specs.Members.{members}
use Rattle.playbook.proofs.Kept.{stored_parts}
use Rattle.playbook.proofs.Turns.{change_unknown, change_none, change_malformed, change_over, change_long, change_many}
use Rattle.playbook.proofs.Turns.{change-ok, change_next, change-stored, change-marked, change-collected}
use Rattle.playbook.proofs.reading.Reader.list.Goals as goal
use Rattle.playbook.proofs.reading.Reader.list.Goals.{then-listed-ge-CHANGES-via-then-listed-ge-CHANGES, then-listed-ge-CHANGES-via-else-listed-ge-CHANGES+then-self-last-ge-CHANGES_OF_PLAN}

pub returns-then-change-ge-SWITCHES-clause-asked : goal.returns-then-change-ge-SWITCHES-clause-asked
returns-then-change-ge-SWITCHES-clause-asked c =
    let r = c.args.self.now in
    let plans : length r.playbook.plans ≡ max_plans = search (rules, length_mapped) in
    let changes : length r.playbook.changes ≡ max_changes = search (rules, length_mapped) in
    let sets : List (List Key) = map members r.keys in
    change_unknown r.playbook plans changes r.stored c.args.change sets r.collected
    c.if-change-ge-SWITCHES.true

pub returns-then-self-eq0-clause-asked : goal.returns-then-self-eq0-clause-asked
returns-then-self-eq0-clause-asked c =
    let r = c.args.self.now in
    let plans : length r.playbook.plans ≡ max_plans = search (rules, length_mapped) in
    let changes : length r.playbook.changes ≡ max_changes = search (rules, length_mapped) in
    let sets : List (List Key) = map members r.keys in
    change_none r.playbook plans changes r.stored c.args.change sets r.collected
    (omega arith) c.if-self-eq0.true

pub returns-then-not-well_formed-clause-asked : goal.returns-then-not-well_formed-clause-asked
returns-then-not-well_formed-clause-asked c =
    let r = c.args.self.now in
    let plans : length r.playbook.plans ≡ max_plans = search (rules, length_mapped) in
    let changes : length r.playbook.changes ≡ max_changes = search (rules, length_mapped) in
    let sets : List (List Key) = map members r.keys in
    change_malformed r.playbook plans changes r.stored c.args.change sets r.collected
    c.if-change-ge-SWITCHES.false (omega (arith, c.if-self-eq0.false)) (sym c.well_formed-2.ensures ∙ c.if-not-well_formed.true)

pub returns-then-listed-ge-CHANGES-clause-asked : goal.returns-then-listed-ge-CHANGES-clause-asked
returns-then-listed-ge-CHANGES-clause-asked c =
    let r = c.args.self.now in
    let plans : length r.playbook.plans ≡ max_plans = search (rules, length_mapped) in
    let changes : length r.playbook.changes ≡ max_changes = search (rules, length_mapped) in
    let sets : List (List Key) = map members r.keys in
    elim c.then-listed-ge-CHANGES.branch [
      | then-listed-ge-CHANGES-via-then-listed-ge-CHANGES w ↦
          change_over r.playbook plans changes r.stored c.args.change sets r.collected
          c.if-change-ge-SWITCHES.false (omega (arith, c.if-self-eq0.false)) (sym c.well_formed-2.ensures ∙ c.if-not-well_formed.false)
          w.if-listed-ge-CHANGES.true
      | then-listed-ge-CHANGES-via-else-listed-ge-CHANGES+then-self-last-ge-CHANGES_OF_PLAN w ↦
          change_long r.playbook plans changes r.stored c.args.change sets r.collected
          c.if-change-ge-SWITCHES.false (omega (arith, c.if-self-eq0.false)) (sym c.well_formed-2.ensures ∙ c.if-not-well_formed.false)
          w.if-self-last-ge-CHANGES_OF_PLAN.true
    ]

pub returns-then-not-gather-clause-asked : goal.returns-then-not-gather-clause-asked
returns-then-not-gather-clause-asked c =
    let r = c.args.self.now in
    let plans : length r.playbook.plans ≡ max_plans = search (rules, length_mapped) in
    let changes : length r.playbook.changes ≡ max_changes = search (rules, length_mapped) in
    let sets : List (List Key) = map members r.keys in
    change_many r.playbook plans changes r.stored c.args.change sets r.collected
    c.if-change-ge-SWITCHES.false (omega (arith, c.if-self-eq0.false)) (sym c.well_formed-2.ensures ∙ c.if-not-well_formed.false)
    c.if-listed-ge-CHANGES.false c.if-self-last-ge-CHANGES_OF_PLAN.false (sym c.gather.ensures.told ∙ c.if-not-gather.true)

pub returns-clause-asked : goal.returns-clause-asked
returns-clause-asked c =
    let r = c.args.self.now in
    let plans : length r.playbook.plans ≡ max_plans = search (rules, length_mapped) in
    let changes : length r.playbook.changes ≡ max_changes = search (rules, length_mapped) in
    let sets : List (List Key) = map members r.keys in
    change-ok r.playbook plans changes r.stored c.args.change sets r.collected
    c.if-change-ge-SWITCHES.false (omega (arith, c.if-self-eq0.false)) (sym c.well_formed-2.ensures ∙ c.if-not-well_formed.false)
    c.if-listed-ge-CHANGES.false c.if-self-last-ge-CHANGES_OF_PLAN.false (sym c.gather.ensures.told ∙ c.if-not-gather.false)

pub returns-clause-listed : goal.returns-clause-listed
returns-clause-listed c =
    let r = c.args.self.now in
    let plans : length r.playbook.plans ≡ max_plans = search (rules, length_mapped) in
    let changes : length r.playbook.changes ≡ max_changes = search (rules, length_mapped) in
    let sets : List (List Key) = map members r.keys in
    change_next r.playbook plans changes r.stored c.args.change sets r.collected
    c.if-change-ge-SWITCHES.false (omega (arith, c.if-self-eq0.false)) (sym c.well_formed-2.ensures ∙ c.if-not-well_formed.false)
    c.if-listed-ge-CHANGES.false c.if-self-last-ge-CHANGES_OF_PLAN.false (sym c.gather.ensures.told ∙ c.if-not-gather.false)

pub invariant_of-self-2-clause-stored : goal.invariant_of-self-2-clause-stored
invariant_of-self-2-clause-stored c =
    let r = c.args.self.now in
    let plans : length r.playbook.plans ≡ max_plans = search (rules, length_mapped) in
    let changes : length r.playbook.changes ≡ max_changes = search (rules, length_mapped) in
    let sets : List (List Key) = map members r.keys in
    change-stored r.playbook plans changes r.stored c.args.change sets r.collected
    c.if-change-ge-SWITCHES.false (omega (arith, c.if-self-eq0.false)) (sym c.well_formed-2.ensures ∙ c.if-not-well_formed.false)
    c.if-listed-ge-CHANGES.false c.if-self-last-ge-CHANGES_OF_PLAN.false (sym c.gather.ensures.told ∙ c.if-not-gather.false)

pub invariant_of-self-2-clause-marked : goal.invariant_of-self-2-clause-marked
invariant_of-self-2-clause-marked c =
    let r = c.args.self.now in
    let plans : length r.playbook.plans ≡ max_plans = search (rules, length_mapped) in
    let changes : length r.playbook.changes ≡ max_changes = search (rules, length_mapped) in
    let sets : List (List Key) = map members r.keys in
    change-marked r.playbook plans changes r.stored c.args.change sets r.collected
    c.if-change-ge-SWITCHES.false (omega (arith, c.if-self-eq0.false)) (sym c.well_formed-2.ensures ∙ c.if-not-well_formed.false)
    c.if-listed-ge-CHANGES.false c.if-self-last-ge-CHANGES_OF_PLAN.false (sym c.gather.ensures.told ∙ c.if-not-gather.false) r.triggers.used r.marked

pub invariant_of-self-2-clause-collected : goal.invariant_of-self-2-clause-collected
invariant_of-self-2-clause-collected c =
    let r = c.args.self.now in
    let plans : length r.playbook.plans ≡ max_plans = search (rules, length_mapped) in
    let changes : length r.playbook.changes ≡ max_changes = search (rules, length_mapped) in
    let sets : List (List Key) = map members r.keys in
    rw (c.gather.ensures.added, c.if-not-gather.false)
    (change-collected r.playbook plans changes r.stored c.args.change sets r.collected
    c.if-change-ge-SWITCHES.false (omega (arith, c.if-self-eq0.false)) (sym c.well_formed-2.ensures ∙ c.if-not-well_formed.false)
    c.if-listed-ge-CHANGES.false c.if-self-last-ge-CHANGES_OF_PLAN.false (sym c.gather.ensures.told ∙ c.if-not-gather.false))

pub offset_bounds-self-last : goal.offset_bounds-self-last
offset_bounds-self-last c =
    let few : c.args.self.now.playbook.planned ≤ max_plans = (stored_parts _ c.args.self.now.stored).planned in
    search (rules, few)

pub bounds-self-last : goal.bounds-self-last
bounds-self-last c =
    let few : c.args.self.now.playbook.planned ≤ max_plans = (stored_parts _ c.args.self.now.stored).planned in
    search (rules, few)

pub offset_bounds-self-last-2 : goal.offset_bounds-self-last-2
offset_bounds-self-last-2 c =
    let few : c.args.self.now.playbook.planned ≤ max_plans = (stored_parts _ c.args.self.now.stored).planned in
    search (rules, few)

pub bounds-self-last-2 : goal.bounds-self-last-2
bounds-self-last-2 c =
    let few : c.args.self.now.playbook.planned ≤ max_plans = (stored_parts _ c.args.self.now.stored).planned in
    search (rules, few)

pub bounds-self-last-3 : goal.bounds-self-last-3
bounds-self-last-3 c =
    let few : c.args.self.now.playbook.planned ≤ max_plans = (stored_parts _ c.args.self.now.stored).planned in
    search (rules, few)
