-- `take_decision` meets its contract: the plan found is that of the trigger, and its changes stand in the store, so the
-- branches answer questions 23 and 24.
use mathlib.Core.Path.{◌≡◌}
use native.Mathlib.Omega.{arith}
use borrow.Author.Rules.{rules}
use lib.ListN.{length}
use Rattle.lists.proofs.Stores.{length_mapped}
use Rattle.controller.proofs.Within.{within}
use Rattle.controller.proofs.Places.{held_sound}
use Rattle.controller.proofs.Planned.{Listed, plan_listed, plan_exhausts, plan_full, plan_taken}
use Rattle.controller.proofs.Controller.take_decision.Goals as goal

pub overflow_add-last : goal.overflow_add-last
overflow_add-last c =
    let s = c.args.self.now in
    let e = c.args.event in
    let found : Listed s.playbook (e.switch, e.cause) c.plan_of-plan.result =
    plan_listed s.playbook (e.switch, e.cause) (within s c.requires.0).stored c.plan_of-plan.ensures in
    search (rules, found.few)

pub returns-then-last-gt-NUMBERS : goal.returns-then-last-gt-NUMBERS
returns-then-last-gt-NUMBERS c =
    let s = c.args.self.now in
    let e = c.args.event in
    let found : Listed s.playbook (e.switch, e.cause) c.plan_of-plan.result =
    plan_listed s.playbook (e.switch, e.cause) (within s c.requires.0).stored c.plan_of-plan.ensures in
    plan_exhausts s e.switch e.serial e.cause found c.if-last-gt-NUMBERS.true

pub held_after-held-requires : goal.held_after-held-requires
held_after-held-requires c =
    let s = c.args.self.now in
    let e = c.args.event in
    let limits = within s c.requires.0 in
    let long : length s.progress.undone.changes ≡ 64 = search (rules, length_mapped) in
    let found : Listed s.playbook (e.switch, e.cause) c.plan_of-plan.result =
    plan_listed s.playbook (e.switch, e.cause) limits.stored c.plan_of-plan.ensures in
    (held_sound s limits long, limits.count, found.inside, omega arith)

pub returns-then-held-gt-UNDONE : goal.returns-then-held-gt-UNDONE
returns-then-held-gt-UNDONE c =
    let s = c.args.self.now in
    let e = c.args.event in
    let found : Listed s.playbook (e.switch, e.cause) c.plan_of-plan.result =
    plan_listed s.playbook (e.switch, e.cause) (within s c.requires.0).stored c.plan_of-plan.ensures in
    plan_full s e.switch e.serial e.cause found (omega arith) c.held_after-held.ensures c.if-held-gt-UNDONE.true

pub returns : goal.returns
returns c =
    let s = c.args.self.now in
    let e = c.args.event in
    let found : Listed s.playbook (e.switch, e.cause) c.plan_of-plan.result =
    plan_listed s.playbook (e.switch, e.cause) (within s c.requires.0).stored c.plan_of-plan.ensures in
    plan_taken s e.switch e.serial e.cause found (omega arith) c.held_after-held.ensures (omega arith)
