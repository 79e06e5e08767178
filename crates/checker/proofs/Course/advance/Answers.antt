-- The branches answer questions 12, 22 and 23, and the plan found is that of the trigger.
use mathlib.Core.Path.{◌≡◌, ◌∙◌}
use Prim.Native.Nat.{◌+◌, ◌-◌}
use native.Mathlib.Omega.{arith}
use borrow.Author.Rules.{rules}
use Rattle.controller.proofs.Planned.{plan_listed}
use Rattle.checker.proofs.Laying.{course_unknown, course_old, course_exhausted, course_goes}
use Rattle.checker.proofs.Course.advance.Goals.{then-switch-ge-SWITCHES-via-then-switch-ge-SWITCHES, then-switch-ge-SWITCHES-via-else-switch-ge-SWITCHES+then-serial-self}
use Rattle.checker.proofs.Course.advance.Goals as goal

pub returns-then-switch-ge-SWITCHES : goal.returns-then-switch-ge-SWITCHES
returns-then-switch-ge-SWITCHES c = let a = c.args in
    elim c.then-switch-ge-SWITCHES.branch [
      | then-switch-ge-SWITCHES-via-then-switch-ge-SWITCHES w ↦ course_unknown a.p.now a.self.now a.switch a.serial a.cause
          (omega arith)
      | then-switch-ge-SWITCHES-via-else-switch-ge-SWITCHES+then-serial-self w ↦ course_old a.p.now a.self.now a.switch a.serial
          a.cause (omega arith) (omega arith)
    ]

pub overflow_add-self : goal.overflow_add-self
overflow_add-self c = let a = c.args in
    let found = plan_listed a.p.now (a.switch, a.cause) c.requires.stored c.plan_of-plan.ensures in
    search (rules, found.few)

pub returns-then-self-plan : goal.returns-then-self-plan
returns-then-self-plan c = let a = c.args in
    let found = plan_listed a.p.now (a.switch, a.cause) c.requires.stored c.plan_of-plan.ensures in
    course_exhausted a.p.now a.self.now a.switch a.serial a.cause (omega arith) (omega arith) found (omega arith)

pub overflow_add-plan : goal.overflow_add-plan
overflow_add-plan c = let a = c.args in
    let found = plan_listed a.p.now (a.switch, a.cause) c.requires.stored c.plan_of-plan.ensures in
    search (rules, found.inside)

pub offset_bounds-p-plan : goal.offset_bounds-p-plan
offset_bounds-p-plan c = let a = c.args in
    let found = plan_listed a.p.now (a.switch, a.cause) c.requires.stored c.plan_of-plan.ensures in
    search (rules, found.inside)

pub slice_bounds-lay-end : goal.slice_bounds-lay-end
slice_bounds-lay-end c = let a = c.args in
    let found = plan_listed a.p.now (a.switch, a.cause) c.requires.stored c.plan_of-plan.ensures in
    search (rules, found.inside)

pub returns : goal.returns
returns c = let a = c.args in
    let q = c.plan_of-plan.result in
    let found = plan_listed a.p.now (a.switch, a.cause) c.requires.stored c.plan_of-plan.ensures in
    let z : q.first + q.count - q.first ≡ q.count = omega arith in
    course_goes a.p.now a.self.now a.switch a.serial a.cause (omega arith) (omega arith) found (omega arith)
    (c.lay.ensures ∙ rw z)
