-- `plan_of` meets its contract: the loop's test is that of the definition, and 64 plans are all. Assumes nothing.
use mathlib.Core.Path.{◌≡◌, sym, ap, ◌∙◌}
use mathlib.Core.List.{List}
use Prim.Native.Nat.{ℕ, min}
use native.Mathlib.Omega.{arith}
use borrow.Author.Rules.{rules}
use lib.ListN.{length, take, drop_of_length-le}
use lib.Seq.{take_all}
use Rattle.answer.proofs.Bools.{by_le}
use Rattle.lists.proofs.Stores.{length_mapped, rest}
use Rattle.playbook.specs.Limits.{max_plans}
use Rattle.playbook.specs.Books.{empty_plan, Trigger}
use Rattle.playbook.specs.Plans.{plan_of}
use Rattle.playbook.specs.declared.Plan.{Plan}
use Rattle.playbook.proofs.plans.plan_of.Goals as goal

in_use : (plans : List Plan) (n k : ℕ) → length plans ≡ max_plans → k ≡ min n max_plans → take k plans ≡ take n plans
in_use plans n k full e =
    by_le n max_plans (λ h. let same : k ≡ n = omega arith in ap (λ (i : ℕ). take i plans) same)
    (λ h. take_all k plans (omega arith) ∙ sym (take_all n plans (omega arith)))

pub returns-then-is_for : goal.returns-then-is_for
unfolding plan_of
returns-then-is_for c =
    let p = c.args.p in
    let t : Trigger = (c.args.switch, c.args.cause) in
    let i = c.loop-plan.plan-index in
    let full : length p.plans ≡ max_plans = search (rules, length_mapped) in
    let items = take c.min-in_use.result p.plans in
    let turn = c.loop-plan.invariant ∙ ap (plan_of t) (rest items i empty_plan c.loop-plan-test.true) in
    let here = turn ∙ rw (sym c.is_for.ensures ∙ c.if-is_for.true) in
    sym here ∙ ap (plan_of t) (in_use p.plans p.planned c.min-in_use.result full c.min-in_use.ensures)

pub loop-plan-preserved : goal.loop-plan-preserved
unfolding plan_of
loop-plan-preserved c =
    let t : Trigger = (c.args.switch, c.args.cause) in
    let items = take c.min-in_use.result c.args.p.plans in
    c.loop-plan.invariant ∙ ap (plan_of t) (rest items c.loop-plan.plan-index empty_plan c.loop-plan-test.true)
    ∙ rw (sym c.is_for.ensures ∙ c.if-is_for.false)

pub returns : goal.returns
unfolding plan_of
returns c =
    let p = c.args.p in
    let t : Trigger = (c.args.switch, c.args.cause) in
    let full : length p.plans ≡ max_plans = search (rules, length_mapped) in
    let items = take c.min-in_use.result p.plans in
    let none = c.loop-plan.invariant
    ∙ ap (plan_of t) (drop_of_length-le items {i = c.loop-plan.plan-index} c.loop-plan-test.false) in
    c.new.ensures ∙ sym none ∙ ap (plan_of t) (in_use p.plans p.planned c.min-in_use.result full c.min-in_use.ensures)
