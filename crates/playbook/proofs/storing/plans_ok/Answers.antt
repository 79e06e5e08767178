-- `plans_ok` meets its contract: the loop's tests are those of the definitions. Assumes nothing.
use mathlib.Core.Path.{◌≡◌, refl, sym, ◌∙◌}
use mathlib.Core.Bool.{and-false}
use Prim.Native.Nat.{◌<◌}
use native.Mathlib.Omega.{arith}
use borrow.Author.Rules.{rules}
use borrow.Author.Tests.{tests, eq-eqb, ne_eqb, not-true, not-false}
use lib.ListN.{get_or}
use Rattle.std.specs.List.{list_all}
use Rattle.std.proofs.lemmas.Iterator.{YieldsList-from_slice}
use Rattle.std.proofs.lemmas.Iterator.Search.{all_from_yields_List}
use Rattle.playbook.specs.Books.{empty_plan}
use Rattle.playbook.specs.Storing.{plan_empty}
use Rattle.playbook.specs.declared.Plan.{Plan}
use Rattle.playbook.proofs.Held.{list_all-every}
use Rattle.playbook.proofs.Walked.{walked_none, walked_known, walked_wrong, walked_used, walked_more}
use Rattle.playbook.proofs.Walked.{walked_spans, walked_apart}
use Rattle.playbook.proofs.storing.plans_ok.Goals as goal
use Rattle.playbook.proofs.storing.plans_ok.Goals.{then-not-spans_from-via-then-not-spans_from, then-not-spans_from-via-else-not-spans_from+then-not-insert}

pub loop-plan-init : goal.loop-plan-init
loop-plan-init c = walked_none c.args.plans.now c.args.end c.new-triggers.result.used c.new-triggers.ensures

pub returns-then-not-spans_from : goal.returns-then-not-spans_from
returns-then-not-spans_from c =
    let qs = c.args.plans.now in
    let i = c.loop-plan.plan-index in
    let plan : Plan = get_or qs i empty_plan in
    elim c.then-not-spans_from.branch [
      | then-not-spans_from-via-then-not-spans_from w ↦
          rw (walked_wrong c.loop-plan.invariant plan c.loop-plan-test.true refl
          (sym c.spans_from.ensures ∙ w.if-not-spans_from.true))
      | then-not-spans_from-via-else-not-spans_from+then-not-insert w ↦
          let byte : plan.cause < 256 = search rules in
          let used = not-false _ (sym w.insert.ensures.told ∙ w.if-not-insert.true) in
          rw (
            walked_used c.loop-plan.invariant plan c.loop-plan-test.true refl
                (sym c.spans_from.ensures ∙ w.if-not-spans_from.false) byte used,
            and-false,
          )
    ]

pub insert-requires : goal.insert-requires
insert-requires c =
    let qs = c.args.plans.now in
    let i = c.loop-plan.plan-index in
    let plan : Plan = get_or qs i empty_plan in
    (walked_known c.loop-plan.invariant plan c.loop-plan-test.true refl
    (sym c.spans_from.ensures ∙ c.if-not-spans_from.false)).0

pub overflow_add-start : goal.overflow_add-start
overflow_add-start c =
    let qs = c.args.plans.now in
    let i = c.loop-plan.plan-index in
    let plan : Plan = get_or qs i empty_plan in
    let known = walked_known c.loop-plan.invariant plan c.loop-plan-test.true refl
    (sym c.spans_from.ensures ∙ c.if-not-spans_from.false) in
    omega (arith, c.loop-plan.invariant.short, known)

pub loop-plan-preserved : goal.loop-plan-preserved
loop-plan-preserved c =
    let qs = c.args.plans.now in
    let i = c.loop-plan.plan-index in
    let plan : Plan = get_or qs i empty_plan in
    let byte : plan.cause < 256 = search rules in
    let new = not-true _ (sym c.insert.ensures.told ∙ c.if-not-insert.false) in
    rw c.insert.ensures.added
    (walked_more c.loop-plan.invariant plan c.loop-plan-test.true refl
    (sym c.spans_from.ensures ∙ c.if-not-spans_from.false) byte new)

pub returns-then-start-end : goal.returns-then-start-end
returns-then-start-end c =
    let w = c.loop-plan.invariant in
    let tested : c.all.result ≡ list_all plan_empty c.args.unused.now =
    all_from_yields_List plan_empty _ _ c.all.result c.all.ensures.ran (YieldsList-from_slice c.args.unused.now cc)
    (λ x b q k. search (rules, tests)) in
    rw (walked_spans w c.loop-plan-test.false ∙ eq-eqb _ _ c.if-start-end.true, walked_apart w c.loop-plan-test.false)
    (tested ∙ list_all-every plan_empty c.args.unused.now)

pub returns-else-start-end : goal.returns-else-start-end
returns-else-start-end c =
    let none = ne_eqb c.loop-plan.start c.args.end c.if-start-end.false in
    none ∙ sym (rw (walked_spans c.loop-plan.invariant c.loop-plan-test.false ∙ none))
