-- `still_undone` meets its contract. The loop's invariant: those of the changes before that are not done are held.
-- Assumes nothing.
use mathlib.Core.Path.{◌≡◌, sym, ◌∙◌}
use mathlib.Core.List.{[]}
use native.Mathlib.Omega.{arith}
use lib.ListN.{take, get_or, length-take}
use Rattle.answer.specs.Ask.{pick}
use Rattle.lists.proofs.Stores.{take_next}
use Rattle.controller.specs.Changes.{empty_undone, is_undone}
use Rattle.controller.specs.Moving.{with_change}
use Rattle.controller.proofs.Places.{held_none, held_few, held_turn}
use Rattle.controller.proofs.Held.still_undone.Goals.{then-is_undone, else-is_undone}
use Rattle.controller.proofs.Held.still_undone.Goals as goal

pub loop-u-init : goal.loop-u-init
loop-u-init c = c.none-left.ensures ∙ held_none c.args.acknowledged.now []

pub push-requires : goal.push-requires
push-requires c =
    let us = c.in_use-changes.result.now in
    let few = held_few c.args.acknowledged.now [] (take c.loop-u.u-index us) c.loop-u.invariant in
    omega (arith, few, length-take c.loop-u.u-index us)

pub loop-u-preserved : goal.loop-u-preserved
loop-u-preserved c =
    let us = c.in_use-changes.result.now in
    let u = get_or us c.loop-u.u-index empty_undone in
    let turned : c.if-is_undone.left ≡ pick (is_undone c.args.acknowledged.now u) (with_change c.loop-u.left u) c.loop-u.left =
    let undone = c.is_undone.ensures in
    elim c.if-is_undone.branch [
      | then-is_undone w ↦ w.left-is ∙ w.push.ensures ∙ rw (sym undone ∙ w.if-is_undone.true)
      | else-is_undone w ↦ w.left-is ∙ rw (sym undone ∙ w.if-is_undone.false)
    ] in
    let more = take_next us c.loop-u.u-index empty_undone (omega arith) in
    held_turn c.args.acknowledged.now [] (take c.loop-u.u-index us) c.loop-u.invariant _ more turned
