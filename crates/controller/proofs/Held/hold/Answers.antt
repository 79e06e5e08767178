-- `hold` meets its contract. The loop's invariant: the changes before have numbers, and those that are not done are
-- held after the undone ones. Assumes nothing.
use mathlib.Core.Path.{◌≡◌, sym, ap, ◌∙◌}
use Prim.Native.Nat.{ℕ, ◌+◌}
use native.Mathlib.Omega.{arith}
use lib.ListN.{take, get_or, length-take}
use Rattle.answer.specs.Ask.{pick}
use Rattle.playbook.specs.Books.{empty_change}
use Rattle.controller.specs.Changes.{undone_in, is_undone, numbered, numbered_from}
use Rattle.controller.specs.Moving.{with_change}
use Rattle.controller.proofs.Numbering.{given-length}
use Rattle.controller.proofs.Places.{held_none, held_few, held_turn, numbered_none, numbered_turn}
use Rattle.controller.proofs.Held.hold.Goals.{then-is_undone, else-is_undone}
use Rattle.controller.proofs.Held.hold.Goals as goal

pub loop-change-init : goal.loop-change-init
loop-change-init c = record {
  numbers = omega arith;
  held = rw numbered_none (c.requires.0 ∙ held_none c.args.acknowledged.now (undone_in c.args.self.now));
}

pub push-requires : goal.push-requires
push-requires c =
    let first = take c.loop-change.change-index c.args.plan.now in
    omega (
      arith,
      c.requires.1,
      held_few c.args.acknowledged.now (undone_in c.args.self.now) (numbered_from (c.args.last + 1) (c.args.last + 1) first)
          c.loop-change.invariant.held,
      given-length (c.args.last + 1) (c.args.last + 1) first,
      length-take c.loop-change.change-index c.args.plan.now,
      length-take c.args.self.now.count c.args.self.now.changes,
    )

pub loop-change-preserved : goal.loop-change-preserved
loop-change-preserved c =
    let i = c.loop-change.change-index in
    let number = c.args.last + 1 in
    let change = get_or c.args.plan.now i empty_change in
    let u = numbered number (c.loop-change.number + 1) change in
    let turned :
    c.if-is_undone.self ≡ pick (is_undone c.args.acknowledged.now u) (with_change c.loop-change.self u) c.loop-change.self =
    let undone : is_undone c.args.acknowledged.now u ≡ c.is_undone.result =
    ap (is_undone c.args.acknowledged.now) (sym c.of-u.ensures) ∙ sym c.is_undone.ensures in
    elim c.if-is_undone.branch [
      | then-is_undone w ↦ w.self-is ∙ w.push.ensures ∙ rw (undone ∙ w.if-is_undone.true, c.of-u.ensures)
      | else-is_undone w ↦ w.self-is ∙ rw (undone ∙ w.if-is_undone.false)
    ] in
    let next : c.loop-change.number + 1 ≡ number + i = omega arith in
    let more =
    numbered_turn number number c.args.plan.now i empty_change (omega arith)
    (ap (λ (k : ℕ). numbered number k change) next) in
    record {
      numbers = omega arith;
      held = held_turn c.args.acknowledged.now (undone_in c.args.self.now) _ c.loop-change.invariant.held _ more turned;
    }
