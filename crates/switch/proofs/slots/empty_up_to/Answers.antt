-- `empty_up_to` meets its contract. The loop's invariant: the first slots are emptied, and the others are as they were.
-- Assumes nothing.
use mathlib.Core.Path.{◌≡◌, ap, ◌∙◌}
use native.Mathlib.Omega.{arith}
use mathlib.Core.List.{List}
use lib.ListN.{get_or, set}
use lib.Seq.{set-get_or}
use Rattle.switch.specs.Slots.{empty_slot}
use Rattle.switch.specs.declared.Slot.{Slot}
use Rattle.switch.proofs.Emptied.{untouched, low, high}
use Rattle.switch.proofs.slots.empty_up_to.Goals.{then-slot-number, else-slot-number}
use Rattle.switch.proofs.slots.empty_up_to.Goals as goal

pub loop-slot-preserved : goal.loop-slot-preserved
loop-slot-preserved c =
    let a = c.args in
    let i = c.loop-slot.slot-index in
    let same : get_or c.loop-slot.slots i empty_slot ≡ get_or a.slots.now i empty_slot =
    rw c.loop-slot.invariant (untouched a.number a.slots.now i (omega arith)) in
    let number = ap (λ (slot : Slot). slot.number) same in
    let now = c.loop-slot.invariant in
    elim c.if-slot-number.branch [
      | then-slot-number w ↦
          w.slots-is ∙ ap (λ (l : List Slot). set l i empty_slot) now ∙ low a.number a.slots.now i (omega arith) (omega arith)
      | else-slot-number w ↦
          w.slots-is ∙ set-get_or c.loop-slot.slots i empty_slot ∙ now ∙ high a.number a.slots.now i (omega arith) (omega arith)
    ]
