-- `measure` meets its contract: the bytes of a rule follow those of the rules before it.
use mathlib.Core.Path.{refl}
use native.Mathlib.Omega.{arith}
use Rattle.switch.specs.Slots.{empty_slot}
use Rattle.feed.specs.Mods.{mods_of}
use Rattle.feed.proofs.Putting.{next_measured}
use Rattle.feed.proofs.mods.measure.Goals as goal

pub loop-slot-init : goal.loop-slot-init
unfolding mods_of
loop-slot-init c = refl

pub overflow_add-total : goal.overflow_add-total
overflow_add-total c =
    let turn = next_measured c.args.rules.now c.loop-slot.invariant (omega arith) empty_slot c.length_of-total.ensures in
    omega (arith, turn.0)

pub loop-slot-preserved : goal.loop-slot-preserved
loop-slot-preserved c =
    (next_measured c.args.rules.now c.loop-slot.invariant (omega arith) empty_slot c.length_of-total.ensures).1
