-- `put_all` meets its contract: each FLOW_MOD is put behind those before it.
use native.Mathlib.Omega.{arith}
use Rattle.switch.specs.Slots.{empty_slot}
use Rattle.feed.proofs.Putting.{none_put, wrote-within, next-put, all_put}
use Rattle.feed.proofs.mods.put_all.Goals as goal

pub loop-slot-init : goal.loop-slot-init
loop-slot-init c = none_put c.args.rules.now c.requires.formed c.args.out.now c.requires.room

pub overflow_add-at : goal.overflow_add-at
overflow_add-at c =
    omega (
      arith,
      c.well_formed,
      wrote-within c.args.rules.now c.requires.formed c.args.out.now c.requires.room c.loop-slot.invariant (omega arith)
          empty_slot c.write_flow_mod-at.ensures,
    )

pub loop-slot-preserved : goal.loop-slot-preserved
loop-slot-preserved c =
    next-put c.args.rules.now c.requires.formed c.args.out.now c.requires.room c.loop-slot.invariant (omega arith)
    empty_slot c.write_flow_mod-at.ensures

pub returns : goal.returns
returns c =
    all_put c.args.rules.now c.requires.formed c.args.out.now c.requires.room c.loop-slot.invariant (omega arith)
