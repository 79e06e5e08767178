-- `agreeing_set` meets its contract. The loop's invariant: the set of the slots before that agree. Assumes nothing.
use mathlib.Core.Path.{refl, sym, ap, ◌∙◌}
use Prim.Native.Nat.{ℕ, ◌*◌, ◌%◌, ◌^◌}
use native.Mathlib.Omega.{arith}
use lib.Bits.{bit_or}
use Rattle.switch.specs.Slots.{empty_slot, agreeing}
use Rattle.switch.proofs.Bits.{one_more, no_more}
use Rattle.switch.proofs.slots.agreeing_set.Goals.{then-holds, else-holds}
use Rattle.switch.proofs.slots.agreeing_set.Goals as goal

pub loop-c-init : goal.loop-c-init
unfolding agreeing
loop-c-init c = refl

pub loop-c-preserved : goal.loop-c-preserved
loop-c-preserved c =
    let a = c.args in
    let i = c.loop-c.c in
    elim c.if-holds.branch [
      | then-holds w ↦
          w.set-is
          ∙ ap (λ (n : ℕ). bit_or n (1 * 2 ^ i % 65536)) c.loop-c.invariant
          ∙ one_more a.share.now a.slots.now i empty_slot (omega arith) (omega arith) (sym c.holds.ensures ∙ w.if-holds.true)
      | else-holds w ↦
          w.set-is ∙ c.loop-c.invariant
          ∙ no_more a.share.now a.slots.now i empty_slot (omega arith) (sym c.holds.ensures ∙ w.if-holds.false)
    ]
