-- The set of the slots that agree as bits: how many bits hold it, and a turn of the loop that makes it. Assumes
-- nothing.
use mathlib.Core.Path.{◌≡◌, refl, sym, ap, ◌∙◌}
use mathlib.Core.List.{List, [], ◌∷◌, ◌++◌}
use mathlib.Core.Bool.{Bool, true, false}
use Prim.Native.Nat.{ℕ, zero, suc, ◌+◌, ◌*◌, ◌/◌, ◌%◌, ◌^◌, ◌≤◌, ◌<◌}
use native.Mathlib.Nat.{pow-suc, pow-zero}
use native.Mathlib.Omega.{arith}
use lib.Bits.{bit_or}
use lib.ListN.{length, take, get_or}
use lib.Pow.{pow_pos}
use lib.Seq.{length-take-le}
use Rattle.std.proofs.Math.Nat.{div-eq_of_lt}
use Rattle.std.proofs.lemmas.Nat.{or_disjoint}
use Rattle.std.proofs.lemmas.Nat.Bits.{and_pow}
use Rattle.std.proofs.lemmas.Grind.{one_shifted}
use Rattle.answer.specs.Ask.{pick}
use Rattle.answer.proofs.Bools.{by_bool}
use Rattle.lists.proofs.Stores.{take_next}
use Rattle.switch.specs.Slots.{holds, agreeing}
use Rattle.switch.specs.declared.Slot.{Slot}

bit_small : (x y : ℕ) (b : Bool) → x < y → x * 2 + pick b 1 0 < y * 2
bit_small x y true h = omega arith
bit_small x y false h = omega arith

-- a bit above all others
bit_above : (n k : ℕ) → n < 2 ^ k → bit_or n (2 ^ k) ≡ n + 2 ^ k
bit_above n k h =
    let none : n / 2 ^ k ≡ 0 = div-eq_of_lt h in
    or_disjoint n (2 ^ k) (and_pow n k ∙ rw none (omega arith))

module _ (share : Slot) where
  -- k bits hold the set of at most k slots
  agreeing_small : (slots : List Slot) (k : ℕ) → length slots ≤ k → agreeing share slots < 2 ^ k
  unfolding agreeing
  agreeing_small [] k h = pow_pos k
  agreeing_small (slot ∷ slots) zero h = absurd (omega arith)
  agreeing_small (slot ∷ slots) (suc k) h =
      rw (pow-suc 2 k)
      (bit_small (agreeing share slots) (2 ^ k) (holds share slot) (agreeing_small slots k (omega arith)))

  -- one more slot at the end
  agreeing_snoc : (slots : List Slot) (slot : Slot)
      → agreeing share (slots ++ slot ∷ []) ≡ agreeing share slots + pick (holds share slot) (2 ^ length slots) 0
  unfolding agreeing
  agreeing_snoc [] slot = rw pow-zero (by_bool (holds share slot) (λ e. rw e) (λ e. rw e))
  agreeing_snoc (s ∷ slots) slot =
      let more = agreeing_snoc slots slot in
      by_bool (holds share slot)
      (λ e. rw (more, e, pow-suc 2 (length slots)) (omega arith))
      (λ e. rw (more, e) (omega arith))

  module _ (slots : List Slot) (c : ℕ) (z : Slot) (inside : c < length slots) where
    turn : agreeing share (take (c + 1) slots)
        ≡ agreeing share (take c slots) + pick (holds share (get_or slots c z)) (2 ^ c) 0
    turn =
        let n : length (take c slots) ≡ c = length-take-le c slots (omega arith) in
        ap (agreeing share) (take_next slots c z inside) ∙ agreeing_snoc (take c slots) (get_or slots c z) ∙ rw n

    pub one_more : length slots ≤ 16 → holds share (get_or slots c z) ≡ true
        → bit_or (agreeing share (take c slots)) (1 * 2 ^ c % 65536) ≡ agreeing share (take (c + 1) slots)
    one_more few h =
        let small = agreeing_small (take c slots) c (omega (arith, length-take-le c slots (omega arith))) in
        rw ((one_shifted c 65535 refl (omega arith)).0, turn, h) (bit_above (agreeing share (take c slots)) c small)

    pub no_more : holds share (get_or slots c z) ≡ false
        → agreeing share (take c slots) ≡ agreeing share (take (c + 1) slots)
    no_more h = sym (turn ∙ rw h (omega arith))
