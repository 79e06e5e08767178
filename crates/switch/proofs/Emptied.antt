-- Slots emptied from the first on: a turn of the loop. Assumes nothing.
use mathlib.Core.Path.{◌≡◌, sym, ◌∙◌}
use mathlib.Core.List.{List, ◌++◌, map}
use Prim.Native.Nat.{ℕ, suc, ◌+◌, ◌≤◌, ◌<◌}
use native.Mathlib.Omega.{arith}
use lib.ListN.{length, take, drop, get_or, set, length-map, get_or-map}
use lib.Seq.{drop-cons, get_or_at, set-get_or, length-take-le}
use borrow.Author.Tests.{le-leb, lt-leb}
use Rattle.lists.proofs.Stores.{store}
use Rattle.switch.specs.Slots.{empty_slot, emptied}
use Rattle.switch.specs.declared.Slot.{Slot}

-- the slots when the first i have been emptied
abbrev pub emptied_to : ℕ → ℕ → List Slot → List Slot
emptied_to number i slots = take i (map (emptied number) slots) ++ drop i slots

module _ (number : ℕ) where
  module _ (slots : List Slot) (i : ℕ) (inside : i < length slots) where
    -- the slot at hand is as it was
    pub untouched : get_or (emptied_to number i slots) i empty_slot ≡ get_or slots i empty_slot
    untouched =
        let made = map (emptied number) slots in
        let few : i ≤ length made = simp length-map (omega arith) in
        rw (drop-cons slots i empty_slot inside)
        (get_or_at (take i made) (get_or slots i empty_slot) (drop (suc i) slots) empty_slot i (length-take-le i made few))

    stored : (slot : Slot) → emptied number (get_or slots i empty_slot) ≡ slot
        → set (emptied_to number i slots) i slot ≡ emptied_to number (i + 1) slots
    stored slot e =
        store (map (emptied number) slots) slots i slot _ (simp length-map (omega arith)) inside
        (get_or-map (emptied number) slots i empty_slot ∙ e)

    -- a slot with this number or a lower one is emptied, another stays
    pub low : (get_or slots i empty_slot).number ≤ number
        → set (emptied_to number i slots) i empty_slot ≡ emptied_to number (i + 1) slots
    low h = stored empty_slot (rw (le-leb _ _ h))

    pub high : number < (get_or slots i empty_slot).number
        → emptied_to number i slots ≡ emptied_to number (i + 1) slots
    high h =
        sym (set-get_or (emptied_to number i slots) i empty_slot) ∙ rw untouched (stored _ (rw (lt-leb _ _ h)))
