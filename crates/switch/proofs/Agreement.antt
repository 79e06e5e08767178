-- The set of those that agree: its ones are as many as the different controllers whose slots hold this share. Each slot
-- brings the set a one and the list of controllers a place, or neither. Assumes nothing.
use mathlib.Core.Path.{◌≡◌, refl, sym, ap, ◌∙◌}
use mathlib.Core.Bool.{Bool, true, false}
use mathlib.Core.List.{List, [], ◌∷◌}
use Prim.Native.Nat.{ℕ, suc, ◌+◌, ◌*◌, ◌≤◌, ◌<◌}
use native.Mathlib.Omega.{arith}
use lib.Count.{ones, ones_cat}
use lib.Dec.{eqb}
use lib.ListN.{length, get_or}
use borrow.Author.Tests.{eqb-true, eq-eqb}
use Rattle.answer.specs.Ask.{pick}
use Rattle.answer.proofs.Bools.{and_join, and_parts}
use Rattle.lists.specs.Counts.{count}
use Rattle.lists.specs.Kinds.{among, different}
use Rattle.lists.proofs.Counts.{count-few, length-places, places-different, place_passes, passing_place}
use Rattle.flow.proofs.Actions.{rule_sound, rule_mine}
use Rattle.switch.specs.Slots.{empty_slot, holds, agreeing, controllers}
use Rattle.switch.specs.declared.Slot.{Slot}

-- the count of ones is the number of different controllers whose slots hold this share: the list of these controllers is
-- as long, names none twice, names only such controllers, and names all of them
pub record Agreement (share : Slot) (slots : List Slot) : Type 0 where
  pub as_many : ones (agreeing share slots) ≡ length (controllers share slots)
  pub none_twice : different eqb (controllers share slots) ≡ true
  pub only_these : (c : ℕ) → among eqb c (controllers share slots) ≡ true
      → (c < length slots) × (get_or slots c empty_slot ≡ share)
  pub all_these : (c : ℕ) → c < length slots → get_or slots c empty_slot ≡ share
      → among eqb c (controllers share slots) ≡ true

one_more : (set : ℕ) (b : Bool) → ones (set * 2 + pick b 1 0) ≡ pick b (suc (ones set)) (ones set)
unfolding ones
one_more set true = ones_cat 1 set 1 (omega arith) ∙ omega arith
one_more set false = ones_cat 1 set 0 (omega arith) ∙ omega arith

module _ (share : Slot) where
  -- a slot that holds this share is this share, which holds itself
  pub holds_sound : (slot : Slot) → holds share slot ≡ true → slot ≡ share
  holds_sound slot h =
      let t = and_parts (eqb slot.number share.number) _ h in
      let n = eqb-true slot.number share.number t.0 in
      let r = rule_sound slot.rule share.rule t.1 in
      λ i. record { number = n i; rule = r i }

  pub holds_mine : holds share share ≡ true
  holds_mine =
      and_join (eqb share.number share.number) _ (eq-eqb share.number share.number refl)
      (rule_mine share.rule)

  -- the ones counted slot by slot, and by the list of controllers
  pub agreeing-count : (slots : List Slot) → ones (agreeing share slots) ≡ count (holds share) slots
  unfolding agreeing ones count
  agreeing-count [] = refl
  agreeing-count (slot ∷ slots) =
      one_more (agreeing share slots) (holds share slot) ∙ rw (agreeing-count slots)

  pub agreeing-controllers : (slots : List Slot)
      → ones (agreeing share slots) ≡ length (controllers share slots)
  agreeing-controllers slots = agreeing-count slots ∙ sym (length-places (holds share) 0 slots)

  pub agreement : (slots : List Slot) → Agreement share slots
  agreement slots = record {
    as_many = agreeing-controllers slots;
    none_twice = places-different (holds share) 0 slots;
    only_these = λ c h.
        let t = place_passes (holds share) c slots empty_slot h in
        (t.0, holds_sound (get_or slots c empty_slot) t.1);
    all_these = λ c h e.
        passing_place (holds share) c slots empty_slot h (ap (holds share) e ∙ holds_mine);
  }

  -- sixteen slots have at most sixteen that agree
  pub agreeing-few : (slots : List Slot) → length slots ≡ 16 → ones (agreeing share slots) ≤ 16
  agreeing-few slots h = omega (arith, agreeing-count slots, count-few (holds share) slots)
