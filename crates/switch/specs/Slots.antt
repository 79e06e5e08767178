-- Slots, the controllers that agree, and the quorum (document 01, "Switch end"). Assumes nothing.
use Rattle.std.specs.Prelude.{ℕ, ◌+◌, ◌-◌, ◌*◌, ◌/◌, Bool, ◌&&◌, ◌||◌, List, [], ◌∷◌, ltb, leb, eqb}
use Rattle.std.specs.Int.Count.{ones}
use Rattle.answer.specs.Ask.{pick}
use Rattle.lists.specs.Counts.{places}
use Rattle.flow.specs.Rules.{same_rule, empty_rule}
use Rattle.flow.specs.declared.Rule.{Rule}
use Rattle.switch.specs.declared.Slot.{Slot}

-- how many of n controllers have to agree: floor((n - 1) / 3) + 1
abbrev pub quorum_of : ℕ → ℕ
quorum_of n = (n - 1) / 3 + 1

-- a share's number and rule, as a slot holds them: where a controller is known, its share is this value
abbrev pub slot_for : ℕ → Rule → Slot
slot_for number rule = record { number = number; rule = rule }

-- number 0 marks an empty slot, which is all zero
abbrev pub empty_slot : Slot
empty_slot = slot_for 0 empty_rule

-- whether a slot holds this share: the one comparison of what slots hold
abbrev pub holds : Slot → Slot → Bool
holds share slot = eqb slot.number share.number && same_rule slot.rule share.rule

abbrev pub slot_empty : Slot → Bool
slot_empty slot = holds empty_slot slot

-- empty, or with a number above the last applied one
abbrev pub slot_ok : ℕ → Slot → Bool
slot_ok last slot = ltb last slot.number || slot_empty slot

-- the set of controllers whose slots hold this share: controller c at bit c
unfoldable pub agreeing : Slot → List Slot → ℕ
agreeing share [] = 0
agreeing share (slot ∷ slots) = agreeing share slots * 2 + pick (holds share slot) 1 0

-- its ones are counted: as many as n controllers need, or more
abbrev pub is_quorum : ℕ → Slot → List Slot → Bool
is_quorum n share slots = leb (quorum_of n) (ones (agreeing share slots))

-- a slot with this number or a lower one is emptied
abbrev pub emptied : ℕ → Slot → Slot
emptied number slot = pick (leb slot.number number) empty_slot slot

-- the controllers whose slots hold this share, as a list
abbrev pub controllers : Slot → List Slot → List ℕ
controllers share slots = places (holds share) 0 slots
