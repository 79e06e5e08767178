-- A share taken, over the state, the sender and the share's number and rule, which are one value (document 01, "Switch
-- end" and questions 15 to 19).
use Rattle.std.specs.Prelude.{ℕ, Bool, not, ◌||◌, List, [], ◌∷◌, map, get_or, set, ltb, leb, eqb}
use Rattle.answer.specs.Ask.{Question, pick, reply}
use Rattle.flow.specs.Rules.{well_formed}
use Rattle.flow.specs.Tables.{entries_of}
use Rattle.flow.specs.Changes.{changed, room_for}
use Rattle.switch.specs.Slots.{empty_slot, holds, is_quorum, emptied}
use Rattle.switch.specs.States.{unchanged, with_shares}
use Rattle.switch.specs.declared.Reply.{Reply}
use Rattle.switch.specs.declared.Slot.{Slot}
use Rattle.switch.specs.declared.Switch.{Switch}

-- the slot of a controller
abbrev pub slot_of : Switch → ℕ → Slot
slot_of s c = get_or s.slots c empty_slot

-- where the number is the slot's, the slot holds the share
abbrev pub keeps_rule : Slot → Slot → Bool
keeps_rule slot share = not (eqb slot.number share.number) || holds share slot

-- the questions of a share, of the state and the sender's slot
abbrev pub share_questions : Switch → Slot → Slot → List Question
share_questions s slot share =
    (15, well_formed share.rule)
    ∷ (16, ltb s.last share.number)
    ∷ (17, leb slot.number share.number)
    ∷ (18, keeps_rule slot share)
    ∷ (19, room_for share.rule (entries_of s.table))
    ∷ []

-- the share in its sender's slot
abbrev pub stored : Switch → ℕ → Slot → Switch
stored s c share = with_shares s s.last s.table (set s.slots c share)

-- the rule applied: the share's number is the last applied one, and all slots with it or a lower one are emptied
abbrev pub applied : Switch → Slot → Switch
applied s share =
    with_shares s share.number (changed share.rule s.table) (map (emptied share.number) s.slots)

-- a stored share counted: applied at the quorum, else held
abbrev pub counted : Switch → Slot → Reply
counted s share = pick (is_quorum s.n share s.slots) (unchanged (applied s share) 1) (unchanged s 0)

-- a share after all questions: equal to the slot a repeat, else stored and counted
abbrev pub accepted : Switch → ℕ → Slot → Reply
accepted s c share = pick (holds share (slot_of s c)) (unchanged s 2) (counted (stored s c share) share)

unfoldable pub take_share : Switch → ℕ → Slot → Reply
take_share s c share = reply (share_questions s (slot_of s c) share) (unchanged s) (accepted s c share)
