-- The state of a switch, its setup and its limits (document 01, "Switch end" and questions 20 and 21).
use Rattle.std.specs.Prelude.{ℕ, ◌*◌, Bool, ◌&&◌, List, [], ◌∷◌, replicate, take, drop, ltb, leb, eqb}
use Rattle.answer.specs.Ask.{Question, reply}
use Rattle.answer.specs.Limits.{switch_count, most_controllers}
use Rattle.lists.specs.Arrays.{every}
use Rattle.flow.specs.Tables.{table_of, table_ok}
use Rattle.flow.specs.declared.Table.{Table}
use Rattle.message.specs.Keys.{key_length}
use Rattle.switch.specs.Slots.{empty_slot, slot_empty, slot_ok}
use Rattle.switch.specs.declared.Raised.{Raised}
use Rattle.switch.specs.declared.Reply.{Reply}
use Rattle.switch.specs.declared.Slot.{Slot}
use Rattle.switch.specs.declared.Switch.{Switch}

-- an answer with the state as it went in
abbrev pub unchanged : Switch → ℕ → Reply
unchanged s k = record { answer = k; state = s }

-- a state with what a share moves in its place: the last applied number, the table and the slots
abbrev pub with_shares : Switch → ℕ → Table → List Slot → Switch
with_shares s last table slots = record {
  id = s.id;
  n = s.n;
  last = last;
  table = table;
  slots = slots;
  raised = s.raised;
}

-- a state with this event as the last raised one
abbrev pub with_raised : Switch → Raised → Switch
with_raised s raised = record {
  id = s.id;
  n = s.n;
  last = s.last;
  table = s.table;
  slots = s.slots;
  raised = raised;
}

-- n and the id in range
abbrev pub in_range : ℕ → ℕ → Bool
in_range id n = ltb id switch_count && leb 1 n && leb n most_controllers

-- a switch to which nothing has happened; all zero for id 0 and no controllers
abbrev pub fresh : ℕ → ℕ → Switch
fresh id n = record {
  id = id;
  n = n;
  last = 0;
  table = table_of [];
  slots = replicate most_controllers empty_slot;
  raised = record { serial = 0; cause = 0 };
}

abbrev pub setup_of : ℕ → ℕ → Reply
setup_of id n = reply ((20, in_range id n) ∷ []) (unchanged (fresh 0 0)) (unchanged (fresh id n) 0)

-- question 20: n and the id in range, the table within its limits, slots n and above empty, unused places zero, held
-- numbers above the last applied
unfoldable pub switch_ok : Switch → Bool
switch_ok s =
    in_range s.id s.n
    && table_ok s.table
    && every (slot_ok s.last) (take s.n s.slots)
    && every slot_empty (drop s.n s.slots)

-- questions 20 and 21 of a state and the length of its key store, before every call that uses tags
abbrev pub state_questions : Switch → ℕ → List Question
state_questions s stored = (20, switch_ok s) ∷ (21, eqb stored (key_length * s.n)) ∷ []
