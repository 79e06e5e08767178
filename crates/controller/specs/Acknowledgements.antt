-- An acknowledgement and an event, over the state and their fields (document 01, "Controller end" and the questions of
-- a received message). Assumes nothing.
use Rattle.std.specs.Prelude.{ℕ, [], ◌∷◌, get_or, set, ltb, Option, Some, None}
use Rattle.answer.specs.Ask.{Numbered, pick, reply}
use Rattle.controller.specs.Changes.{undone_in, held_of, still_undone}
use Rattle.controller.specs.States.{unchanged, progressed}
use Rattle.controller.specs.declared.Controller.{Controller}
use Rattle.controller.specs.declared.Event.{Event}
use Rattle.controller.specs.declared.Progress.{Progress}
use Rattle.controller.specs.declared.Reply.{Reply}

-- the highest number that a switch acknowledged, and the last decided serial of it
abbrev pub acknowledged_of : Controller → ℕ → ℕ
acknowledged_of c s = get_or c.progress.acknowledged s 0

abbrev pub serial_of : Controller → ℕ → ℕ
serial_of c s = get_or c.progress.serials s 0

-- the number acknowledged; changes that are done now are dropped
abbrev pub acknowledging : Progress → ℕ → ℕ → Progress
acknowledging p s number = record {
  acknowledged = set p.acknowledged s number;
  serials = p.serials;
  last = p.last;
  undone = held_of (still_undone (set p.acknowledged s number) (undone_in p.undone));
}

abbrev pub acknowledge : Controller → ℕ → ℕ → Controller
acknowledge c s number = progressed c (acknowledging c.progress s number)

-- an acknowledgement that is not above the acknowledged number is a repeat
abbrev pub take_acknowledgement : Controller → ℕ → ℕ → Reply
take_acknowledgement c s number =
    pick (ltb (acknowledged_of c s) number) (unchanged (acknowledge c s number) 0) (unchanged c 2)

abbrev pub event_of : ℕ → ℕ → ℕ → Event
event_of s serial cause = record { switch = s; serial = serial; cause = cause }

-- document 01's number of what is offered, and its values: an event's switch, serial and cause, or nothing
abbrev pub offer_said : Option Event → Numbered
offer_said None = (0, [])
offer_said (Some e) = (0, e.switch ∷ e.serial ∷ e.cause ∷ [])

-- an event is offered, and the state stays
abbrev pub offers : Controller → ℕ → ℕ → ℕ → Reply
offers c s serial cause = record { answer = 0; offer = Some (event_of s serial cause); state = c }

abbrev pub take_event : Controller → ℕ → ℕ → ℕ → Reply
take_event c s serial cause = reply ((22, ltb (serial_of c s) serial) ∷ []) (unchanged c) (offers c s serial cause)
