-- Bytes received at a controller (document 01, "The questions, in order"). Assumes nothing.
use Rattle.std.specs.Prelude.{ℕ, List, length}
use Rattle.answer.specs.Ask.{reply}
use Rattle.answer.specs.Limits.{switch_count}
use Rattle.message.specs.Reading.{decode}
use Rattle.message.specs.Senders.{sender_questions}
use Rattle.message.specs.declared.End.TheVariants as ends
use Rattle.message.specs.declared.Message.{Message}
use Rattle.message.specs.declared.Message.TheVariants.{Event, Share, Acknowledgement, Refused}
use Rattle.controller.specs.States.{unchanged, state_questions}
use Rattle.controller.specs.Acknowledgements.{take_event, take_acknowledgement}
use Rattle.controller.specs.declared.Controller.{Controller}
use Rattle.controller.specs.declared.Reply.{Reply}

-- what was read: an event or an acknowledgement, whose sender is one of the switches, or bytes refused with 10 or 11; no
-- share is read at a controller
abbrev pub arrived : Controller → List ℕ → List ℕ → Message → Reply
arrived c keys bytes (Event s to serial cause) =
    reply (sender_questions switch_count c.id keys bytes s to) (unchanged c) (take_event c s serial cause)
arrived c keys bytes (Acknowledgement s to number) =
    reply (sender_questions switch_count c.id keys bytes s to) (unchanged c) (take_acknowledgement c s number)
arrived c keys bytes (Refused k) = unchanged c k
arrived c keys bytes (Share from to number rule) = unchanged c 11

unfoldable pub received_by : Controller → List ℕ → List ℕ → Reply
received_by c keys bytes =
    reply (state_questions c (length keys)) (unchanged c) (arrived c keys bytes (decode ends.Controller bytes))
