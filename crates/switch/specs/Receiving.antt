-- Bytes received at a switch (document 01, "The questions, in order"). Assumes nothing.
use Rattle.std.specs.Prelude.{ℕ, List, length}
use Rattle.answer.specs.Ask.{reply}
use Rattle.message.specs.Reading.{decode}
use Rattle.message.specs.Senders.{sender_questions}
use Rattle.message.specs.declared.End.TheVariants as ends
use Rattle.message.specs.declared.Message.{Message}
use Rattle.message.specs.declared.Message.TheVariants.{Event, Share, Acknowledgement, Refused}
use Rattle.switch.specs.Slots.{slot_for}
use Rattle.switch.specs.States.{unchanged, state_questions}
use Rattle.switch.specs.Shares.{take_share}
use Rattle.switch.specs.declared.Reply.{Reply}
use Rattle.switch.specs.declared.Switch.{Switch}

-- what was read: a share, whose sender is one of n controllers, or bytes refused with 10 or 11; no other kind is read
-- at a switch
abbrev pub arrived : Switch → List ℕ → List ℕ → Message → Reply
arrived s keys bytes (Share c to number rule) =
    reply (sender_questions s.n s.id keys bytes c to) (unchanged s) (take_share s c (slot_for number rule))
arrived s keys bytes (Refused k) = unchanged s k
arrived s keys bytes (Event from to serial cause) = unchanged s 11
arrived s keys bytes (Acknowledgement from to number) = unchanged s 11

unfoldable pub received_by : Switch → List ℕ → List ℕ → Reply
received_by s keys bytes =
    reply (state_questions s (length keys)) (unchanged s) (arrived s keys bytes (decode ends.Switch bytes))
