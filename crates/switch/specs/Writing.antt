-- Messages written by a switch at an offset of a frame (document 01, "Switch end" and questions 12, 25 and 26).
-- Assumes nothing.
use Rattle.std.specs.Prelude.{ℕ, Bool, true, List, [], ◌∷◌, ◌++◌, length, ltb}
use Rattle.answer.specs.Ask.{Question, reply}
use Rattle.lists.specs.Frames.{room_at, placed}
use Rattle.message.specs.Keys.{key_at}
use Rattle.message.specs.Writing.{encode, length_of}
use Rattle.message.specs.declared.Message.{Message}
use Rattle.message.specs.declared.Message.TheVariants.{Event, Acknowledgement}
use Rattle.switch.specs.States.{unchanged, state_questions}
use Rattle.switch.specs.declared.Reply.{Reply}
use Rattle.switch.specs.declared.Switch.{Switch}

-- the messages that a switch writes
pub data Kind : Type 0 where
  event : Kind
  acknowledgement : Kind

-- the current event and acknowledgement for a controller
abbrev pub event_for : Switch → ℕ → Message
event_for s c = Event s.id c s.raised.serial s.raised.cause

abbrev pub acknowledgement_for : Switch → ℕ → Message
acknowledgement_for s c = Acknowledgement s.id c s.last

abbrev pub message_for : Kind → Switch → ℕ → Message
message_for event s c = event_for s c
message_for acknowledgement s c = acknowledgement_for s c

-- whether there is one to send: an event once one was raised, an acknowledgement always
abbrev pub is_there : Kind → Switch → Bool
is_there event s = ltb 0 s.raised.serial
is_there acknowledgement s = true

-- the questions of a message for a controller: after 20 and 21 its receiver, its room, and whether there is one to send
abbrev pub write_questions : Switch → List ℕ → ℕ → Message → Bool → List ℕ → ℕ → List Question
write_questions s keys c m there frame at =
    state_questions s (length keys)
    ++ (12, ltb c s.n)
    ∷ (25, room_at (length frame) at (length_of m))
    ∷ (26, there)
    ∷ []

-- a message written for a controller: the reply, and the frame afterwards
unfoldable pub written : Switch → List ℕ → ℕ → Message → Bool → List ℕ → ℕ → Reply × List ℕ
written s keys c m there frame at =
    reply (write_questions s keys c m there frame at) (λ k. (unchanged s k, frame))
    (unchanged s 0, placed (encode (key_at keys c) m) frame at)

-- the current message of a kind
abbrev pub message_written : Kind → Switch → List ℕ → ℕ → List ℕ → ℕ → Reply × List ℕ
message_written kind s keys c frame at = written s keys c (message_for kind s c) (is_there kind s) frame at

abbrev pub event_written : Switch → List ℕ → ℕ → List ℕ → ℕ → Reply × List ℕ
event_written = message_written event

abbrev pub acknowledgement_written : Switch → List ℕ → ℕ → List ℕ → ℕ → Reply × List ℕ
acknowledgement_written = message_written acknowledgement
