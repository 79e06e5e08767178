-- Shares written by a controller at an offset of a frame (document 01, "Controller end" and questions 12, 25 and 26).
-- Assumes nothing.
use Rattle.std.specs.Prelude.{ℕ, List, [], ◌∷◌, ◌++◌, length, ltb, Option, Some, None}
use Rattle.answer.specs.Ask.{Question, reply}
use Rattle.answer.specs.Limits.{switch_count}
use Rattle.lists.specs.Frames.{room_at, placed}
use Rattle.message.specs.Keys.{key_at}
use Rattle.message.specs.Layout.{share_length}
use Rattle.message.specs.Writing.{encode, is_message}
use Rattle.message.specs.declared.Message.{Message}
use Rattle.message.specs.declared.Message.TheVariants.{Share, Refused}
use Rattle.controller.specs.States.{unchanged, state_questions}
use Rattle.controller.specs.Readiness.{ready_for}
use Rattle.controller.specs.declared.Controller.{Controller}
use Rattle.controller.specs.declared.Reply.{Reply}
use Rattle.controller.specs.declared.Undone.{Undone}

-- the share of a ready change for its switch, from the controller with an id; without one there is nothing to send
abbrev pub share_of : ℕ → ℕ → Option Undone → Message
share_of id s (Some u) = Share id s u.number u.rule
share_of id s None = Refused 26

-- the current share for a switch
abbrev pub share_for : Controller → ℕ → Message
share_for c s = share_of c.id s (ready_for c s)

-- the questions of a share for a switch: after 20 and 21 its receiver, its room, and whether a change is ready
abbrev pub write_questions : Controller → List ℕ → ℕ → List ℕ → ℕ → List Question
write_questions c keys s frame at =
    state_questions c (length keys)
    ++ (12, ltb s switch_count)
    ∷ (25, room_at (length frame) at share_length)
    ∷ (26, is_message (share_for c s))
    ∷ []

-- the current share written for a switch: the reply, and the frame afterwards
unfoldable pub share_written : Controller → List ℕ → ℕ → List ℕ → ℕ → Reply × List ℕ
share_written c keys s frame at =
    reply (write_questions c keys s frame at) (λ k. (unchanged c k, frame))
    (unchanged c 0, placed (encode (key_at keys s) (share_for c s)) frame at)
