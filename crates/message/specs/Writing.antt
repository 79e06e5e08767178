-- The bytes of a message, and a frame with a message written at an offset (document 01, "Bytes" and questions 15, 25
-- and 26).
use Rattle.std.specs.Prelude.{ℕ, Bool, true, List, [], ◌∷◌, ◌++◌, length, ltb}
use Rattle.answer.specs.Ask.{pick, reply}
use Rattle.lists.specs.Frames.{room_at, placed}
use Rattle.flow.specs.Rules.{port_ok}
use Rattle.tag.specs.Tags.{tag_of}
use Rattle.message.specs.Layout.{event_length, share_length, acknowledgement_length}
use Rattle.message.specs.Events.{event_bytes}
use Rattle.message.specs.Shares.{share_bytes}
use Rattle.message.specs.Acknowledgements.{acknowledgement_bytes}
use Rattle.message.specs.declared.Message.{Message}
use Rattle.message.specs.declared.Message.TheVariants.{Event, Share, Acknowledgement, Refused}

-- the bytes before the tag, kind by kind
abbrev pub body_of : Message → List ℕ
body_of (Event s c n x) = event_bytes s c n x
body_of (Share c s n r) = share_bytes c s n r
body_of (Acknowledgement s c n) = acknowledgement_bytes s c n
body_of (Refused k) = []

-- how many bytes a message has, its tag among them; a refusal has none
abbrev pub length_of : Message → ℕ
length_of (Event s c n x) = event_length
length_of (Share c s n r) = share_length
length_of (Acknowledgement s c n) = acknowledgement_length
length_of (Refused k) = 0

-- a message, and no refusal
abbrev pub is_message : Message → Bool
is_message m = ltb 0 (length_of m)

-- bytes and then their tag
abbrev pub sealed : List ℕ → List ℕ → List ℕ
sealed key b = b ++ tag_of key b

-- all bytes of a message
abbrev pub encode : List ℕ → Message → List ℕ
encode key m = pick (is_message m) (sealed key (body_of m)) []

-- no rule in it sets port 0, which no bytes say
abbrev pub port_said : Message → Bool
port_said (Event s c n x) = true
port_said (Share c s n r) = port_ok r.action
port_said (Acknowledgement s c n) = true
port_said (Refused k) = true

-- writing at an offset: the answer, and the frame afterwards; a refused writing leaves it as it was
abbrev pub write_to : List ℕ → Message → List ℕ → ℕ → ℕ × List ℕ
write_to key m frame at =
    reply ((15, port_said m) ∷ (25, room_at (length frame) at (length_of m)) ∷ (26, is_message m) ∷ [])
    (λ k. (k, frame))
    (0, placed (encode key m) frame at)
