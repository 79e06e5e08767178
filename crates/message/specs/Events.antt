-- An event in its bytes (document 01, "Bytes"): kind, switch, controller, serial and cause.
use Rattle.std.specs.Prelude.{ℕ, List, [], ◌∷◌, ◌++◌}
use Rattle.lists.specs.Bytes.{be, field, byte_at}
use Rattle.message.specs.Layout.{event_kind, sender_at, receiver_at, number_at, cause_at}
use Rattle.message.specs.declared.Message.{Message}
use Rattle.message.specs.declared.Message.TheVariants.{Event}

-- the event that bytes are
abbrev pub event_of : List ℕ → Message
event_of s = Event (byte_at s sender_at) (byte_at s receiver_at) (field s number_at 4) (byte_at s cause_at)

-- the bytes of an event before its tag
abbrev pub event_bytes : ℕ → ℕ → ℕ → ℕ → List ℕ
event_bytes switch controller serial cause = event_kind ∷ switch ∷ controller ∷ be 4 serial ++ cause ∷ []
