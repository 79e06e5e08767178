-- An acknowledgement in its bytes (document 01, "Bytes"): kind, switch, controller and number.
use Rattle.std.specs.Prelude.{ℕ, List, ◌∷◌}
use Rattle.lists.specs.Bytes.{be, field, byte_at}
use Rattle.message.specs.Layout.{acknowledgement_kind, sender_at, receiver_at, number_at}
use Rattle.message.specs.declared.Message.{Message}
use Rattle.message.specs.declared.Message.TheVariants.{Acknowledgement}

-- the acknowledgement that bytes are
abbrev pub acknowledgement_of : List ℕ → Message
acknowledgement_of s = Acknowledgement (byte_at s sender_at) (byte_at s receiver_at) (field s number_at 4)

-- the bytes of an acknowledgement before its tag
abbrev pub acknowledgement_bytes : ℕ → ℕ → ℕ → List ℕ
acknowledgement_bytes switch controller number = acknowledgement_kind ∷ switch ∷ controller ∷ be 4 number
