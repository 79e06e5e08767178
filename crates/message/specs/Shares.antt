-- A share in its bytes (document 01, "Bytes"): kind, controller, switch, number and rule.
use Rattle.std.specs.Prelude.{ℕ, List, ◌∷◌, ◌++◌}
use Rattle.lists.specs.Bytes.{be, field, byte_at}
use Rattle.flow.specs.Rules.{rule_of, port_of}
use Rattle.flow.specs.declared.Rule.{Rule}
use Rattle.message.specs.Layout.{share_kind, sender_at, receiver_at, number_at, prefix_at, length_at, port_at}
use Rattle.message.specs.declared.Message.{Message}
use Rattle.message.specs.declared.Message.TheVariants.{Share}

-- the share that bytes are
abbrev pub share_of : List ℕ → Message
share_of s =
    Share (byte_at s sender_at) (byte_at s receiver_at) (field s number_at 4)
    (rule_of (field s prefix_at 4) (byte_at s length_at) (field s port_at 2))

-- the bytes of a share before its tag
abbrev pub share_bytes : ℕ → ℕ → ℕ → Rule → List ℕ
share_bytes controller switch number r =
    share_kind ∷ controller ∷ switch ∷ be 4 number ++ be 4 r.prefix ++ r.length ∷ be 2 (port_of r.action)
