-- What bytes are read as at an end, and the check of their tag (document 01, "Bytes" and questions 10, 11 and 14).
use Rattle.std.specs.Prelude.{ℕ, ◌-◌, Bool, ◌&&◌, ◌||◌, List, [], ◌∷◌, length, take, drop, leb, eqb}
use Rattle.answer.specs.Ask.{Numbered, pick, reply}
use Rattle.lists.specs.Bytes.{byte_at}
use Rattle.flow.specs.Rules.{port_of}
use Rattle.tag.specs.Tags.{tag_length, is_tag}
use Rattle.message.specs.Layout.{event_kind, share_kind, acknowledgement_kind, kind_at}
use Rattle.message.specs.Layout.{event_length, share_length, acknowledgement_length}
use Rattle.message.specs.Events.{event_of}
use Rattle.message.specs.Shares.{share_of}
use Rattle.message.specs.Acknowledgements.{acknowledgement_of}
use Rattle.message.specs.declared.End.{End}
use Rattle.message.specs.declared.End.TheVariants.{Switch, Controller}
use Rattle.message.specs.declared.Message.{Message}
use Rattle.message.specs.declared.Message.TheVariants.{Event, Share, Acknowledgement, Refused}

-- questions 10 and 11 at each end: a switch expects a share, a controller an event or an acknowledgement
unfoldable pub decode : End → List ℕ → Message
decode Switch s =
    reply ((10, eqb (length s) share_length) ∷ (11, eqb (byte_at s kind_at) share_kind) ∷ []) Refused (share_of s)
decode Controller s =
    let is_event = eqb (length s) event_length in
    reply
    ((10, is_event || eqb (length s) acknowledgement_length)
    ∷ (11, eqb (byte_at s kind_at) (pick is_event event_kind acknowledgement_kind)) ∷ [])
    Refused
    (pick is_event (event_of s) (acknowledgement_of s))

-- document 01's number of each case, 0 for a message that was read, and its values in the order of its bytes
abbrev pub message_said : Message → Numbered
message_said (Event s c n x) = (0, s ∷ c ∷ n ∷ x ∷ [])
message_said (Share c s n r) = (0, c ∷ s ∷ n ∷ r.prefix ∷ r.length ∷ port_of r.action ∷ [])
message_said (Acknowledgement s c n) = (0, s ∷ c ∷ n ∷ [])
message_said (Refused k) = (k, [])

abbrev pub number_of : Message → ℕ
number_of m = (message_said m).0

-- question 14: the last bytes are the tag of all bytes before them
unfoldable pub is_sealed : List ℕ → List ℕ → Bool
is_sealed key s =
    let body = length s - tag_length in
    leb tag_length (length s) && is_tag key (take body s) (drop body s)
