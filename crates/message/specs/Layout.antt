-- How a message lies in its bytes (document 01, "Bytes"): kinds, offsets of fields, and lengths; all of them stand
-- here. Assumes nothing.
use Rattle.std.specs.Prelude.{ℕ, ◌+◌}
use Rattle.tag.specs.Tags.{tag_length}

abbrev pub event_kind : ℕ
event_kind = 1

abbrev pub share_kind : ℕ
share_kind = 2

abbrev pub acknowledgement_kind : ℕ
acknowledgement_kind = 3

-- in every message: the kind, the sending end, the receiving end, and four bytes of serial or number
abbrev pub kind_at : ℕ
kind_at = 0

abbrev pub sender_at : ℕ
sender_at = 1

abbrev pub receiver_at : ℕ
receiver_at = 2

abbrev pub number_at : ℕ
number_at = 3

-- then in an event its cause, in a share its rule
abbrev pub cause_at : ℕ
cause_at = number_at + 4

abbrev pub prefix_at : ℕ
prefix_at = number_at + 4

abbrev pub length_at : ℕ
length_at = prefix_at + 4

abbrev pub port_at : ℕ
port_at = length_at + 1

-- the bytes before the tag
abbrev pub event_body : ℕ
event_body = cause_at + 1

abbrev pub share_body : ℕ
share_body = port_at + 2

abbrev pub acknowledgement_body : ℕ
acknowledgement_body = number_at + 4

-- all bytes, the tag among them
abbrev pub event_length : ℕ
event_length = event_body + tag_length

abbrev pub share_length : ℕ
share_length = share_body + tag_length

abbrev pub acknowledgement_length : ℕ
acknowledgement_length = acknowledgement_body + tag_length
