-- The sizes of records as the readers of playbooks and scripts have them, and the bytes of a script's kinds.
use Rattle.std.specs.Prelude.{ℕ, zero, suc, ◌+◌, List, [], ◌∷◌}
use Rattle.answer.specs.Ask.{pick}
use Rattle.playbook.specs.Records as playbook
use Rattle.rehearsal.specs.Records as rehearsal
use Rattle.rehearsal.specs.declared.Kind.{Kind}
use Rattle.rehearsal.specs.declared.Kind.TheVariants.{Decide, Send, Report, Raw, Keep, Deliver}
use Rattle.notation.specs.Kinds as notation

-- so many numbers from one on
unfoldable pub from : ℕ → ℕ → List ℕ
from k zero = []
from k (suc n) = k ∷ from (k + 1) n

-- every byte
abbrev pub every_byte : List ℕ
every_byte = from 0 256

-- the size that a reader gives the records that begin with a byte; 0 where there are none
abbrev pub size_read : ℕ → ℕ
size_read byte =
    pick (playbook.is_kind byte) (playbook.size_of byte)
    (pick (rehearsal.is_kind byte) (rehearsal.size_of (rehearsal.kind_of byte)) 0)

-- the notation's byte of each kind of script records
abbrev pub byte_of : Kind → ℕ
byte_of Decide = notation.decide_kind
byte_of Send = notation.send_kind
byte_of Report = notation.report_kind
byte_of Raw = notation.raw_kind
byte_of Keep = notation.keep_kind
byte_of Deliver = notation.deliver_kind
