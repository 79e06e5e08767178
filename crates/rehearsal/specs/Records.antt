-- The records of a script in their bytes (document 01, "Rehearsal program").
use Rattle.std.specs.Prelude.{ℕ, ◌≡◌, ◌+◌, Bool, ◌||◌, true, false, List, [], ◌∷◌, Result, Ok, Err, MatchResult, length, leb, ltb, eqb}
use Rattle.answer.specs.Ask.{Numbered, pick, Question, reply}
use Rattle.lists.specs.Bytes.{field, byte_at}
use Rattle.message.specs.Layout.{share_length}
use Rattle.rehearsal.specs.declared.Kind.{Kind}
use Rattle.rehearsal.specs.declared.Kind.TheVariants.{Decide, Send, Report, Raw, Keep, Deliver}
use Rattle.rehearsal.specs.declared.Record.{Record}

-- the byte that a record of a kind begins with
abbrev pub byte_of : Kind → ℕ
byte_of Decide = 0x21
byte_of Send = 0x22
byte_of Report = 0x23
byte_of Raw = 0x24
byte_of Keep = 0x25
byte_of Deliver = 0x26

-- whether a byte is one of these, and the kind with this byte
unfoldable pub is_kind : ℕ → Bool
is_kind byte =
    eqb byte (byte_of Decide)
    || eqb byte (byte_of Send)
    || eqb byte (byte_of Report)
    || eqb byte (byte_of Raw)
    || eqb byte (byte_of Keep)
    || eqb byte (byte_of Deliver)

abbrev pub kind_of : ℕ → Kind
kind_of byte =
    pick (eqb byte (byte_of Decide)) Decide
    (pick (eqb byte (byte_of Send)) Send
    (pick (eqb byte (byte_of Report)) Report
    (pick (eqb byte (byte_of Raw)) Raw (pick (eqb byte (byte_of Keep)) Keep Deliver))))

-- what is read of a byte: the kind with it, or question 31 where there is none
abbrev pub ReadsKind : ℕ → Result Kind ℕ → Type 0
ReadsKind byte r =
    MatchResult r (λ kind. (is_kind byte ≡ true) × (kind ≡ kind_of byte))
    (λ q. (is_kind byte ≡ false) × (q ≡ 31))

-- bytes of a record, its kind among them
abbrev pub size_of : Kind → ℕ
size_of Decide = 8
size_of Send = 3
size_of Report = 3
size_of Raw = 2 + share_length
size_of Keep = 4
size_of Deliver = 2

-- a record that names a controller, a switch and a place
abbrev pub naming : Kind → ℕ → ℕ → ℕ → Record
naming kind c s p = record { kind = kind; controller = c; switch = s; place = p; serial = 0; cause = 0 }

-- what a record of a kind names; 0 for what the kind has not
abbrev pub record_of : Kind → List ℕ → Record
record_of Decide b = record {
  kind = Decide;
  controller = byte_at b 1;
  switch = byte_at b 2;
  place = 0;
  serial = field b 3 4;
  cause = byte_at b 7;
}
record_of Send b = naming Send (byte_at b 1) (byte_at b 2) 0
record_of Report b = naming Report (byte_at b 2) (byte_at b 1) 0
record_of Raw b = naming Raw 0 (byte_at b 1) 0
record_of Keep b = naming Keep (byte_at b 1) (byte_at b 2) (byte_at b 3)
record_of Deliver b = naming Deliver 0 0 (byte_at b 1)

-- what is asked of the bytes that a record is read from: is a byte left? Is it a kind? Is the record whole?
abbrev pub reading_questions : List ℕ → List Question
reading_questions b =
    (30, ltb 0 (length b))
    ∷ (31, is_kind (byte_at b 0))
    ∷ (30, leb (size_of (kind_of (byte_at b 0))) (length b))
    ∷ []

-- the record at the front of bytes
unfoldable pub record_at : List ℕ → Result Record ℕ
record_at b = reply (reading_questions b) Err (Ok (record_of (kind_of (byte_at b 0)) b))

-- what is read, as document 01's number and values: a record's are its kind's byte and what it names
abbrev pub next_said : Result Record ℕ → Numbered
next_said (Err q) = (q, [])
next_said (Ok r) =
    (0, byte_of r.kind ∷ r.controller ∷ r.switch ∷ r.place ∷ r.serial ∷ r.cause ∷ [])
