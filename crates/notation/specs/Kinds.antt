-- The kinds of records: each with its name and its fields in their order, in one table (document 01, "Bytes" and
-- "Rehearsal program"); and the fields of a share, which is no record.
use Rattle.std.specs.Prelude.{◌≡◌, ℕ, ◌+◌, List, [], ◌∷◌, eqb, Option, Result, MatchResult}
use Prim.Native.String.{String}
use Rattle.answer.specs.Ask.{pick}
use Rattle.message.specs.Layout.{share_kind}
use Rattle.notation.specs.Text.{bytes_of}
use Rattle.notation.specs.Fields.{field_at, widths}
use Rattle.notation.specs.declared.fields.Field.{Field}
use Rattle.notation.specs.declared.fields.Field.TheVariants as fields
use Rattle.notation.specs.declared.kinds.Kind.{Kind}
use Rattle.notation.specs.declared.kinds.Kind.TheVariants.{Plan, Change, End, Decide, Send, Report, Raw, Keep, Deliver}
use Rattle.notation.specs.declared.kinds.UnknownKind.{UnknownKind}

-- the first byte of a record
abbrev pub plan_kind : ℕ
plan_kind = 0x11

abbrev pub change_kind : ℕ
change_kind = 0x12

abbrev pub end_kind : ℕ
end_kind = 0x13

abbrev pub decide_kind : ℕ
decide_kind = 0x21

abbrev pub send_kind : ℕ
send_kind = 0x22

abbrev pub report_kind : ℕ
report_kind = 0x23

abbrev pub raw_kind : ℕ
raw_kind = 0x24

abbrev pub keep_kind : ℕ
keep_kind = 0x25

abbrev pub deliver_kind : ℕ
deliver_kind = 0x26

abbrev pub byte_of : Kind → ℕ
byte_of Plan = plan_kind
byte_of Change = change_kind
byte_of End = end_kind
byte_of Decide = decide_kind
byte_of Send = send_kind
byte_of Report = report_kind
byte_of Raw = raw_kind
byte_of Keep = keep_kind
byte_of Deliver = deliver_kind

-- a row of the table: a kind, its name, and what follows the kind
pub record Row : Type 0 where
  pub kind : Kind
  pub name : List ℕ
  pub fields : List Field

abbrev row : Kind → String → List Field → Row
row kind name fs = record { kind = kind; name = bytes_of name; fields = fs }

abbrev pub records : List Row
records =
    row Plan "plan" (fields.Switch ∷ fields.Cause ∷ [])
    ∷ row Change "change" (fields.Flow ∷ fields.Switch ∷ fields.Rule ∷ [])
    ∷ row End "end" []
    ∷ row Decide "decide" (fields.Controller ∷ fields.Switch ∷ fields.Serial ∷ fields.Cause ∷ [])
    ∷ row Send "send" (fields.Controller ∷ fields.Switch ∷ [])
    ∷ row Report "report" (fields.Switch ∷ fields.Controller ∷ [])
    ∷ row Raw "raw" (fields.Switch ∷ fields.Message ∷ [])
    ∷ row Keep "keep" (fields.Controller ∷ fields.Switch ∷ fields.Place ∷ [])
    ∷ row Deliver "deliver" (fields.Place ∷ [])
    ∷ []

-- what the row of a kind says, or what is said where no record has this kind
unfoldable pub of_kind : {A : Type 0} → ℕ → List Row → A → (Row → A) → A
of_kind kind [] none said = none
of_kind kind (r ∷ rs) none said = pick (eqb kind (byte_of r.kind)) (said r) (of_kind kind rs none said)

-- bytes of a record, its kind among them; 0 where no record has this kind
unfoldable pub record_size : ℕ → ℕ
record_size kind = of_kind kind records 0 (λ r. 1 + widths r.fields)

-- what follows the kind of a share
abbrev pub share_fields : List Field
share_fields = fields.Controller ∷ fields.Switch ∷ fields.Number ∷ fields.Rule ∷ fields.Tag ∷ []

-- what follows the kind of a record or of a share
unfoldable pub fields_of : ℕ → List Field
fields_of kind = pick (eqb kind share_kind) share_fields (of_kind kind records [] (λ r. r.fields))

-- the field at a place behind the kind, none past the last
abbrev pub field_of : ℕ → ℕ → Option Field
field_of kind i = field_at (fields_of kind) i

-- a byte is that of the kind, or no record has a kind with this byte
abbrev pub Decodes : ℕ → Result Kind UnknownKind → Type 0
Decodes byte r = MatchResult r (λ kind. byte_of kind ≡ byte) (λ e. (e.0 ≡ byte) × (record_size byte ≡ 0))
