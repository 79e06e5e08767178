-- The fields of records and messages, and how many bytes each has (document 01, "Bytes" and "Rehearsal program").
use Rattle.std.specs.Prelude.{ℕ, ◌+◌, ◌-◌, List, [], ◌∷◌, Option, Some, None, eqb}
use Rattle.answer.specs.Ask.{pick}
use Rattle.tag.specs.Tags.{tag_length}
use Rattle.message.specs.Layout.{share_length}
use Rattle.notation.specs.declared.fields.Field.{Field}
use Rattle.notation.specs.declared.fields.Field.TheVariants as fields

-- the field at a place from 0, none past the last
unfoldable pub field_at : List Field → ℕ → Option Field
field_at [] i = None
field_at (f ∷ fs) i = pick (eqb i 0) (Some f) (field_at fs (i - 1))

-- bytes of a field
abbrev pub width_of : Field → ℕ
width_of fields.Flow = 1
width_of fields.Switch = 1
width_of fields.Cause = 1
width_of fields.Controller = 1
width_of fields.Place = 1
width_of fields.Serial = 4
width_of fields.Number = 4
width_of fields.Rule = 7
width_of fields.Message = share_length
width_of fields.Tag = tag_length

-- bytes of several
unfoldable pub widths : List Field → ℕ
widths [] = 0
widths (f ∷ fs) = width_of f + widths fs
