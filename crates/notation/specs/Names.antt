-- The names of records and of fields (docs/NOTATION.md), and the kind that a word names.
use Rattle.std.specs.Prelude.{ℕ, List, [], ◌∷◌, Option, Some, None}
use Rattle.answer.specs.Ask.{pick}
use Rattle.lists.specs.Bytes.{equal}
use Rattle.notation.specs.Text.{bytes_of}
use Rattle.notation.specs.Kinds.{Row, records, of_kind}
use Rattle.notation.specs.declared.fields.Field.{Field}
use Rattle.notation.specs.declared.fields.Field.TheVariants as fields
use Rattle.notation.specs.declared.kinds.Kind.{Kind}

-- the name of a kind of records; none where no record has this kind
unfoldable pub kind_name : ℕ → List ℕ
kind_name kind = of_kind kind records [] (λ r. r.name)

-- the name of a field that is a number; none of another
abbrev pub field_name : Field → Option (List ℕ)
field_name fields.Flow = Some (bytes_of "flow")
field_name fields.Switch = Some (bytes_of "switch")
field_name fields.Cause = Some (bytes_of "cause")
field_name fields.Controller = Some (bytes_of "controller")
field_name fields.Place = Some (bytes_of "place")
field_name fields.Serial = Some (bytes_of "serial")
field_name fields.Number = Some (bytes_of "number")
field_name fields.Rule = None
field_name fields.Message = None
field_name fields.Tag = None

-- the kind of the first of these rows that has a name, if one has
unfoldable pub named_in : List Row → List ℕ → Option Kind
named_in [] word = None
named_in (r ∷ rs) word = pick (equal word r.name) (Some r.kind) (named_in rs word)

-- the kind whose records have a name, if one has
abbrev pub kind_named : List ℕ → Option Kind
kind_named word = named_in records word
