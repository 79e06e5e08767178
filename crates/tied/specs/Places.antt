-- Where the notation's table has a field, and what is read there: of scripts, of playbooks and of shares.
use Rattle.std.specs.Prelude.{ℕ, ◌+◌, List, [], ◌∷◌, eqb}
use Rattle.answer.specs.Ask.{pick}
use Rattle.lists.specs.Bytes.{field, byte_at}
use Rattle.flow.specs.Rules.{rule_of}
use Rattle.flow.specs.declared.Rule.{Rule}
use Rattle.playbook.specs.Books.{Trigger}
use Rattle.playbook.specs.declared.Change.{Change}
use Rattle.rehearsal.specs.Records.{naming}
use Rattle.rehearsal.specs.declared.Kind.{Kind}
use Rattle.rehearsal.specs.declared.Kind.TheVariants.{Decide, Send, Report, Raw, Keep, Deliver}
use Rattle.rehearsal.specs.declared.Record.{Record}
use Rattle.notation.specs.Fields.{width_of}
use Rattle.notation.specs.Kinds.{plan_kind, change_kind, decide_kind, send_kind, report_kind, raw_kind, keep_kind}
use Rattle.notation.specs.Kinds.{deliver_kind, fields_of}
use Rattle.notation.specs.declared.fields.Field.{Field}
use Rattle.notation.specs.declared.fields.Field.TheVariants as fields

-- a number for each field, by which two are compared
abbrev number : Field → ℕ
number fields.Flow = 1
number fields.Switch = 2
number fields.Cause = 3
number fields.Controller = 4
number fields.Place = 5
number fields.Serial = 6
number fields.Number = 7
number fields.Rule = 8
number fields.Message = 9
number fields.Tag = 10

-- where a field begins among fields of which the first begins at a place; past them all where it is none of them
unfoldable pub place_among : Field → ℕ → List Field → ℕ
place_among f at [] = at
place_among f at (g ∷ gs) = pick (eqb (number f) (number g)) at (place_among f (at + width_of g) gs)

-- where a field begins in a record or in a share: the kind has one byte
abbrev pub place_of : ℕ → Field → ℕ
place_of kind f = place_among f 1 (fields_of kind)

-- the byte of a field in the bytes of a record
abbrev byte_in : ℕ → List ℕ → Field → ℕ
byte_in kind s f = byte_at s (place_of kind f)

-- a rule from a place on: prefix, length and port
abbrev pub rule_at : List ℕ → ℕ → Rule
rule_at s at = rule_of (field s at 4) (byte_at s (at + 4)) (field s (at + 5) 2)

-- the bytes of a rule
abbrev pub rule_width : ℕ
rule_width = 4 + 1 + 2

-- what a record of a script names, each field at the notation's place
abbrev pub script_read : Kind → List ℕ → Record
script_read Decide s = record {
  kind = Decide;
  controller = byte_in decide_kind s fields.Controller;
  switch = byte_in decide_kind s fields.Switch;
  place = 0;
  serial = field s (place_of decide_kind fields.Serial) (width_of fields.Serial);
  cause = byte_in decide_kind s fields.Cause;
}
script_read Send s = naming Send (byte_in send_kind s fields.Controller) (byte_in send_kind s fields.Switch) 0
script_read Report s = naming Report (byte_in report_kind s fields.Controller) (byte_in report_kind s fields.Switch) 0
script_read Raw s = naming Raw 0 (byte_in raw_kind s fields.Switch) 0
script_read Keep s =
    naming Keep (byte_in keep_kind s fields.Controller) (byte_in keep_kind s fields.Switch) (byte_in keep_kind s fields.Place)
script_read Deliver s = naming Deliver 0 0 (byte_in deliver_kind s fields.Place)

-- what opens a plan of a playbook, and a change of it, each field at the notation's place
abbrev pub plan_read : List ℕ → Trigger
plan_read s = (byte_in plan_kind s fields.Switch, byte_in plan_kind s fields.Cause)

abbrev pub change_read : List ℕ → Change
change_read s = record {
  flow = byte_in change_kind s fields.Flow;
  switch = byte_in change_kind s fields.Switch;
  rule = rule_at s (place_of change_kind fields.Rule);
}
