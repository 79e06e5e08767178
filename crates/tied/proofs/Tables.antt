-- The tables of records agree: sizes for every byte, kinds and places of fields for every kind. All by computation, so
-- that a size, a kind or a field that moves in one place only is refused here.
use Prim.Native.Nat.{ℕ, ◌+◌}
use mathlib.Core.Path.{◌≡◌, refl}
use mathlib.Core.Bool.{true}
use mathlib.Core.List.{List, map}
use Rattle.message.specs.Layout as layout
use Rattle.playbook.specs.Limits as playbook
use Rattle.playbook.specs.Records as playbooks
use Rattle.rehearsal.specs.Records as scripts
use Rattle.rehearsal.specs.declared.Kind.{Kind}
use Rattle.rehearsal.specs.declared.Kind.TheVariants.{Decide, Send, Report, Raw, Keep, Deliver}
use Rattle.notation.specs.Fields.{width_of, widths}
use Rattle.notation.specs.Kinds as notation
use Rattle.notation.specs.declared.fields.Field.TheVariants as fields
use Rattle.tied.specs.Sizes.{from, every_byte, size_read, byte_of}
use Rattle.tied.specs.Places.{place_among, place_of, rule_width, script_read, plan_read, change_read}

-- every record has the size that its reader gives it, and no other byte begins a record
pub sizes : map notation.record_size every_byte ≡ map size_read every_byte
unfolding from notation.record_size notation.of_kind widths scripts.is_kind
sizes = refl

-- the kinds of a playbook, and those of a script
pub record PlaybookKinds : Type 0 where
  pub plan : notation.plan_kind ≡ playbook.plan_kind
  pub change : notation.change_kind ≡ playbook.change_kind
  pub end : notation.end_kind ≡ playbook.end_kind

pub playbook-kinds : PlaybookKinds
playbook-kinds = record { plan = refl; change = refl; end = refl }

pub script_kinds : (k : Kind) → (scripts.is_kind (byte_of k) ≡ true) × (scripts.kind_of (byte_of k) ≡ k)
unfolding scripts.is_kind
script_kinds Decide = (refl, refl)
script_kinds Send = (refl, refl)
script_kinds Report = (refl, refl)
script_kinds Raw = (refl, refl)
script_kinds Keep = (refl, refl)
script_kinds Deliver = (refl, refl)

-- the fields of scripts and of playbooks stand where they are read
pub script_fields : (k : Kind) (s : List ℕ) → scripts.record_of k s ≡ script_read k s
unfolding place_among notation.fields_of notation.of_kind
script_fields Decide s = refl
script_fields Send s = refl
script_fields Report s = refl
script_fields Raw s = refl
script_fields Keep s = refl
script_fields Deliver s = refl

pub playbook-fields : (s : List ℕ) → (playbooks.trigger_at s ≡ plan_read s) × (playbooks.change_of s ≡ change_read s)
unfolding place_among notation.fields_of notation.of_kind
playbook-fields s = (refl, refl)

-- the fields of a share stand where the messages' layout has them, and fill it
pub record ShareFields : Type 0 where
  pub kind : layout.kind_at ≡ 0
  pub controller : place_of layout.share_kind fields.Controller ≡ layout.sender_at
  pub switch : place_of layout.share_kind fields.Switch ≡ layout.receiver_at
  pub number : place_of layout.share_kind fields.Number ≡ layout.number_at
  pub prefix : place_of layout.share_kind fields.Rule ≡ layout.prefix_at
  pub length : layout.prefix_at + 4 ≡ layout.length_at
  pub port : layout.prefix_at + 5 ≡ layout.port_at
  pub tag : place_of layout.share_kind fields.Tag ≡ layout.share_body
  pub rule : width_of fields.Rule ≡ rule_width
  pub whole : 1 + widths (notation.fields_of layout.share_kind) ≡ layout.share_length

pub share-fields : ShareFields
unfolding place_among notation.fields_of notation.of_kind widths
share-fields = record {
  kind = refl;
  controller = refl;
  switch = refl;
  number = refl;
  prefix = refl;
  length = refl;
  port = refl;
  tag = refl;
  rule = refl;
  whole = refl;
}
