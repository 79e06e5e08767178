-- The records of a playbook in their bytes (document 01, "Bytes").
use Rattle.std.specs.Prelude.{ℕ, Bool, ◌||◌, List, eqb}
use Rattle.answer.specs.Ask.{pick}
use Rattle.lists.specs.Bytes.{field, byte_at}
use Rattle.flow.specs.Rules.{rule_of}
use Rattle.playbook.specs.Limits.{plan_kind, change_kind, end_kind, plan_size, change_size, end_size}
use Rattle.playbook.specs.Books.{Trigger}
use Rattle.playbook.specs.declared.Change.{Change}

-- the trigger in the bytes of a plan record
abbrev pub trigger_at : List ℕ → Trigger
trigger_at s = (byte_at s 1, byte_at s 2)

-- the change in the bytes of a change record
abbrev pub change_of : List ℕ → Change
change_of s = record {
  flow = byte_at s 1;
  switch = byte_at s 2;
  rule = rule_of (field s 3 4) (byte_at s 7) (field s 8 2);
}

abbrev pub is_kind : ℕ → Bool
is_kind kind = eqb kind plan_kind || eqb kind change_kind || eqb kind end_kind

-- one of three by a kind: for a plan, for a change, for an end record
abbrev pub by_kind : {A : Type 0} → ℕ → A → A → A → A
by_kind kind plan change end = pick (eqb kind plan_kind) plan (pick (eqb kind change_kind) change end)

abbrev pub size_of : ℕ → ℕ
size_of kind = by_kind kind plan_size change_size end_size
