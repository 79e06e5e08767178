-- How much a playbook may hold (document 01, "Bytes" and questions 36 and 37), and its records' kinds and sizes; all of
-- them stand here. Assumes nothing.
use Rattle.std.specs.Prelude.{ℕ, ◌+◌, ◌*◌}

abbrev pub max_plans : ℕ
max_plans = 64

abbrev pub max_changes : ℕ
max_changes = 512

abbrev pub max_of_plan : ℕ
max_of_plan = 32

-- different prefixes with lengths on one switch
abbrev pub max_keys : ℕ
max_keys = 64

-- kinds of records
abbrev pub plan_kind : ℕ
plan_kind = 0x11

abbrev pub change_kind : ℕ
change_kind = 0x12

abbrev pub end_kind : ℕ
end_kind = 0x13

-- bytes of a record, its kind among them
abbrev pub plan_size : ℕ
plan_size = 3

abbrev pub change_size : ℕ
change_size = 10

abbrev pub end_size : ℕ
end_size = 1

-- bytes of the longest playbook: 5,313
abbrev pub most_bytes : ℕ
most_bytes = plan_size * max_plans + change_size * max_changes + end_size
