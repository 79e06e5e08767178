-- How much a rehearsal takes and prints (document 01, "Rehearsal program").
use Rattle.std.specs.Prelude.{ℕ, ◌+◌, ◌*◌, ◌/◌}
use Rattle.playbook.specs.Limits.{most_bytes}

-- places for kept shares
abbrev pub place_count : ℕ
place_count = 64

-- bytes of the longest script
abbrev pub longest_script : ℕ
longest_script = 8192

-- the longest input: a byte n, a playbook and a script
abbrev pub longest_input : ℕ
longest_input = 1 + most_bytes + longest_script

-- no record is shorter than two bytes, so there are at most so many lines
abbrev pub most_lines : ℕ
most_lines = longest_script / 2

-- a line has three numbers of at most ten digits, each with a byte behind it
abbrev pub line_width : ℕ
line_width = 33

abbrev pub most_printed : ℕ
most_printed = most_lines * line_width
