-- How much the notation takes (docs/NOTATION.md).
use Rattle.std.specs.Prelude.{ℕ}

-- the most bytes of an input, of its text, and of a line of bytes
abbrev pub input_limit : ℕ
input_limit = 16384

abbrev pub text_limit : ℕ
text_limit = 1048576

abbrev pub line_limit : ℕ
line_limit = 64
