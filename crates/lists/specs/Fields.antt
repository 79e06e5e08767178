-- A layout of bytes as a table of fields, one after another: each has its width in bytes and its number.
use Rattle.std.specs.Prelude.{ℕ, ◌+◌, List, [], ◌∷◌, ◌++◌}
use Rattle.lists.specs.Bytes.{be}

-- a field: its width, and its number
abbrev pub Field : Type 0
Field = ℕ × ℕ

-- the bytes of fields
unfoldable pub laid_out : List Field → List ℕ
laid_out [] = []
laid_out (f ∷ fs) = be f.0 f.1 ++ laid_out fs

-- how many bytes these are
abbrev pub width_of : List Field → ℕ
width_of [] = 0
width_of (f ∷ fs) = f.0 + width_of fs
