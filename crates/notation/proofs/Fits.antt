-- Every record fits a line of bytes.
use Prim.Native.Nat.{◌+◌}
use mathlib.Core.Path.{◌≡◌, refl}
use mathlib.Core.Bool.{Bool, true}
use lib.Dec.{leb}
use Rattle.lists.specs.Arrays.{every}
use Rattle.notation.specs.Limits.{line_limit}
use Rattle.notation.specs.Fields.{widths}
use Rattle.notation.specs.Kinds.{Row, records}

-- what a row needs
abbrev fits : Row → Bool
fits r = leb (1 + widths r.fields) line_limit

pub all_fit : every fits records ≡ true
unfolding every widths
all_fit = refl
