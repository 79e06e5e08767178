-- Words as bytes.
use Rattle.std.specs.Prelude.{ℕ, List, [], ◌∷◌}
use Prim.Native.Char.{code}
use Prim.Native.String.{String, [] as no-letter, ◌∷◌ as ◌before◌}

-- the bytes of a text: the code of each letter
abbrev pub bytes_of : String → List ℕ
bytes_of no-letter = []
bytes_of (letter before others) = code letter ∷ bytes_of others
