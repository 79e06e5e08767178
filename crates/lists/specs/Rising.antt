-- Numbers that rise, each above the one before it. Assumes nothing.
use Rattle.std.specs.Prelude.{ℕ, Bool, true, ◌&&◌, List, [], ◌∷◌, ltb}

-- whether each number is above the one before it, and the first above a given one
unfoldable pub rising_from : ℕ → List ℕ → Bool
rising_from last [] = true
rising_from last (k ∷ ks) = ltb last k && rising_from k ks
