-- Members of a list under a test of equality `eq`, and how many different ones there are. Assumes nothing.
use Rattle.std.specs.Prelude.{ℕ, suc, Bool, true, false, not, ◌&&◌, ◌||◌, List, [], ◌∷◌, eqb}
use Rattle.answer.specs.Ask.{pick}

module _ {A : Type 0} (eq : A → A → Bool) where
  -- whether some member of the list is x
  unfoldable pub among : A → List A → Bool
  among x [] = false
  among x (y ∷ ys) = eq y x || among x ys

  -- whether no member stands twice
  unfoldable pub different : List A → Bool
  different [] = true
  different (x ∷ xs) = not (among x xs) && different xs

  -- how many different members the list has
  unfoldable pub kinds : List A → ℕ
  kinds [] = 0
  kinds (x ∷ xs) = pick (among x xs) (kinds xs) (suc (kinds xs))

-- whether a number is among some
abbrev pub is_among : ℕ → List ℕ → Bool
is_among k ks = among eqb k ks
