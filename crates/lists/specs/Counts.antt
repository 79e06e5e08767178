-- The elements of a list that pass a test, how many these are, and at which places they stand. Assumes nothing.
use Rattle.std.specs.Prelude.{ℕ, suc, Bool, List, [], ◌∷◌}
use Rattle.answer.specs.Ask.{pick}

module _ {A : Type 0} (f : A → Bool) where
  -- the elements that pass, in their order
  unfoldable pub passing : List A → List A
  passing [] = []
  passing (x ∷ xs) = pick (f x) (x ∷ passing xs) (passing xs)

  -- how many pass
  unfoldable pub count : List A → ℕ
  count [] = 0
  count (x ∷ xs) = pick (f x) (suc (count xs)) (count xs)

  -- the places of the elements that pass, the first place being i
  unfoldable pub places : ℕ → List A → List ℕ
  places i [] = []
  places i (x ∷ xs) = pick (f x) (i ∷ places (suc i) xs) (places (suc i) xs)
