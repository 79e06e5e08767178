-- Numbers sorted, and the numbers up to one.
use Rattle.std.specs.Prelude.{ℕ, zero, suc, List, [], ◌∷◌, ltb}
use Rattle.answer.specs.Ask.{pick}

-- a number put in front of the first that is not above it
unfoldable pub insert : ℕ → List ℕ → List ℕ
insert k [] = k ∷ []
insert k (j ∷ js) = pick (ltb k j) (j ∷ insert k js) (k ∷ j ∷ js)

-- the numbers of a list, the highest first
unfoldable pub falling : List ℕ → List ℕ
falling [] = []
falling (k ∷ ks) = insert k (falling ks)

-- the numbers from k down to 1
unfoldable pub up_to : ℕ → List ℕ
up_to zero = []
up_to (suc k) = suc k ∷ up_to k
