-- Families indexed by numbers: one with another value at an index, and how many indexes below a bound pass a test.
-- Assumes nothing.
use Rattle.std.specs.Prelude.{ℕ, zero, suc, Bool, eqb}
use Rattle.answer.specs.Ask.{pick}

-- the family with v at index i
unfoldable pub upd : {A : Type 0} → (ℕ → A) → ℕ → A → ℕ → A
upd f i v j = pick (eqb i j) v (f j)

-- how many of the indexes below n pass
unfoldable pub count_below : ℕ → (ℕ → Bool) → ℕ
count_below zero p = 0
count_below (suc n) p = pick (p n) (suc (count_below n p)) (count_below n p)
