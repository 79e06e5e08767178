-- Turns of a loop: the sum that answers are mixed into, and what so many turns make of what they find.
use Rattle.std.specs.Prelude.{ℕ, zero, suc, ◌+◌, ◌*◌, ◌%◌, ◌^◌}

-- a sum with a number mixed into it
abbrev pub mixed : ℕ → ℕ → ℕ
mixed sum x = sum % 2 ^ 40 * 31 + x

-- what so many turns make of something; each is told how many came before it
unfoldable pub turned : {A : Type 0} → (ℕ → A → A) → ℕ → A → A
turned turn zero a = a
turned turn (suc k) a = turn k (turned turn k a)
