-- What all crates say their answers with: a choice by a Bool, and the first question whose answer is no.
-- Assumes nothing.
use Rattle.std.specs.Prelude.{ℕ, Bool, true, false, List, [], ◌∷◌}

-- the first where the test passes, else the second
abbrev pub pick : {A : Type 0} → Bool → A → A → A
pick true a b = a
pick false a b = b

-- what a case of an answer says: document 01's number, and the values that come with it
abbrev pub Numbered : Type 0
Numbered = ℕ × List ℕ

-- a question's number, and whether its answer is yes
abbrev pub Question : Type 0
Question = ℕ × Bool

-- the refusal by the number of the first question whose answer is no, or what follows where every answer is yes
-- (document 01, "The questions, in order")
unfoldable pub reply : {A : Type 0} → List Question → (ℕ → A) → A → A
reply [] refusal next = next
reply (q ∷ qs) refusal next = pick q.1 (reply qs refusal next) (refusal q.0)

-- the number of the first question whose answer is no, or 0
abbrev pub first_no : List Question → ℕ
first_no qs = reply qs (λ k. k) 0
