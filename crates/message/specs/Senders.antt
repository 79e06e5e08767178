-- What is asked of the sender and the receiver that a received message names, at either end (document 01, "The
-- questions, in order"). Assumes nothing.
use Rattle.std.specs.Prelude.{ℕ, List, [], ◌∷◌, ltb, eqb}
use Rattle.answer.specs.Ask.{Question}
use Rattle.message.specs.Keys.{key_at}
use Rattle.message.specs.Reading.{is_sealed}

-- the sender one of the first `known`, the message for the end with this id, the tag right by the sender's key
abbrev pub sender_questions : ℕ → ℕ → List ℕ → List ℕ → ℕ → ℕ → List Question
sender_questions known id keys bytes sender receiver =
    (12, ltb sender known) ∷ (13, eqb receiver id) ∷ (14, is_sealed (key_at keys sender) bytes) ∷ []
