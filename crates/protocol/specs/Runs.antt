-- Runs of calls, whatever a state, a call and a step are: the state after a list of calls, what holds of every call, a
-- moment of a list, and rounds. Assumes nothing.
use Rattle.std.specs.Prelude.{◌≡◌, List, [], ◌∷◌, ◌++◌, ◌⊎◌, ℕ, zero, suc}

module _ {State Call : Type 0} (step : State → Call → State) where
  -- the state after a list of calls, each finding the state that the last one left
  abbrev pub run : State → List Call → State
  run r [] = r
  run r (x ∷ xs) = run (step r x) xs

  -- P holds of each call and the state that it finds
  abbrev pub Every : (State → Call → Type 0) → State → List Call → Type 0
  Every P r [] = Unit {0}
  Every P r (x ∷ xs) = P r x × Every P (step r x) xs

  -- at some moment of a list of calls, P holds of the state then and of the calls still to come
  abbrev pub Sometime : (State → List Call → Type 0) → State → List Call → Type 0
  Sometime P r [] = P r []
  Sometime P r (x ∷ xs) = P r (x ∷ xs) ⊎ Sometime P (step r x) xs

  -- k rounds, one after the other, with any calls before, between and after them
  abbrev pub Rounds : (State → List Call → Type 0) → ℕ → State → List Call → Type 0
  Rounds Round zero r calls = Unit {0}
  Rounds Round (suc k) r calls =
      (gap : List Call) × (round : List Call) × (rest : List Call)
      × (calls ≡ gap ++ (round ++ rest))
      × Round (run r gap) round
      × Rounds Round k (run (run r gap) round) rest
