-- What inner functions and laws say of places in a list; no contract of a public function cites it.
use Rattle.std.specs.Prelude.{ℕ, suc, List, [], ◌∷◌, ◌++◌, take, drop}

-- e put in at a place, and the element at a place taken out
abbrev pub put : {A : Type 0} → ℕ → A → List A → List A
put at e es = take at es ++ e ∷ drop at es

abbrev pub del : {A : Type 0} → ℕ → List A → List A
del at es = take at es ++ drop (suc at) es

-- the last of some numbers, or the given one where there are none
unfoldable pub last_of : ℕ → List ℕ → ℕ
last_of last [] = last
last_of last (k ∷ ks) = last_of k ks
