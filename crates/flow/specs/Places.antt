-- What the functions below `apply` say: the place of a key in the order, and whether its entry stands there. No contract
-- of a public function cites it.
use Rattle.std.specs.Prelude.{ℕ, suc, Bool, false, List, [], ◌∷◌, drop, Result, Ok, Err}
use Rattle.answer.specs.Ask.{pick}
use Rattle.flow.specs.Rules.{Key, entry_key, before, same_key}
use Rattle.flow.specs.declared.Entry.{Entry}

-- how many entries stand before a key
unfoldable pub place_of : Key → List Entry → ℕ
place_of k [] = 0
place_of k (e ∷ es) = pick (before (entry_key e) k) (suc (place_of k es)) 0

-- whether the first entry is the one of a key, and the one at a place
abbrev pub heads : Key → List Entry → Bool
heads k [] = false
heads k (e ∷ es) = same_key (entry_key e) k

abbrev pub present_at : ℕ → Key → List Entry → Bool
present_at at k es = heads k (drop at es)

-- where a search finds the entry of a key, or where it belongs
abbrev pub searched : Key → List Entry → Result ℕ ℕ
searched k es = pick (present_at (place_of k es) k es) (Ok (place_of k es)) (Err (place_of k es))
