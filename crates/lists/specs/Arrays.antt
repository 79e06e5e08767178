-- Lists that fill arrays, and tests of every element. Assumes nothing.
use Rattle.std.specs.Prelude.{ℕ, zero, suc, Bool, true, ◌&&◌, List, [], ◌∷◌}

-- an array of n places that begins with l, as far as it has room, and has z in the places past it
unfoldable pub pad : {A : Type 0} → ℕ → A → List A → List A
pad zero z l = []
pad (suc n) z [] = z ∷ pad n z []
pad (suc n) z (x ∷ xs) = x ∷ pad n z xs

-- whether a test holds of every element
unfoldable pub every : {A : Type 0} → (A → Bool) → List A → Bool
every f [] = true
every f (x ∷ xs) = f x && every f xs

-- whether a test holds of a list and of each list that is left as its elements are taken off
unfoldable pub every_tail : {A : Type 0} → (List A → Bool) → List A → Bool
every_tail f [] = true
every_tail f (x ∷ xs) = f (x ∷ xs) && every_tail f xs

-- a test of the first element, passed where there is none
abbrev pub on_head : {A : Type 0} → (A → Bool) → List A → Bool
on_head f [] = true
on_head f (x ∷ xs) = f x
