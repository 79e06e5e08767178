-- What a chain of iterators gives, in this repository's words. Assumes nothing.
use mathlib.Core.Path.{◌≡◌, refl, ap}
use mathlib.Core.Bool.{Bool, ◌&&◌}
use mathlib.Core.List.{List, [], ◌∷◌}
use Rattle.std.specs.List.{list_all}
use Rattle.lists.specs.Arrays.{every}

pub list_all-every : {A : Type 0} (f : A → Bool) (l : List A) → list_all f l ≡ every f l
unfolding every
list_all-every f [] = refl
list_all-every f (x ∷ l) = ap (λ b. f x && b) (list_all-every f l)
