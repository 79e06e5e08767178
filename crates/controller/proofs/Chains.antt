-- What a chain of iterators gives, in this repository's words: a test of every element, and the first that passes one.
-- Assumes nothing.
use mathlib.Core.Path.{◌≡◌, refl, ap, ◌∙◌}
use mathlib.Core.Bool.{Bool, ◌&&◌}
use mathlib.Core.List.{List, [], ◌∷◌}
use Rattle.std.proofs.Common.{Option, Some, None, option_map, option_copied}
use Rattle.std.specs.Option.{unwrap_or}
use Rattle.std.specs.List.{list_all, find}
use denote.Ref.{Bor}
use Rattle.answer.proofs.Bools.{by_bool}
use Rattle.lists.specs.Arrays.{every}
use Rattle.controller.specs.Awaiting.{first_with}
use Rattle.controller.specs.Changes.{empty_undone}
use Rattle.controller.specs.declared.Undone.{Undone}

pub list_all-every : {A : Type 0} (f : A → Bool) (l : List A) → list_all f l ≡ every f l
unfolding every
list_all-every f [] = refl
list_all-every f (x ∷ l) = ap (λ b. f x && b) (list_all-every f l)

read_lem : (o : Option (Bor Undone)) → option_copied o ≡ option_map (λ (x : Bor Undone). x.now) o
read_lem None = refl
read_lem (Some x) = refl

pub find-first_with : (f : Undone → Bool) (us : List Undone) → unwrap_or (find f us) empty_undone ≡ first_with f us
unfolding first_with
find-first_with f [] = refl
find-first_with f (u ∷ us) = by_bool (f u) (λ e. rw e) (λ e. rw e (find-first_with f us))

-- what is found by reference, read, or the empty change
pub first_or_empty : (f : Undone → Bool) (us : List Undone) (found : Option (Bor Undone)) {read : Option Undone}
    → option_map (λ (x : Bor Undone). x.now) found ≡ find f us → read ≡ option_copied found
    → unwrap_or read empty_undone ≡ first_with f us
first_or_empty f us found e copied =
    ap (λ o. unwrap_or o empty_undone) (copied ∙ read_lem found ∙ e) ∙ find-first_with f us
