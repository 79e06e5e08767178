-- Why nothing is ready for a switch, for tellers: no call's answer rests on it.
use Rattle.std.specs.Prelude.{ℕ, Bool, List, [], ◌∷◌, eqb}
use Rattle.answer.specs.Ask.{pick}
use Rattle.controller.specs.Changes.{empty_undone}
use Rattle.controller.specs.Readiness.{waits_for}
use Rattle.controller.specs.declared.Undone.{Undone}

-- the first change that passes a test, or an empty one
unfoldable pub first_with : (Undone → Bool) → List Undone → Undone
first_with f [] = empty_undone
first_with f (u ∷ us) = pick (f u) u (first_with f us)

-- the first undone change on a switch
abbrev pub first_on : ℕ → List Undone → Undone
first_on s us = first_with (λ u. eqb u.switch s) us

-- the first undone change that a change waits for
abbrev pub first_awaited : Undone → List Undone → Undone
first_awaited u us = first_with (waits_for u) us
