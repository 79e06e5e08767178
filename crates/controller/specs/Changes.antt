-- Undone changes, as a list and in the state (document 01, "Controller end"). Assumes nothing.
use Rattle.std.specs.Prelude.{ℕ, ◌+◌, Bool, ◌&&◌, List, [], ◌∷◌, map, length, get_or, take, ltb, eqb}
use Rattle.answer.specs.Limits.{most_undone}
use Rattle.lists.specs.Arrays.{pad}
use Rattle.lists.specs.Counts.{passing}
use Rattle.flow.specs.Rules.{empty_rule, rule_empty}
use Rattle.playbook.specs.declared.Change.{Change}
use Rattle.controller.specs.declared.Controller.{Controller}
use Rattle.controller.specs.declared.Held.{Held}
use Rattle.controller.specs.declared.Undone.{Undone}

-- what stands in unused places
abbrev pub empty_undone : Undone
empty_undone = record { number = 0; first = 0; flow = 0; switch = 0; rule = empty_rule }

abbrev pub undone_empty : Undone → Bool
undone_empty u =
    eqb u.number 0 && eqb u.first 0 && eqb u.flow 0 && eqb u.switch 0 && rule_empty u.rule

-- the undone changes in use, and the places with these, zero past them
abbrev pub undone_in : Held → List Undone
undone_in h = take h.count h.changes

abbrev pub held_of : List Undone → Held
held_of us = record { changes = pad most_undone empty_undone us; count = length us }

-- the undone changes of a controller
abbrev pub undone_of : Controller → List Undone
undone_of c = undone_in c.progress.undone

abbrev pub numbers_of : List Undone → List ℕ
numbers_of us = map (λ (u : Undone). u.number) us

-- a change is done when its number is at most its switch's acknowledged number, so undone when it is above
abbrev pub is_undone : List ℕ → Undone → Bool
is_undone acknowledged u = ltb (get_or acknowledged u.switch 0) u.number

abbrev pub still_undone : List ℕ → List Undone → List Undone
still_undone acknowledged us = passing (is_undone acknowledged) us

-- a plan's change with a number, of the decision with a first number
abbrev pub numbered : ℕ → ℕ → Change → Undone
numbered first number c =
    record { number = number; first = first; flow = c.flow; switch = c.switch; rule = c.rule }

-- a plan's changes with the numbers from one on, in listed order
unfoldable pub numbered_from : ℕ → ℕ → List Change → List Undone
numbered_from first number [] = []
numbered_from first number (c ∷ cs) = numbered first number c ∷ numbered_from first (number + 1) cs
