-- Which undone change of a switch is ready (document 01, "Controller end"). Assumes nothing.
use Rattle.std.specs.Prelude.{ℕ, Bool, not, ◌&&◌, ◌||◌, List, [], ◌∷◌, ltb, eqb, Option, Some, None}
use Rattle.answer.specs.Ask.{pick}
use Rattle.lists.specs.Arrays.{every}
use Rattle.controller.specs.Changes.{undone_of}
use Rattle.controller.specs.declared.Controller.{Controller}
use Rattle.controller.specs.declared.Undone.{Undone}

-- whether two changes are on the same switch
abbrev pub same_switch : Undone → Undone → Bool
same_switch u v = eqb v.switch u.switch

-- whether a change is tied to another, wherever that is: they are of the same decision and flow. Laws do not open it.
unfoldable pub ties : Undone → Undone → Bool
ties u v = eqb v.first u.first && eqb v.flow u.flow

-- two changes of which the higher-numbered has to wait for the other
abbrev pub related : Undone → Undone → Bool
related u v = same_switch u v || ties u v

-- whether a change has to wait for another to be done: a lower-numbered one on the same switch, or one that it is tied
-- to
abbrev pub waits_for : Undone → Undone → Bool
waits_for u v = ltb v.number u.number && related u v

-- an undone change is ready when it waits for none of the undone ones
abbrev pub is_ready : List Undone → Undone → Bool
is_ready us u = every (λ v. not (waits_for u v)) us

-- the first change on a switch that is ready among all undone ones
unfoldable pub first_ready : ℕ → List Undone → List Undone → Option Undone
first_ready s all [] = None
first_ready s all (u ∷ us) = pick (eqb u.switch s && is_ready all u) (Some u) (first_ready s all us)

abbrev pub ready_of : ℕ → List Undone → Option Undone
ready_of s us = first_ready s us us

-- the ready change of a switch
abbrev pub ready_for : Controller → ℕ → Option Undone
ready_for c s = ready_of s (undone_of c)
