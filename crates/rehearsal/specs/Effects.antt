-- A record in a world (document 01, "Rehearsal program"): what is asked before anything is made or delivered, what it
-- is carried out on, and the world after it. Assumes nothing.
use Rattle.std.specs.Prelude.{ℕ, ◌&&◌, List, [], ◌∷◌, get_or, set, ltb}
use Rattle.answer.specs.Limits.{switch_count}
use Rattle.answer.specs.Ask.{Question}
use Rattle.playbook.specs.Books.{no_plans, store_of}
use Rattle.switch.specs.States as switches
use Rattle.switch.specs.declared.Switch.{Switch}
use Rattle.controller.specs.States as controllers
use Rattle.controller.specs.declared.Controller.{Controller}
use Rattle.rehearsal.specs.Limits.{place_count}
use Rattle.rehearsal.specs.Worlds.{empty_place}
use Rattle.rehearsal.specs.Steps.{carried_out}
use Rattle.rehearsal.specs.declared.Kind.{Kind}
use Rattle.rehearsal.specs.declared.Kind.TheVariants.{Decide, Send, Report, Raw, Keep, Deliver}
use Rattle.rehearsal.specs.declared.Moved.{Moved}
use Rattle.rehearsal.specs.declared.Place.{Place}
use Rattle.rehearsal.specs.declared.Record.{Record}
use Rattle.rehearsal.specs.declared.World.{World}

-- what stands where a world has nothing
abbrev pub no_switch : Switch
no_switch = switches.fresh 0 0

abbrev pub no_controller : Controller
no_controller = controllers.fresh 0 0 (store_of no_plans)

-- the place that a record names
abbrev pub place_of : World → Record → Place
place_of w r = get_or w.places r.place empty_place

-- the number of the switch that a record is about: a kept share has its own
abbrev pub switch_of : Kind → Record → Place → ℕ
switch_of Decide r p = r.switch
switch_of Send r p = r.switch
switch_of Report r p = r.switch
switch_of Raw r p = r.switch
switch_of Keep r p = r.switch
switch_of Deliver r p = p.switch

-- what is asked before anything is made or delivered: ids in the domain? A place at most 63? A kept share? What a kind
-- has not passes as 0
abbrev pub record_questions : ℕ → Record → Place → List Question
record_questions n r p =
    (12, ltb r.controller n && ltb r.switch switch_count)
    ∷ (29, ltb r.place place_count)
    ∷ (26, ltb (switch_of r.kind r p) switch_count)
    ∷ []

-- the controller, the switch and the place with these numbers put into a world
abbrev pub with_ends : World → ℕ → ℕ → ℕ → Moved → World
with_ends w c s p m = record {
  n = w.n;
  switches = set w.switches s m.switch;
  controllers = set w.controllers c m.controller;
  places = set w.places p m.place;
}

-- what a record that passed its questions does to the ends and the place that it names, taken out of a world
abbrev pub carried_in : World → Record → List ℕ → Moved
carried_in w r bytes =
    carried_out (get_or w.controllers r.controller no_controller)
    (get_or w.switches (switch_of r.kind r (place_of w r)) no_switch) (place_of w r) w.n r.kind r bytes

abbrev pub world_after : World → Record → List ℕ → World
world_after w r bytes =
    with_ends w r.controller (switch_of r.kind r (place_of w r)) r.place (carried_in w r bytes)
