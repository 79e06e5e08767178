-- Steps and ends as inner functions give them, and what they are asked. Assumes nothing.
use Rattle.std.specs.Prelude.{ℕ, Bool, List}
use Rattle.answer.specs.Limits.{switch_count}
use Rattle.controller.specs.declared.Undone.{Undone}
use Rattle.isolation.specs.Networks.{Traffic, Network}
use Rattle.isolation.specs.Traces.{End, arrived, lost, crossed, circling, Step, foreign, leaves, goes_to}
use Rattle.isolation.specs.Traces.{keeps_own, not_lost_past}
use Rattle.isolation.specs.Check.{Failure, Verdict, check_address}
use Rattle.isolation.specs.Flights.{flight_to}
use Rattle.checker.specs.Layout.{traffic_of}
use Rattle.checker.specs.declared.Aim.{Aim}
use Rattle.checker.specs.declared.Aim.TheVariants.{Resting, Losing, Moving}
use Rattle.checker.specs.declared.Ending.{Ending}
use Rattle.checker.specs.declared.Ending.TheVariants.{Arrived, Lost, Crossed, Circling}
use Rattle.checker.specs.declared.Onward.{Onward}
use Rattle.checker.specs.declared.Onward.TheVariants.{Foreign, Leaves, GoesTo}
use Rattle.checker.specs.declared.Quest.{Quest}

abbrev pub step_of : Onward → Step
step_of Foreign = foreign
step_of Leaves = leaves
step_of (GoesTo s) = goes_to s

abbrev pub end_of : Ending → End
end_of Arrived = arrived
end_of (Lost s) = lost s
end_of (Crossed s p) = crossed s p
end_of Circling = circling

-- what is wanted of a way's end: not to be lost past its first switch, or to keep to the client's links
abbrev pub wanted_by : Aim → Traffic → End → Bool
wanted_by Resting t e = keeps_own e
wanted_by Losing t e = not_lost_past t.entry e
wanted_by Moving t e = keeps_own e

-- a failure to one address
abbrev pub blamed : Quest → ℕ → List ℕ → Failure
blamed q address made = record { traffic = traffic_of q; address = address; made = made }

-- what is asked of the packets of a line to one address
abbrev pub aimed_at : Aim → List Undone → ℕ → Network → Traffic → ℕ → ℕ → Verdict
aimed_at Resting us settled N t address budget = check_address us (wanted_by Resting) settled N t address budget
aimed_at Losing us settled N t address budget = check_address us (wanted_by Losing) settled N t address budget
aimed_at Moving us settled N t address budget = flight_to us settled switch_count N t address budget
