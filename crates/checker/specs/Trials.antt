-- For inner functions: what becomes of a packet under way at one switch. Assumes nothing.
use Rattle.std.specs.Prelude.{ℕ, zero, suc, Bool, not, ◌||◌, List, leb, Option, Some, None}
use Rattle.answer.specs.Ask.{pick}
use Rattle.lists.specs.Arrays.{every}
use Rattle.controller.specs.declared.Undone.{Undone}
use Rattle.protocol.specs.Orders.{up_to}
use Rattle.isolation.specs.Networks.{Link}
use Rattle.isolation.specs.Traces.{Step, foreign, leaves, goes_to, over}
use Rattle.isolation.specs.Check.{covering, finds_after}
use Rattle.isolation.specs.Flights.{is_on, can_be_last}
use Rattle.checker.specs.Layout.{changes_in}
use Rattle.checker.specs.declared.AgreedChange.{AgreedChange}
use Rattle.checker.specs.declared.Trial.{Trial}
use Rattle.checker.specs.declared.Trial.TheVariants.{Passes, Spent, Crosses, GoesOn}

-- none of some numbers above one is on a switch and covers the address
abbrev pub none_later : List AgreedChange → ℕ → ℕ → ℕ → List ℕ → Bool
none_later laid s address number known =
    let us = changes_in laid in
    every (λ j. not (is_on us (covering us address) s j) || leb j number) known

abbrev pub step_trial : Step → ℕ → Trial
step_trial foreign budget = Crosses
step_trial leaves budget = Passes budget
step_trial (goes_to s) budget = GoesOn s budget

abbrev pub found_trial : Option ℕ → (ℕ → Step) → ℕ → Trial
found_trial None over budget = Passes budget
found_trial (Some p) over budget = step_trial (over p) budget

abbrev pub spent_trial : Option ℕ → (ℕ → Step) → ℕ → Trial
spent_trial found over zero = Spent
spent_trial found over (suc budget) = found_trial found over budget

abbrev pub trial_at : List Undone → (ℕ → Bool) → ℕ → List Link → ℕ → List ℕ → ℕ → ℕ → Trial
trial_at us covered c links s known number budget =
    pick (can_be_last us covered s known number)
    (spent_trial (finds_after us covered (up_to number) s) (λ (p : ℕ). over c links s p) budget)
    (Passes budget)
