-- What the check answers. Assumes nothing.
use Rattle.std.specs.Prelude.{ℕ, ◌+◌, Bool, ◌&&◌, List, length, leb, Result, Ok, Err}
use Rattle.answer.specs.Ask.{pick}
use Rattle.answer.specs.Limits.{switch_count}
use Rattle.lists.specs.Kinds.{is_among}
use Rattle.controller.specs.declared.Undone.{Undone}
use Rattle.isolation.specs.Networks.{Traffic, Network, network_ok}
use Rattle.isolation.specs.Check.{Verdict, fine, fails, undecided, check, check_lost}
use Rattle.isolation.specs.Flights.{check_flights}
use Rattle.checker.specs.Layout.{most_changes, most_links, most_lines, listed_from, changes_in, network_in}
use Rattle.checker.specs.declared.AgreedChange.{AgreedChange}
use Rattle.checker.specs.declared.Aim.{Aim}
use Rattle.checker.specs.declared.Aim.TheVariants.{Resting, Losing, Moving}
use Rattle.checker.specs.declared.Line.{Line}
use Rattle.checker.specs.declared.PortLink.{PortLink}
use Rattle.checker.specs.declared.Refusal.{Refusal}
use Rattle.checker.specs.declared.Refusal.TheVariants.{Fails, Undecided, NoNetwork}

-- what is asked: of tables that stand still, packets that keep to their client's links, or are not lost past their first
-- switch; of tables that change while a packet is under way, packets that keep to their client's links
abbrev pub aimed : Aim → List Undone → ℕ → Network → ℕ → Verdict
aimed Resting us settled N budget = check us settled N budget
aimed Losing us settled N budget = check_lost us settled N budget
aimed Moving us settled N budget = check_flights us settled switch_count N budget

abbrev pub line_of : Traffic → Line
line_of t = record { client = t.client; prefix = t.prefix.0; length = t.prefix.1; entry = t.entry }

-- numbers made as marks
abbrev pub marks_of : List ℕ → List Bool
marks_of made = listed_from (λ i. is_among (i + 1) made) 0 most_changes

-- the reply that a verdict is: what is left of the budget where all is fine, and else why it is not
abbrev pub outcome_of : Verdict → Result ℕ Refusal
outcome_of (fine left) = Ok left
outcome_of (fails f) = Err (Fails (record { line = line_of f.traffic; address = f.address; made = marks_of f.made }))
outcome_of undecided = Err Undecided

-- no more of each than there is room for, and a network of the domain
abbrev pub is_network : List AgreedChange → List PortLink → List Line → Bool
is_network changes links lines =
    leb (length changes) most_changes && leb (length links) most_links && leb (length lines) most_lines
    && network_ok (network_in links lines)

unfoldable pub checked_of : Aim → ℕ → ℕ → List AgreedChange → List PortLink → List Line → Result ℕ Refusal
checked_of aim settled budget changes links lines =
    pick (is_network changes links lines)
    (outcome_of (aimed aim (changes_in changes) settled (network_in links lines) budget)) (Err NoNetwork)
