-- The theorems at work on document 01's own evening, whose setting is valid: whatever strays, order and loss, no packet
-- of the one client, which comes in at switch 5, leaves its links, at rest or under way. Assumes nothing.
use mathlib.Core.Path.{◌≡◌, refl, ap, ◌∙◌}
use mathlib.Core.Bool.{true}
use mathlib.Core.List.{List, [], ◌∷◌}
use Rattle.lists.specs.Arrays.{every}
use Rattle.lists.specs.Counts.{passing}
use Rattle.lists.specs.Kinds.{among}
use Rattle.controller.specs.Readiness.{ties}
use Rattle.controller.specs.declared.Undone.{Undone}
use Rattle.protocol.specs.Orders.{up_to}
use Rattle.witness.specs.Evening.{evening}
use Rattle.witness.proofs.EveningEnds.{valid, changes, agreed_are}
use Rattle.isolation.specs.Networks.{outside, to_switch, only, Network, network_ok}
use Rattle.isolation.specs.Traces.{over, follow}
use Rattle.isolation.specs.Claim.{Isolated, Always}
use Rattle.isolation.specs.Check.{fine, in_turn, longest_to, ports_after, explore, bounds, singly, check}
use Rattle.isolation.specs.Flights.{down_from, is_needed, with_needs, flight, check_flights, IsolatedInFlight}
use Rattle.isolation.proofs.Theorem.{always_isolated}
use Rattle.isolation.proofs.InFlight.{isolated_in_flight}

abbrev network : Network
network = record {
  links =
      record { switch = 5; port = 2; far = to_switch 2; owner = only 0 }
      ∷ record { switch = 2; port = 3; far = outside; owner = only 0 }
      ∷ [];
  traffic = record { client = 0; prefix = (0x0a00_0000, 8); entry = 5 } ∷ [];
}

known : network_ok network ≡ true
unfolding every ties
known = refl

-- what the checks compute
checked : check changes 0 network 10 ≡ fine 7
unfolding explore in_turn ports_after bounds singly passing every ties among over follow longest_to
checked = refl

flown : check_flights changes 0 16 network 10 ≡ fine 7
unfolding flight in_turn down_from up_to is_needed with_needs ports_after bounds singly passing every ties among over
    longest_to
flown = refl

pub evening_isolated : Always evening 0 (Isolated network)
evening_isolated =
    always_isolated evening valid network known 0 10 7
    (ap (λ (us : List Undone). check us 0 network 10) agreed_are ∙ checked)

pub evening-under_way : IsolatedInFlight evening 0 network
evening-under_way =
    isolated_in_flight evening valid network known 0 10 7
    (ap (λ (us : List Undone). check_flights us 0 16 network 10) agreed_are ∙ flown)
