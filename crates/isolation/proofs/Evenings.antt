-- Small evenings, computed. Lab 0 comes in at switch 1 and lab 1 at switch 2; switch 5 sends what it does not know to
-- lab 1's link. Lab 0's route moves from switch 4 to switch 5: with the far switch first no order of arrival takes a
-- packet off its lab's links; with the near switch first changes 1, 3, 4 and 5 do, and the check finds them.
-- Assumes nothing.
use mathlib.Core.Path.{◌≡◌, refl}
use mathlib.Core.List.{List, [], ◌∷◌}
use Prim.Native.Nat.{ℕ, zero, suc}
use Rattle.lists.specs.Arrays.{every}
use Rattle.lists.specs.Counts.{passing}
use Rattle.lists.specs.Kinds.{among}
use Rattle.flow.specs.declared.Action.{Action}
use Rattle.flow.specs.declared.Action.TheVariants.{Remove, Set}
use Rattle.controller.specs.Readiness.{ties}
use Rattle.controller.specs.declared.Undone.{Undone}
use Rattle.protocol.specs.Orders.{up_to}
use Rattle.isolation.specs.Networks.{Far, outside, to_switch, Owner, shared, only, Link, Traffic, Network}
use Rattle.isolation.specs.Traces.{over, follow}
use Rattle.isolation.specs.Check.{Verdict, fine, fails, undecided, in_turn, longest_to, ports_after, explore, bounds}
use Rattle.isolation.specs.Check.{singly, check, check_lost}
use Rattle.isolation.specs.Flights.{down_from, is_needed, with_needs, flight, check_flights}

abbrev link : ℕ → ℕ → Far → Owner → Link
link s p far owner = record { switch = s; port = p; far = far; owner = owner }

abbrev lab0 : Traffic
lab0 = record { client = 0; prefix = (0x0a01_0000, 16); entry = 1 }

-- the two labs' packets, over links
abbrev with : List Link → Network
with links = record {
  links = links;
  traffic = lab0 ∷ record { client = 1; prefix = (0x0a02_0000, 16); entry = 2 } ∷ [];
}

abbrev links : List Link
links =
    link 1 1 (to_switch 4) (only 0)
    ∷ link 1 2 (to_switch 5) shared
    ∷ link 2 1 (to_switch 5) (only 1)
    ∷ link 4 1 outside (only 0)
    ∷ link 5 1 outside (only 0)
    ∷ link 5 2 outside (only 1)
    ∷ []

-- a change: number, first number of its decision, flow, switch, prefix, length, action
abbrev change : ℕ → ℕ → ℕ → ℕ → ℕ → ℕ → Action → Undone
change k first flow s prefix l action = record {
  number = k;
  first = first;
  flow = flow;
  switch = s;
  rule = record { prefix = prefix; length = l; action = action };
}

-- a failure of lab 0's packets to an address
abbrev fails_at : ℕ → List ℕ → Verdict
fails_at address made = fails (record { traffic = lab0; address = address; made = made })

-- the evening's routes, and the two changes of lab 0's move after them
abbrev evening : Undone → Undone → List Undone
evening fifth sixth =
    change 1 1 0 5 0 0 (Set 2)
    ∷ change 2 1 0 2 0x0a02_0000 16 (Set 1)
    ∷ change 3 1 1 4 0x0a01_0000 16 (Set 1)
    ∷ change 4 1 1 1 0x0a01_0000 16 (Set 1)
    ∷ fifth
    ∷ sixth
    ∷ []

abbrev far_first : List Undone
far_first = evening (change 5 5 0 5 0x0a01_0000 16 (Set 1)) (change 6 5 0 1 0x0a01_0000 16 (Set 2))

abbrev near_first : List Undone
near_first = evening (change 5 5 0 1 0x0a01_0000 16 (Set 2)) (change 6 5 0 5 0x0a01_0000 16 (Set 1))

pub far-first : check far_first 0 (with links) 100 ≡ fine 87
unfolding explore in_turn ports_after bounds singly passing every ties among over follow longest_to
far-first = refl

-- change 2 covers no address of lab 0 and is made too
pub near_first_lem : check near_first 0 (with links) 100 ≡ fails_at 0x0a01_0000 (5 ∷ 4 ∷ 3 ∷ 2 ∷ 1 ∷ [])
unfolding explore in_turn ports_after bounds singly passing every ties among over follow longest_to
near_first_lem = refl

-- with changes 1 to 5 made before, change 6 can still come last; with all made there is nothing to wait for
pub near_first_later : check near_first 5 (with links) 100 ≡ fails_at 0x0a01_0000 (5 ∷ 4 ∷ 3 ∷ 2 ∷ 1 ∷ [])
unfolding explore in_turn ports_after bounds singly passing every ties among over follow longest_to
near_first_later = refl

pub near_first_done : check near_first 6 (with links) 100 ≡ fine 98
unfolding explore in_turn ports_after bounds singly passing every ties among over follow longest_to
near_first_done = refl

pub too_little : check far_first 0 (with links) 12 ≡ undecided
unfolding explore in_turn ports_after bounds singly passing every ties among over follow longest_to
too_little = refl

-- nor is a packet lost past its first switch; with the near switch first changes 3, 4 and 5 lead to switch 5 before it
-- knows any way
pub far-first_lost : check_lost far_first 0 (with links) 100 ≡ fine 87
unfolding explore in_turn ports_after bounds singly passing every ties among over follow longest_to
far-first_lost = refl

pub near_first_lost : check_lost near_first 0 (with links) 100 ≡ fails_at 0x0a01_0000 (5 ∷ 4 ∷ 3 ∷ [])
unfolding explore in_turn ports_after bounds singly passing every ties among over follow longest_to
near_first_lost = refl

-- the lower half of lab 0's addresses goes to its own link and all of them to lab 1's: only the upper half crosses,
-- whose first address is where the lower half ends
pub upper_half : check (change 1 1 0 1 0x0a01_0000 17 (Set 1) ∷ change 2 1 0 1 0x0a01_0000 16 (Set 3) ∷ []) 0
    (with (link 1 3 outside (only 1) ∷ links)) 100 ≡ fails_at 0x0a01_8000 (2 ∷ 1 ∷ [])
unfolding explore in_turn ports_after bounds singly passing every ties among over follow longest_to
upper_half = refl

-- a way over all 16 switches: each sends everything on to the next one, and the last has no link at its port
abbrev onward : ℕ → ℕ → List Undone
onward s zero = []
onward s (suc n) = change (suc s) 1 0 s 0 0 (Set 1) ∷ onward (suc s) n

abbrev lines : ℕ → ℕ → List Link
lines s zero = []
lines s (suc n) = link s 1 (to_switch (suc s)) shared ∷ lines (suc s) n

abbrev around : Traffic
around = record { client = 0; prefix = (0, 0); entry = 0 }

pub long_way : check (onward 0 16) 0 (record { links = lines 0 15; traffic = around ∷ [] }) 100
    ≡ fails (record { traffic = around; address = 0; made = up_to 16 })
unfolding up_to explore in_turn ports_after bounds singly passing every ties among over follow longest_to
long_way = refl

-- packets under way: the far switch first is fine for them too; but where the old route is removed once the new one is
-- made, a packet that left switch 1 before finds only switch 4's way to lab 1
pub far-first_under_way : check_flights far_first 0 16 (with links) 100 ≡ fine 92
unfolding flight in_turn down_from up_to is_needed with_needs ports_after bounds singly passing every ties among over
    longest_to
far-first_under_way = refl

abbrev moved : List Undone
moved =
    change 1 1 0 4 0 0 (Set 2)
    ∷ change 2 1 1 4 0x0a01_0000 16 (Set 1)
    ∷ change 3 1 1 1 0x0a01_0000 16 (Set 1)
    ∷ change 4 4 0 5 0x0a01_0000 16 (Set 1)
    ∷ change 5 4 0 1 0x0a01_0000 16 (Set 2)
    ∷ change 6 4 0 4 0x0a01_0000 16 Remove
    ∷ []

abbrev wider : Network
wider = with (link 4 2 outside (only 1) ∷ links)

pub moved_at_rest : check moved 0 wider 100 ≡ fine 88
unfolding explore in_turn ports_after bounds singly passing every ties among over follow longest_to
moved_at_rest = refl

-- it left switch 1 after changes 1 to 3 and meets switch 4 after all of them
pub moved_under_way : check_flights moved 0 16 wider 100 ≡ fails_at 0x0a01_0000 (6 ∷ 5 ∷ 4 ∷ 3 ∷ 2 ∷ 1 ∷ [])
unfolding flight in_turn down_from up_to is_needed with_needs ports_after bounds singly passing every ties among over
    longest_to
moved_under_way = refl

-- with changes 1 to 5 made before a packet comes in, none goes by the old route any more
pub moved_later : check_flights moved 5 16 wider 100 ≡ fine 97
unfolding flight in_turn down_from up_to is_needed with_needs ports_after bounds singly passing every ties among over
    longest_to
moved_later = refl
