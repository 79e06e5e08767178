-- Agreed changes, links and lines of traffic, as the changes and the network that they are. Assumes nothing.
use Rattle.std.specs.Prelude.{ℕ, zero, suc, ◌+◌, Bool, ◌&&◌, List, [], ◌∷◌, map, length, ltb, leb, eqb, get_or, Option, Some, None}
use Rattle.std.specs.Prelude.{Option, Some, None}
use Rattle.answer.specs.Ask.{pick}
use Rattle.answer.specs.Limits.{switch_count}
use Rattle.flow.specs.Rules.{rule_of}
use Rattle.flow.specs.Lookups.{covers}
use Rattle.controller.specs.declared.Undone.{Undone}
use Rattle.isolation.specs.Networks.{Far, outside, to_switch, Owner, shared, only, Link, Traffic, Network}
use Rattle.isolation.specs.Traces.{Step, foreign, may_use, behind}
use Rattle.isolation.specs.Check.{bounds}
use Rattle.checker.specs.declared.AgreedChange.{AgreedChange}
use Rattle.checker.specs.declared.Line.{Line}
use Rattle.checker.specs.declared.PortLink.{PortLink}
use Rattle.checker.specs.declared.Quest.{Quest}

-- how many changes, links and lines of traffic there is room for
abbrev pub most_changes : ℕ
most_changes = 256

abbrev pub most_links : ℕ
most_links = 256

abbrev pub most_lines : ℕ
most_lines = 64

-- what a function gives for so many places from one on
unfoldable pub listed_from : {A : Type 0} → (ℕ → A) → ℕ → ℕ → List A
listed_from f i zero = []
listed_from f i (suc n) = f i ∷ listed_from f (suc i) n

-- what a place holds that no change is laid out in
abbrev pub no_change : AgreedChange
no_change = record { first = 0; flow = 0; switch = 0; prefix = 0; length = 0; port = 0 }

-- the change at a place: its number follows from the place, and port 0 removes
abbrev pub numbered_as : ℕ → AgreedChange → Undone
numbered_as number c = record {
  number = number;
  first = c.first;
  flow = c.flow;
  switch = c.switch;
  rule = rule_of c.prefix c.length c.port;
}

abbrev pub change_at : List AgreedChange → ℕ → Undone
change_at laid i = numbered_as (i + 1) (get_or laid i no_change)

-- the changes in the first places, and all of them
abbrev pub first_changes : List AgreedChange → ℕ → List Undone
first_changes laid n = listed_from (change_at laid) 0 n

abbrev pub changes_in : List AgreedChange → List Undone
changes_in laid = first_changes laid (length laid)

-- whether a change covers an address, and whether it is also on a switch; the same of the change at a place
abbrev pub covers_address : AgreedChange → ℕ → Bool
covers_address c address = covers (c.prefix, c.length) address

abbrev pub is_at : AgreedChange → ℕ → ℕ → Bool
is_at c s address = covers_address c address && eqb c.switch s

abbrev pub on_at : List AgreedChange → ℕ → ℕ → ℕ → Bool
on_at laid i s address = is_at (get_or laid i no_change) s address

-- no switch past the last one lies behind a link; owner 0 is every client
abbrev pub far_of : ℕ → Far
far_of far = pick (ltb far switch_count) (to_switch far) outside

abbrev pub owner_of : ℕ → Owner
owner_of owner = pick (eqb owner 0) shared (only owner)

abbrev pub link_of : PortLink → Link
link_of l = record { switch = l.switch; port = l.port; far = far_of l.far; owner = owner_of l.owner }

abbrev pub links_in : List PortLink → List Link
links_in links = map link_of links

-- what a link does with a client's packet
abbrev pub behind_link : PortLink → ℕ → Step
behind_link l client = pick (may_use client (owner_of l.owner)) (behind (far_of l.far)) foreign

-- lines of traffic, and the network
abbrev pub traffic_from : Line → Traffic
traffic_from l = record { client = l.client; prefix = (l.prefix, l.length); entry = l.entry }

abbrev pub traffic_in : List Line → List Traffic
traffic_in lines = map traffic_from lines

abbrev pub network_in : List PortLink → List Line → Network
network_in links lines = record { links = links_in links; traffic = traffic_in lines }

-- what is asked about one line of traffic: that line, the network's links, and the bounds that its addresses are among
abbrev pub traffic_of : Quest → Traffic
traffic_of q = traffic_from q.line

abbrev pub network_for : List PortLink → Network
network_for links = record { links = links_in links; traffic = [] }

abbrev pub bounds_for : List AgreedChange → Quest → List ℕ
bounds_for laid q = q.line.prefix ∷ bounds (changes_in laid)

-- the port that a number says, 0 for none
abbrev pub found_of : ℕ → Option ℕ
found_of port = pick (eqb port 0) None (Some port)

-- a count past the places counts as all
abbrev pub capped : ℕ → ℕ
capped n = pick (leb n most_changes) n most_changes
