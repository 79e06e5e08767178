-- What a FLOW_MOD says, each value taken from its place: for the law that bytes tell number and rule. No contract cites
-- it.
use Rattle.std.specs.Prelude.{ℕ, ◌-◌, ◌^◌, ◌<◌, List, eqb, length}
use Rattle.answer.specs.Ask.{pick}
use Rattle.lists.specs.Bytes.{field}
use Rattle.flow.specs.Rules.{port_of, rule_of}
use Rattle.flow.specs.declared.Rule.{Rule}
use Rattle.openflow.specs.Standard.{OFPFC_ADD}

-- where xid, command, priority and IPv4 destination stand
abbrev pub xid_at : ℕ
xid_at = 4

abbrev pub command_at : ℕ
command_at = 25

abbrev pub priority_at : ℕ
priority_at = 30

abbrev pub address_at : ℕ
address_at = 62

-- the port of the output stands so many bytes before the end
abbrev pub port_back : ℕ
port_back = 12

abbrev pub number_in : List ℕ → ℕ
number_in s = field s xid_at 4

abbrev pub length_in : List ℕ → ℕ
length_in s = field s priority_at 2

-- length 0 has no address, and a removal no port
abbrev pub prefix_in : List ℕ → ℕ
prefix_in s = pick (eqb (length_in s) 0) 0 (field s address_at 4)

abbrev pub port_in : List ℕ → ℕ
port_in s = pick (eqb (field s command_at 1) OFPFC_ADD) (field s (length s - port_back) 4) 0

abbrev pub rule_in : List ℕ → Rule
rule_in s = rule_of (prefix_in s) (length_in s) (port_in s)

-- numbers fit their fields, as the types of the code say
abbrev pub InRange : ℕ → Rule → Type 0
InRange number r = (number < 2 ^ 32) × (r.prefix < 2 ^ 32) × (port_of r.action < 2 ^ 16)
