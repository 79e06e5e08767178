-- Prefixes with lengths, rules and entries (document 01, "Bytes"). Assumes nothing.
use Rattle.std.specs.Prelude.{ℕ, ◌-◌, ◌%◌, ◌^◌, Bool, true, false, ◌&&◌, ◌||◌, ltb, leb, eqb}
use Rattle.answer.specs.Ask.{pick}
use Rattle.flow.specs.declared.Action.{Action}
use Rattle.flow.specs.declared.Action.TheVariants.{Remove, Set}
use Rattle.flow.specs.declared.Rule.{Rule}
use Rattle.flow.specs.declared.Entry.{Entry}

-- a prefix and its length
abbrev pub Key : Type 0
Key = ℕ × ℕ

abbrev pub entry_key : Entry → Key
entry_key e = (e.prefix, e.length)

abbrev pub rule_key : Rule → Key
rule_key r = (r.prefix, r.length)

-- the number of addresses under a prefix of length l
abbrev pub block_size : ℕ → ℕ
block_size l = 2 ^ (32 - l)

-- a length from 0 to 32, and prefix bits past the length are zero
abbrev pub prefix_ok : Key → Bool
prefix_ok k = leb k.1 32 && eqb (k.0 % block_size k.1) 0

-- a removal, or a port from 1
abbrev pub port_ok : Action → Bool
port_ok Remove = true
port_ok (Set port) = ltb 0 port

abbrev pub well_formed : Rule → Bool
well_formed r = prefix_ok (rule_key r) && port_ok r.action

-- by rising prefix, then length
abbrev pub before : Key → Key → Bool
before a b = ltb a.0 b.0 || eqb a.0 b.0 && ltb a.1 b.1

abbrev pub same_key : Key → Key → Bool
same_key a b = eqb a.0 b.0 && eqb a.1 b.1

abbrev pub same_action : Action → Action → Bool
same_action Remove Remove = true
same_action Remove (Set q) = false
same_action (Set p) Remove = false
same_action (Set p) (Set q) = eqb p q

abbrev pub same_rule : Rule → Rule → Bool
same_rule a b = same_key (rule_key a) (rule_key b) && same_action a.action b.action

-- the port that an action has in bytes, and the action of a port: port 0 removes
abbrev pub port_of : Action → ℕ
port_of Remove = 0
port_of (Set port) = port

abbrev pub action_of : ℕ → Action
action_of port = pick (eqb port 0) Remove (Set port)

abbrev pub rule_of : ℕ → ℕ → ℕ → Rule
rule_of prefix length port = record { prefix = prefix; length = length; action = action_of port }

-- the rule in unused places, and whether a rule is this one
abbrev pub empty_rule : Rule
empty_rule = record { prefix = 0; length = 0; action = Remove }

abbrev pub rule_empty : Rule → Bool
rule_empty r = same_rule r empty_rule
