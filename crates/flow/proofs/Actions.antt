-- An action and its port in bytes: each gives the other back, but for the port 0 that sets nothing; and equal rules.
-- Assumes nothing.
use mathlib.Core.Path.{◌≡◌, refl, ap}
use mathlib.Core.Bool.{true, false}
use Prim.Native.Nat.{ℕ}
use native.Mathlib.Omega.{arith}
use borrow.Author.Tests.{ltb-true, lt-ltb, eqb-true, eqb-false, eq-eqb, ne_eqb}
use lib.Dec.{eqb}
use Rattle.answer.proofs.Bools.{by_bool, tf, and_join, and_parts}
use Rattle.flow.specs.Rules.{rule_key, same_key, same_action, same_rule, port_ok, port_of, action_of, rule_of}
use Rattle.flow.specs.declared.Action.{Action}
use Rattle.flow.specs.declared.Action.TheVariants.{Remove, Set}
use Rattle.flow.specs.declared.Rule.{Rule}
use Rattle.flow.proofs.Order.{key_sound, key_mine}

pub action-port : (port : ℕ) → port_of (action_of port) ≡ port
action-port port = by_bool (eqb port 0) (λ e. rw e (let z = eqb-true port 0 e in omega arith)) (λ e. rw e)

-- the action of a port sets no port 0
pub action_ok : (port : ℕ) → port_ok (action_of port) ≡ true
action_ok port =
    by_bool (eqb port 0) (λ e. rw e) (λ e. rw e (let n = eqb-false port 0 e in lt-ltb 0 port (omega arith)))

pub port-action : (a : Action) → port_ok a ≡ true → action_of (port_of a) ≡ a
port-action Remove h = refl
port-action (Set port) h =
    let l = ltb-true 0 port h in
    let e : eqb port 0 ≡ false = ne_eqb port 0 (λ z. omega arith) in
    rw e

pub port-rule : (r : Rule) → port_ok r.action ≡ true → rule_of r.prefix r.length (port_of r.action) ≡ r
port-rule r h = λ i. record { prefix = r.prefix; length = r.length; action = port-action r.action h i }

-- the tests of equality pass for equal actions and rules, and for no others
action_sound : (a b : Action) → same_action a b ≡ true → a ≡ b
action_sound Remove Remove h = refl
action_sound Remove (Set q) h = tf h refl
action_sound (Set p) Remove h = tf h refl
action_sound (Set p) (Set q) h = ap Set (eqb-true p q h)

action_mine : (a : Action) → same_action a a ≡ true
action_mine Remove = refl
action_mine (Set p) = eq-eqb p p refl

pub rule_sound : (a b : Rule) → same_rule a b ≡ true → a ≡ b
rule_sound a b h =
    let t = and_parts (same_key (rule_key a) (rule_key b)) _ h in
    let k = key_sound (rule_key a) (rule_key b) t.0 in
    let act = action_sound a.action b.action t.1 in
    λ i. record { prefix = (k i).0; length = (k i).1; action = act i }

pub rule_mine : (r : Rule) → same_rule r r ≡ true
rule_mine r = and_join (same_key (rule_key r) (rule_key r)) _ (key_mine (rule_key r)) (action_mine r.action)
