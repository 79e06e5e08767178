-- What a well-formed rule is bounded by. Assumes nothing.
use mathlib.Core.Path.{◌≡◌}
use mathlib.Core.Bool.{true}
use Prim.Native.Nat.{◌≤◌, ◌<◌, ◌%◌, ◌^◌}
use native.Mathlib.Omega.{arith}
use native.Mathlib.Nat.{mod-eq_of_lt}
use borrow.Author.Tests.{leb-true, eqb-true}
use lib.Dec.{leb, eqb}
use Rattle.answer.proofs.Bools.{and_parts}
use Rattle.flow.specs.Rules.{block_size, prefix_ok, port_ok, rule_key, well_formed}
use Rattle.flow.specs.declared.Rule.{Rule}

module _ (r : Rule) (formed : well_formed r ≡ true) where
  parts : (leb r.length 32 ≡ true) × (eqb (r.prefix % block_size r.length) 0 ≡ true)
  parts = and_parts (leb r.length 32) _ (and_parts (prefix_ok (rule_key r)) (port_ok r.action) formed).0

  pub formed_length : r.length ≤ 32
  formed_length = leb-true r.length 32 parts.0

  pub formed_port : port_ok r.action ≡ true
  formed_port = (and_parts (prefix_ok (rule_key r)) (port_ok r.action) formed).1

  -- under length 0 there is one prefix
  pub formed_zero : r.length ≡ 0 → r.prefix < 2 ^ 32 → r.prefix ≡ 0
  formed_zero e small =
      let none = rw e at (eqb-true (r.prefix % block_size r.length) 0 parts.1) in
      omega (arith, none, mod-eq_of_lt small)
