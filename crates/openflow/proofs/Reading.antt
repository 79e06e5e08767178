-- Bytes tell number and rule: read from their places, they are those that were written. So two different pairs of number
-- and well-formed rule never have the same bytes. Assumes nothing.
use mathlib.Core.Path.{◌≡◌, sym, ap, ◌∙◌}
use mathlib.Core.Bool.{true}
use mathlib.Core.List.{List, [], ◌∷◌, ◌++◌}
use Prim.Native.Nat.{ℕ, ◌-◌, ◌^◌, ◌<◌}
use native.Mathlib.Omega.{arith}
use borrow.Author.Tests.{eq-eqb, ne_eqb}
use lib.Dec.{lit<}
use lib.ListN.{length, take, drop}
use Rattle.answer.proofs.Bools.{by_eq}
use Rattle.lists.specs.Bytes.{field}
use Rattle.lists.specs.Fields.{Field, laid_out, width_of}
use Rattle.lists.proofs.Layouts.{laid_length, field_laid}
use Rattle.flow.specs.Rules.{port_of, rule_of, well_formed}
use Rattle.flow.specs.declared.Action.{Action}
use Rattle.flow.specs.declared.Action.TheVariants.{Remove, Set}
use Rattle.flow.specs.declared.Rule.{Rule}
use Rattle.flow.proofs.Actions.{port-rule}
use Rattle.openflow.specs.Standard.{OFPFC_ADD, OFPFC_DELETE_STRICT}
use Rattle.openflow.specs.FlowMods.{header, flow_mod, eth_type, mask_of, whole_dst, masked_dst, flow_match, match_of}
use Rattle.openflow.specs.FlowMods.{output, apply_actions, command_of, instructions, length_of}
use Rattle.openflow.specs.FlowMods.{bytes_of}
use Rattle.openflow.specs.Reading.{xid_at, command_at, priority_at, address_at, port_back, number_in, length_in, prefix_in}
use Rattle.openflow.specs.Reading.{port_in, rule_in, InRange}
use Rattle.openflow.proofs.Ranges.{formed_length, formed_port, formed_zero}
use Rattle.openflow.proofs.Lengths.{by_match, match_whole, match_masked}

-- the fields before the match, and all of them
abbrev front : ℕ → ℕ → ℕ → ℕ → List Field
front size number command priority = header size number ++ flow_mod command priority

abbrev table : ℕ → ℕ → ℕ → ℕ → List Field → List Field → List Field
table size number command priority matched rest = front size number command priority ++ matched ++ rest

-- xid, command and priority stand before the match
module _ (size number command priority : ℕ) (rest : List Field) where
  xid_read : number < 2 ^ 32 → field (laid_out (front size number command priority ++ rest)) xid_at 4 ≡ number
  xid_read h =
      field_laid (take 3 (header size number)) 4 number (flow_mod command priority ++ rest) h

  command_read : command < 2 ^ 8 → field (laid_out (front size number command priority ++ rest)) command_at 1 ≡ command
  command_read h =
      field_laid (header size number ++ take 3 (flow_mod command priority)) 1 command
      (drop 4 (flow_mod command priority) ++ rest) h

  priority_read : priority < 2 ^ 16 → field (laid_out (front size number command priority ++ rest)) priority_at 2 ≡ priority
  priority_read h =
      field_laid (header size number ++ take 6 (flow_mod command priority)) 2 priority
      (drop 7 (flow_mod command priority) ++ rest) h

-- the destination stands in the match where there is one
module _ (size number command priority prefix : ℕ) (rest : List Field) (h : prefix < 2 ^ 32) where
  whole-read :
      field (laid_out (front size number command priority ++ flow_match (eth_type ++ whole_dst prefix) ++ rest)) address_at 4
      ≡ prefix
  whole-read =
      field_laid (front size number command priority ++ take 9 (flow_match (eth_type ++ whole_dst prefix))) 4 prefix
      ((6, 0) ∷ rest) h

  masked_read : (mask : ℕ)
      → field (laid_out (front size number command priority ++ flow_match (eth_type ++ masked_dst prefix mask) ++ rest))
      address_at 4
      ≡ prefix
  masked_read mask =
      field_laid (front size number command priority ++ take 9 (flow_match (eth_type ++ masked_dst prefix mask))) 4 prefix
      ((4, mask) ∷ (2, 0) ∷ rest) h

  address_read : (length : ℕ) → (length ≡ 0 → ⊥)
      → field (laid_out (front size number command priority ++ match_of prefix length ++ rest)) address_at 4 ≡ prefix
  address_read length some =
      by_eq length 32 (λ e. rw (match_whole prefix length e) whole-read)
      (λ n. rw (match_masked prefix length some n) (masked_read (mask_of length)))

-- the port of a set stands before the end
port-read : (size number command priority prefix length port : ℕ) → port < 2 ^ 32
    → let fields = front size number command priority ++ match_of prefix length ++ apply_actions (output port) in
    field (laid_out fields) (width_of fields - port_back) 4 ≡ port
port-read size number command priority prefix length port h =
    let before = front size number command priority in
    let action = apply_actions (output port) in
    let there : (matched : List Field) → Type 0 =
    λ (matched : List Field). field (laid_out (before ++ matched ++ action)) (width_of (before ++ matched ++ action) - port_back) 4
    ≡ port in
    let read : (matched : List Field) → _ =
    λ (matched : List Field). field_laid (before ++ matched ++ take 5 action) 4 port ((2, 0) ∷ (6, 0) ∷ []) h in
    by_match prefix length there (read (flow_match eth_type)) (read (flow_match (eth_type ++ whole_dst prefix)))
    (read (flow_match (eth_type ++ masked_dst prefix (mask_of length))))

-- all fields of a rule with an action, and the port that they tell
abbrev fields_with : ℕ → Rule → Action → List Field
fields_with number r a =
    front (length_of r) number (command_of a) r.length ++ match_of r.prefix r.length ++ instructions a

port_told : (number : ℕ) (r : Rule) (a : Action) → port_of a < 2 ^ 32 → port_in (laid_out (fields_with number r a)) ≡ port_of a
port_told number r Remove h =
    rw (command_read (length_of r) number OFPFC_DELETE_STRICT r.length (match_of r.prefix r.length ++ []) (lit< tt))
port_told number r (Set port) h =
    let rest = match_of r.prefix r.length ++ apply_actions (output port) in
    rw (
      command_read (length_of r) number OFPFC_ADD r.length rest (lit< tt),
      laid_length (fields_with number r (Set port)),
    )
    (port-read (length_of r) number OFPFC_ADD r.length r.prefix r.length port h)

-- a number and a well-formed rule that fit their fields are read back from their bytes
module _ (number : ℕ) (r : Rule) (fit : InRange number r) (formed : well_formed r ≡ true) where
  pub number_back : number_in (bytes_of number r) ≡ number
  unfolding bytes_of
  number_back = xid_read (length_of r) number (command_of r.action) r.length _ fit.0

  length_back : length_in (bytes_of number r) ≡ r.length
  unfolding bytes_of
  length_back =
      priority_read (length_of r) number (command_of r.action) r.length _ (omega (arith, formed_length r formed))

  address_back : (r.length ≡ 0 → ⊥) → field (bytes_of number r) address_at 4 ≡ r.prefix
  unfolding bytes_of
  address_back n =
      address_read (length_of r) number (command_of r.action) r.length r.prefix (instructions r.action) fit.1
      r.length n

  prefix_back : prefix_in (bytes_of number r) ≡ r.prefix
  prefix_back =
      by_eq r.length 0 (λ e. rw (length_back, eq-eqb r.length 0 e) (sym (formed_zero r formed e fit.1)))
      (λ n. rw (length_back, ne_eqb r.length 0 n) (address_back n))

  port_back_lem : port_in (bytes_of number r) ≡ port_of r.action
  unfolding bytes_of
  port_back_lem = port_told number r r.action (omega (arith, fit.2))

  pub rule_back : rule_in (bytes_of number r) ≡ r
  rule_back =
      ap (λ (p : ℕ). rule_of p (length_in (bytes_of number r)) (port_in (bytes_of number r))) prefix_back
      ∙ ap (λ (l : ℕ). rule_of r.prefix l (port_in (bytes_of number r))) length_back
      ∙ ap (rule_of r.prefix r.length) port_back_lem ∙ port-rule r (formed_port r formed)

-- so two pairs with the same bytes are the same
pub bytes_tell : (m n : ℕ) (q r : Rule) → InRange m q → InRange n r → well_formed q ≡ true → well_formed r ≡ true
    → bytes_of m q ≡ bytes_of n r → (m ≡ n) × (q ≡ r)
bytes_tell m n q r fit other formed well same = (
  sym (number_back m q fit formed) ∙ ap number_in same ∙ number_back n r other well,
  sym (rule_back m q fit formed) ∙ ap rule_in same ∙ rule_back n r other well,
)
