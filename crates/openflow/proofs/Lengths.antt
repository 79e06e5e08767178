-- How long a FLOW_MOD is, and its match: by the prefix's length and the action. Assumes nothing.
use mathlib.Core.Path.{◌≡◌, refl, ap, ◌∙◌}
use mathlib.Core.Bool.{Bool, true, false}
use mathlib.Core.List.{List, [], ◌++◌}
use Prim.Native.Nat.{ℕ, ◌+◌, ◌≤◌}
use native.Mathlib.Omega.{arith}
use borrow.Author.Tests.{eq-eqb, ne_eqb}
use lib.Dec.{eqb}
use lib.ListN.{length, take, drop}
use Rattle.answer.specs.Ask.{pick}
use Rattle.answer.proofs.Bools.{by_bool}
use Rattle.lists.specs.Bytes.{field}
use Rattle.lists.specs.Fields.{Field, width_of}
use Rattle.lists.proofs.Layouts.{laid_length, width_append, field_laid}
use Rattle.flow.specs.declared.Action.{Action}
use Rattle.flow.specs.declared.Action.TheVariants.{Remove, Set}
use Rattle.flow.specs.declared.Rule.{Rule}
use Rattle.openflow.specs.FlowMods.{header, flow_mod, eth_type, mask_of, whole_dst, masked_dst, flow_match, match_of}
use Rattle.openflow.specs.FlowMods.{command_of, instructions, length_of, fields_of, bytes_of}

-- the three forms of a match
module _ (prefix length : ℕ) where
  pub match_all : length ≡ 0 → match_of prefix length ≡ flow_match eth_type
  unfolding match_of
  match_all e = rw (eq-eqb length 0 e)

  pub match_whole : length ≡ 32 → match_of prefix length ≡ flow_match (eth_type ++ whole_dst prefix)
  unfolding match_of
  match_whole e = rw (ne_eqb length 0 (λ z. omega arith), eq-eqb length 32 e)

  pub match_masked : (length ≡ 0 → ⊥) → (length ≡ 32 → ⊥)
      → match_of prefix length ≡ flow_match (eth_type ++ masked_dst prefix (mask_of length))
  unfolding match_of
  match_masked n m = rw (ne_eqb length 0 n, ne_eqb length 32 m)

  -- what holds of each of the three holds of a match
  pub by_match : (C : List Field → Type 0) → C (flow_match eth_type) → C (flow_match (eth_type ++ whole_dst prefix))
      → C (flow_match (eth_type ++ masked_dst prefix (mask_of length))) → C (match_of prefix length)
  unfolding match_of
  by_match C all whole masked =
      by_bool (eqb length 0) (λ e. rw e all)
      (λ e. by_bool (eqb length 32) (λ f. rw (e, f) whole) (λ f. rw (e, f) masked))

  -- how many bytes it has: at length 0 it has no destination
  pub match_width : width_of (match_of prefix length) ≡ pick (eqb length 0) 16 24
  unfolding match_of
  match_width =
      by_bool (eqb length 0) (λ e. rw e) (λ e. by_bool (eqb length 32) (λ f. rw (e, f)) (λ f. rw (e, f)))

  pub match_none : length ≡ 0 → width_of (match_of prefix length) ≡ 16
  match_none e = match_width ∙ rw (eq-eqb length 0 e)

  pub match_some : (length ≡ 0 → ⊥) → width_of (match_of prefix length) ≡ 24
  match_some n = match_width ∙ rw (ne_eqb length 0 n)

  pub match_short : (16 ≤ width_of (match_of prefix length)) × (width_of (match_of prefix length) ≤ 24)
  match_short =
      by_bool (eqb length 0) (λ e. rw (match_width, e) (omega arith, omega arith))
      (λ e. rw (match_width, e) (omega arith, omega arith))

-- how long the FLOW_MOD of a rule would be with an action
abbrev sized : Rule → Action → ℕ
sized r a =
    width_of (header 0 0)
    + width_of (flow_mod (command_of a) r.length ++ match_of r.prefix r.length ++ instructions a)

-- a FLOW_MOD ends behind its match, or behind the instruction that a set has
module _ (r : Rule) where
  pub length_removed : r.action ≡ Remove → length_of r ≡ 48 + width_of (match_of r.prefix r.length)
  unfolding length_of
  length_removed e = ap (sized r) e ∙ omega (arith, width_append (match_of r.prefix r.length) [])

  pub length-set : (port : ℕ) → r.action ≡ Set port → length_of r ≡ 48 + width_of (match_of r.prefix r.length) + 24
  unfolding length_of
  length-set port e =
      ap (sized r) e ∙ omega (arith, width_append (match_of r.prefix r.length) (instructions (Set port)))

-- document 02's lengths: 64 and 88 at length 0, else 72 and 96
abbrev pub length_for : Bool → Action → ℕ
length_for none Remove = pick none 64 72
length_for none (Set port) = pick none 88 96

pub length_is : (r : Rule) → length_of r ≡ length_for (eqb r.length 0) r.action
length_is r = by_action r.action refl
  where
    by_action : (a : Action) → r.action ≡ a → length_of r ≡ length_for (eqb r.length 0) r.action
    by_action Remove e =
        rw (length_removed r e, match_width r.prefix r.length, e)
        (by_bool (eqb r.length 0) (λ z. rw z) (λ z. rw z))
    by_action (Set port) e =
        rw (length-set r port e, match_width r.prefix r.length, e)
        (by_bool (eqb r.length 0) (λ z. rw z) (λ z. rw z))

pub length_most : (r : Rule) → length_of r ≤ 96
length_most r = rw (length_is r) (most (eqb r.length 0) r.action)
  where
    most : (none : Bool) (a : Action) → length_for none a ≤ 96
    most true Remove = omega arith
    most false Remove = omega arith
    most true (Set port) = omega arith
    most false (Set port) = omega arith

-- a match is never past the end
pub length_least : (r : Rule) → 48 + width_of (match_of r.prefix r.length) ≤ length_of r
length_least r = by_action r.action refl
  where
    by_action : (a : Action) → r.action ≡ a → 48 + width_of (match_of r.prefix r.length) ≤ length_of r
    by_action Remove e = omega (arith, length_removed r e)
    by_action (Set port) e = omega (arith, length-set r port e)

-- the bytes are as many as that, and the header says so
module _ (number : ℕ) (r : Rule) where
  pub bytes-length : length (bytes_of number r) ≡ length_of r
  unfolding bytes_of length_of
  bytes-length = laid_length (fields_of number r) ∙ omega arith

  pub length_said : field (bytes_of number r) 2 2 ≡ length_of r
  unfolding bytes_of
  length_said =
      field_laid (take 2 (fields_of number r)) 2 (length_of r) (drop 3 (fields_of number r)) (omega (arith, length_most r))
