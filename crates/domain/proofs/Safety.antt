-- The first half of the claim, from what holds after every run; and the table of a switch by its last applied number.
use mathlib.Core.Path.{◌≡◌, sym, ap, ◌∙◌, subst}
use mathlib.Core.Bool.{◌&&◌}
use mathlib.Core.List.{List, map, Memᴰ}
use Prim.Native.Nat.{ℕ, ◌-◌}
use native.Mathlib.Omega.{arith}
use lib.Dec.{eqb}
use borrow.Author.Tests.{eqb-true, eq-eqb}
use Rattle.answer.proofs.Bools.{and_join, and_parts}
use Rattle.lists.specs.Bytes.{field}
use Rattle.lists.specs.Kinds.{is_among}
use Rattle.flow.specs.declared.Rule.{Rule}
use Rattle.flow.specs.declared.Table.{Table}
use Rattle.message.specs.Layout.{number_at}
use Rattle.message.specs.declared.Message.TheVariants.{Share}
use Rattle.message.proofs.Ends.{share-number}
use Rattle.switch.specs.Calls.{receives}
use Rattle.controller.specs.Changes.{empty_undone}
use Rattle.protocol.specs.Orders.{falling, up_to}
use Rattle.protocol.proofs.Ends as protocol
use Rattle.protocol.proofs.Worlds as protocol-worlds
use Rattle.protocol.proofs.Claims as protocol-claims
use Rattle.protocol.proofs.Claims.{Lawful}
use Rattle.protocol.proofs.Orders.{lawful_agreed, falling_lawful, falling-tables}
use Rattle.protocol.proofs.Lasts.{up_to_lawful, lasts-up_to, table_by_last}
use Rattle.domain.specs.Settings.{Setting, Valid}
use Rattle.domain.specs.Calls.{at_switch, Run}
use Rattle.domain.specs.Ideals.{change_of, fed, table_at}
use Rattle.domain.specs.Claim.{made, numbers_at, highest, Carries, agreed, answered, Safe}
use Rattle.domain.proofs.View.{domain_of, view_switch, rule_in, made_so, view}
use Rattle.domain.proofs.Agreed.{change-fine, laws}
use Rattle.domain.proofs.Reached.{Reached, ranged}
use Rattle.domain.proofs.Ideals.{Fed, fed_lawful}
use Rattle.domain.proofs.Numbers.{made_is, numbers_are, made_of, share-made, made-among, numbers_at_lem}
use Rattle.domain.proofs.Numbers.{highest_is, at_member}

module _ (S : Setting) (v : Valid S) (r : Run) (R : Reached S r) where
  abbrev D : protocol.Domain Rule Table
  D = domain_of S

  abbrev safe : protocol-claims.Safe D (λ s. view_switch (r.switches s)) (made_so r.log)
  safe = R.invariant.safe

  lawful : Lawful D (answered S r)
  lawful = subst (Lawful D) (sym (numbers_are r.log)) safe.lawful

  -- fed in order of answer, and by rising number
  in_order : Fed S v (ranged S v) (answered S r) (fed (agreed S) (answered S r))
  in_order = fed_lawful S v (ranged S v) (answered S r) lawful

  by_number : Fed S v (ranged S v) (falling (answered S r)) (fed (agreed S) (falling (answered S r)))
  by_number =
      fed_lawful S v (ranged S v) (falling (answered S r))
      (falling_lawful D (laws S v (ranged S v)) (answered S r) lawful)

  tables_are : (s : ℕ) → (r.switches s).table ≡ protocol-claims.table_after D (answered S r) s
  tables_are s =
      safe.tables s ∙ ap (λ (l : List ℕ). protocol-claims.table_after D l s) (sym (numbers_are r.log))

  -- a share answered 1
  carried : (s : ℕ) (bytes written : List ℕ)
      → Memᴰ (record { call = at_switch s (receives bytes); answer = 1; written = written }) r.log
      → Carries (agreed S) s bytes
  carried s bytes written h =
      let read = R.read s bytes written h in
      let rule = read.2 in
      let m = share-made s bytes written r.log h in
      let own = safe.carried (made_of s bytes) m in
      let k = field bytes number_at 4 in
      let g = lawful_agreed D _ safe.lawful k (made-among (made_of s bytes) (made_so r.log) m) in
      let number : read.1 ≡ (change_of (agreed S) k).number =
      sym (share-number bytes read.3) ∙ sym (change-fine S v (ranged S v) k g).numbered in
      let content : rule ≡ (change_of (agreed S) k).rule =
      sym (own.1 ∙ ap rule_in read.3) in
      record {
        controller = read.0;
        change = change_of (agreed S) k;
        agreed = at_member (agreed S) (k - 1) empty_undone (omega (arith, g.0, g.1));
        on = own.0;
        share = read.3 ∙ (λ i. Share read.0 s (number i) (content i));
      }

  -- the last applied number of a switch
  highest-made : (s : ℕ) → (r.switches s).last ≡ highest (numbers_at s (made r.log))
  highest-made s =
      let all = map (λ (m : protocol-worlds.Made Rule). m.number) (made_so r.log) in
      let at : (k : ℕ) → is_among k (numbers_at s (made r.log)) ≡ (is_among k all && eqb (D.switch k) s) =
      λ k. ap (λ l. is_among k (numbers_at s l)) (made_is r.log)
      ∙ numbers_at_lem D.switch s k (made_so r.log) (λ m h. (safe.carried m h).0) in
      highest_is (numbers_at s (made r.log)) (r.switches s).last
      (λ k e.
      let t = and_parts (is_among k all) _ (sym (at k) ∙ e) in
      rw (eqb-true (D.switch k) s t.1) at (safe.highest k t.0))
      (λ some.
      let t = safe.lasts s some in
      at (r.switches s).last ∙ and_join _ _ t.0 (eq-eqb _ _ t.1))

  pub reached_safe : Safe S r
  reached_safe = record {
    carried = carried;
    in_order = in_order.none;
    by_number = by_number.none;
    tables = λ s l. tables_are s ∙ sym (in_order.tables s);
    tables_by_number = λ s l.
        tables_are s
        ∙ sym (falling-tables D (laws S v (ranged S v)) (answered S r) lawful s) ∙ sym (by_number.tables s);
    lasts = λ s l. highest-made s;
  }

  -- the table of a switch follows from its last applied number
  pub reached_table : (s : ℕ) → (r.switches s).table ≡ table_at (agreed S) s (r.switches s).last
  reached_table s =
      let L = laws S v (ranged S v) in
      let last = (r.switches s).last in
      let few = (lasts-up_to D L (view r) R.invariant s).few in
      table_by_last D L (view r) R.invariant s
      ∙ sym ((fed_lawful S v (ranged S v) (up_to last) (up_to_lawful D L last few)).tables s)
