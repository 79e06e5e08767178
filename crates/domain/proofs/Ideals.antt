-- Fed numbers that may be made one after another, the ideal controller refuses none, and its tables are those that the
-- protocol says they make. Assumes nothing.
use mathlib.Core.Path.{◌≡◌, refl, ap, ◌∙◌}
use mathlib.Core.Bool.{true, not}
use mathlib.Core.List.{List, [], ◌∷◌}
use Prim.Native.Nat.{ℕ, ◌+◌, ◌-◌, ◌<◌}
use native.Mathlib.Omega.{arith}
use lib.Dec.{ltb}
use lib.ListN.{length, get_or}
use borrow.Author.Tests.{ltb-true, lt-ltb, le-leb, eq-eqb, ne_eqb}
use Rattle.answer.proofs.Bools.{by_bool, and_join, and_parts, or_right}
use Rattle.lists.specs.Kinds.{is_among}
use Rattle.lists.proofs.Tails.{every_all}
use Rattle.flow.specs.declared.Rule.{Rule}
use Rattle.flow.specs.declared.Table.{Table}
use Rattle.playbook.specs.Printing.{InRange}
use Rattle.controller.specs.Changes.{empty_undone}
use Rattle.controller.specs.Readiness.{related, waits_for}
use Rattle.protocol.proofs.Ends as protocol
use Rattle.protocol.proofs.Claims.{Next, Lawful, table_after}
use Rattle.protocol.proofs.Families.{upd_at}
use Rattle.domain.specs.Settings.{Setting, Valid, playbook}
use Rattle.domain.specs.Ideals.{Ideal, change_of, skips_none, accepts, feed, fed}
use Rattle.domain.specs.Claim.{agreed}
use Rattle.domain.proofs.View.{domain_of}
use Rattle.domain.proofs.Agreed.{change-fine}

module _ (S : Setting) (v : Valid S) (ranged : InRange (playbook S)) where
  abbrev D : protocol.Domain Rule Table
  D = domain_of S

  -- what was fed is made
  pub record Fed (ks : List ℕ) (i : Ideal) : Type 0 where
    pub none : i.refused ≡ []
    pub made : i.made ≡ ks
    pub tables : (s : ℕ) → i.tables s ≡ table_after D ks s

  -- a number that may be made next skips no agreed change
  skips-none : (k : ℕ) (ks : List ℕ) → Next D k ks → skips_none (agreed S) ks (change_of (agreed S) k) ≡ true
  skips-none k ks n =
      every_all _ (agreed S) empty_undone
      (λ i l.
      let u = change_of (agreed S) k in
      let place : i + 1 - 1 ≡ i = omega arith in
      let w = get_or (agreed S) i empty_undone in
      let number : w.number ≡ i + 1 =
      rw place at (change-fine S v ranged (i + 1) (omega arith, omega arith)).numbered in
      by_bool (waits_for u w)
      (λ e.
      let t = and_parts (ltb w.number u.number) (related u w) e in
      let low : i + 1 < k =
      omega (arith, ltb-true w.number u.number t.0, (change-fine S v ranged k n.agreed).numbered) in
      let waits : D.waits k (i + 1) ≡ true =
      and_join _ _ (and_join _ _ (lt-ltb 0 (i + 1) (omega arith)) (lt-ltb (i + 1) k low)) (rw place t.1) in
      or_right (not (waits_for u w)) _ (rw number (n.none_skipped (i + 1) waits)))
      (λ e. rw e))

  feed-next : (k : ℕ) (ks : List ℕ) (i : Ideal) → Next D k ks → Fed ks i → Fed (k ∷ ks) (feed (agreed S) i k)
  unfolding table_after
  feed-next k ks i n f =
      let u = change_of (agreed S) k in
      let agreed-so = and_join _ _ (le-leb 1 k n.agreed.0) (le-leb k (length (agreed S)) n.agreed.1) in
      let new = ap (λ (l : List ℕ). not (is_among k l)) f.made ∙ ap not n.new in
      let skips = ap (λ (l : List ℕ). skips_none (agreed S) l u) f.made ∙ skips-none k ks n in
      let yes : accepts (agreed S) i k ≡ true = and_join _ _ (and_join _ _ agreed-so new) skips in
      rw yes (record {
        none = f.none;
        made = ap (λ (l : List ℕ). k ∷ l) f.made;
        tables = λ s. upd_at (λ s x. x ≡ table_after D (k ∷ ks) s) i.tables u.switch _ s
            (rw (eq-eqb u.switch u.switch refl, f.tables u.switch))
            (λ other. rw (ne_eqb u.switch s other) (f.tables s));
      })

  pub fed_lawful : (ks : List ℕ) → Lawful D ks → Fed ks (fed (agreed S) ks)
  unfolding fed table_after
  fed_lawful [] h = record { none = refl; made = refl; tables = λ s. refl }
  fed_lawful (k ∷ ks) h = feed-next k ks (fed (agreed S) ks) h.0 (fed_lawful ks h.1)
