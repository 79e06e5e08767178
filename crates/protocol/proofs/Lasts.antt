-- What a switch holds follows from its last applied number: it is what the agreed changes on it up to that number make,
-- in their order. So it is the same in any two runs where that number is.
use mathlib.Core.Path.{◌≡◌, refl, sym, ap, ◌∙◌}
use mathlib.Core.Bool.{true, false}
use mathlib.Core.List.{List, [], ◌∷◌}
use Prim.Native.Nat.{ℕ, zero, suc, ◌≤◌, ◌<◌}
use native.Mathlib.Omega.{arith}
use lib.Dec.{eqb}
use borrow.Author.Tests.{eqb-true, eqb-false, eq-eqb, ne_eqb}
use Rattle.answer.proofs.Bools.{by_bool, by_eq, by_le, by_or, tf, or_left, or_right}
use Rattle.lists.specs.Kinds.{among, is_among}
use Rattle.protocol.specs.Orders.{up_to}
use Rattle.protocol.proofs.Ends.{Domain}
use Rattle.protocol.proofs.Worlds.{World, Agreed}
use Rattle.protocol.proofs.Claims.{Laws, Next, Lawful, numbers, table_after, table_at}
use Rattle.protocol.proofs.Orders.{lawful_agreed, lawful_closed}
use Rattle.protocol.proofs.Invariant.{lasts, Invariant}

-- the numbers up to one are exactly these
up_to-among : (k j : ℕ) → 0 < j → j ≤ k → is_among j (up_to k) ≡ true
unfolding up_to among
up_to-among zero j p l = absurd (omega arith)
up_to-among (suc k) j p l =
    by_eq (suc k) j (λ e. or_left _ _ (eq-eqb (suc k) j e))
    (λ n. or_right (eqb (suc k) j) _ (up_to-among k j p (omega arith)))

up_to_past : (k j : ℕ) → k < j → is_among j (up_to k) ≡ false
unfolding up_to among
up_to_past zero j l = refl
up_to_past (suc k) j l = rw (ne_eqb (suc k) j (λ e. omega arith)) (up_to_past k j (omega arith))

module _ {Content Table : Type 0} (D : Domain Content Table) where
  -- the numbers of a list on a switch are the agreed ones up to b
  pub record UpTo (s b : ℕ) (ks : List ℕ) : Type 0 where
    pub few : b ≤ D.total
    pub none_past : (j : ℕ) → is_among j ks ≡ true → D.switch j ≡ s → j ≤ b
    pub all : (j : ℕ) → Agreed D j → D.switch j ≡ s → j ≤ b → is_among j ks ≡ true

  -- numbers on other switches make no difference
  skipped : (s a b : ℕ) → a ≤ b → ((j : ℕ) → a < j → j ≤ b → D.switch j ≡ s → ⊥)
      → table_after D (up_to b) s ≡ table_after D (up_to a) s
  unfolding table_after up_to
  skipped s a zero h none = let e : a ≡ 0 = omega arith in rw e
  skipped s a (suc b) h none =
      by_eq a (suc b) (λ e. rw e)
      (λ n. rw (ne_eqb (D.switch (suc b)) s (none (suc b) (omega arith) (omega arith)))
      (skipped s a b (omega arith) (λ j l u. none j l (omega arith))))

  -- the highest number, on the switch, is made last
  top_made : (s k : ℕ) → 0 < k → eqb (D.switch k) s ≡ true
      → (i : ℕ) × (suc i ≡ k) × (table_after D (up_to k) s ≡ D.apply (D.content k) (table_after D (up_to i) s))
  unfolding table_after up_to
  top_made s zero p on = absurd (omega arith)
  top_made s (suc i) p on = (i, refl, rw on)

  module _ (L : Laws D) where
    -- agreed numbers may be made in their order
    pub up_to_lawful : (k : ℕ) → k ≤ D.total → Lawful D (up_to k)
    unfolding up_to
    up_to_lawful zero l = tt
    up_to_lawful (suc k) l = (
      record {
        agreed = (omega arith, l);
        new = up_to_past k (suc k) (omega arith);
        none_skipped = λ j e. let low = L.lower (suc k) j e in up_to-among k j low.0 (omega (arith, low.1));
      },
      up_to_lawful k (omega arith),
    )

    -- a number that may be made next on a switch is the highest there
    next-highest : (k : ℕ) (ks : List ℕ) → Next D k ks → Lawful D ks → (j : ℕ) → is_among j ks ≡ true
        → D.switch j ≡ D.switch k → j < k
    next-highest k ks n h j m e =
        by_le k j
        (λ l. tf
        (by_eq k j (λ q. rw q m)
        (λ other. lawful_closed D ks h j m k
        (L.in_turn j k (lawful_agreed D ks h j m) n.agreed.0 (omega arith) (sym e))))
        n.new)
        (λ l. l)

    pub by_bound : (s b : ℕ) (ks : List ℕ) → Lawful D ks → UpTo s b ks
        → table_after D ks s ≡ table_after D (up_to b) s
    unfolding table_after among up_to
    by_bound s b [] h u =
        sym (skipped s 0 b (omega arith) (λ j l m e. tf (u.all j (l, omega (arith, u.few)) e m) refl))
    by_bound s b (k ∷ ks) h u =
        by_bool (eqb (D.switch k) s)
        (λ on.
        let e = eqb-true _ _ on in
        let top = u.none_past k (or_left (eqb k k) _ (eq-eqb k k refl)) e in
        let past = skipped s k b top (λ j l m q.
        by_or (eqb k j) _ (u.all j (omega arith, omega (arith, u.few)) q m)
        (λ same. omega (arith, eqb-true k j same))
        (λ there. omega (arith, next-highest k ks h.0 h.1 j there (q ∙ sym e)))) in
        let step = top_made s k h.0.agreed.0 on in
        let i = step.0 in
        let under = by_bound s i ks h.1 (record {
          few = omega (arith, step.1, h.0.agreed.1);
          none_past = λ j m q. omega (arith, step.1, next-highest k ks h.0 h.1 j m (q ∙ sym e));
          all = λ j g q m. h.0.none_skipped j
              (L.in_turn k j h.0.agreed g.0 (omega (arith, step.1)) (q ∙ sym e));
        }) in
        rw (on, past, step.2) (ap (D.apply (D.content k)) under))
        (λ off.
        let other = eqb-false (D.switch k) s off in
        rw off (by_bound s b ks h.1 (record {
          few = u.few;
          none_past = λ j m q. u.none_past j (or_right (eqb k j) _ m) q;
          all = λ j g q m. by_or (eqb k j) _ (u.all j g q m)
              (λ same. absurd (other (ap D.switch (eqb-true k j same) ∙ q))) (λ there. there);
        })))

    -- of a run
    pub lasts-up_to : (w : World Content Table) → Invariant D w → (s : ℕ) → UpTo s (lasts w s) (numbers D w.made)
    lasts-up_to w I s = record {
      few = by_eq (lasts w s) 0 (λ e. omega arith)
          (λ n. (lawful_agreed D _ I.safe.lawful (lasts w s) (I.safe.lasts s (omega arith)).0).1);
      none_past = λ j m e. rw e at (I.safe.highest j m);
      all = λ j g e m. I.all_made j g (rw e m);
    }

    pub table_by_last : (w : World Content Table) → Invariant D w → (s : ℕ)
        → (w.switches s).table ≡ table_at D s (lasts w s)
    table_by_last w I s = I.safe.tables s ∙ by_bound s (lasts w s) _ I.safe.lawful (lasts-up_to w I s)
