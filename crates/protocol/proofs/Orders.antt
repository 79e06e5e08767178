-- Numbers that may be made in the order in which they are may be made by rising number too, and make the same tables:
-- a number that moves past a higher one neither waits for it nor is on its switch. Assumes nothing.
use mathlib.Core.Path.{◌≡◌, refl, sym, ◌∙◌}
use mathlib.Core.Bool.{Bool, true, false, ◌||◌}
use mathlib.Core.List.{List, [], ◌∷◌}
use Prim.Native.Nat.{ℕ, ◌<◌}
use native.Mathlib.Omega.{arith}
use lib.Dec.{ltb, eqb}
use borrow.Author.Tests.{ltb-true, eqb-true, eq-eqb, ne_eqb}
use Rattle.answer.specs.Ask.{pick}
use Rattle.answer.proofs.Bools.{by_bool, by_or, tf, or_left, or_right, or_none, or_join}
use Rattle.lists.specs.Kinds.{among, is_among}
use Rattle.protocol.specs.Orders.{insert, falling}
use Rattle.protocol.proofs.Ends.{Domain}
use Rattle.protocol.proofs.Worlds.{Agreed}
use Rattle.protocol.proofs.Claims.{Laws, Next, Lawful, table_after}

-- sorting keeps the members
pub insert-among : (i k : ℕ) (js : List ℕ) → is_among i (insert k js) ≡ (eqb k i || is_among i js)
unfolding insert among
insert-among i k [] = refl
insert-among i k (j ∷ js) =
    by_bool (ltb k j) (λ e. rw (e, insert-among i k js) (swap (eqb j i) (eqb k i) (is_among i js))) (λ e. rw e)
  where
    swap : (a b c : Bool) → (a || (b || c)) ≡ (b || (a || c))
    swap true true c = refl
    swap true false c = refl
    swap false b c = refl

pub falling-among : (i : ℕ) (ks : List ℕ) → is_among i (falling ks) ≡ is_among i ks
unfolding falling among
falling-among i [] = refl
falling-among i (k ∷ ks) = insert-among i k (falling ks) ∙ rw (falling-among i ks)

module _ {Content Table : Type 0} (D : Domain Content Table) where
  falling-next : (k : ℕ) (ks : List ℕ) → Next D k ks → Next D k (falling ks)
  falling-next k ks n = record {
    agreed = n.agreed;
    new = falling-among k ks ∙ n.new;
    none_skipped = λ i e. falling-among i ks ∙ n.none_skipped i e;
  }

  -- each number of a lawful list is agreed, and what it waits for is in the list
  pub lawful_agreed : (ks : List ℕ) → Lawful D ks → (k : ℕ) → is_among k ks ≡ true → Agreed D k
  unfolding among
  lawful_agreed [] h k m = tf m refl
  lawful_agreed (j ∷ ks) h k m =
      by_or (eqb j k) _ m (λ e. rw (← eqb-true j k e) h.0.agreed) (lawful_agreed ks h.1 k)

  pub lawful_closed : (ks : List ℕ) → Lawful D ks → (k : ℕ) → is_among k ks ≡ true → (i : ℕ) → D.waits k i ≡ true
      → is_among i ks ≡ true
  unfolding among
  lawful_closed [] h k m i e = tf m refl
  lawful_closed (j ∷ ks) h k m i e =
      or_right (eqb j i) _
      (by_or (eqb j k) _ m (λ q. h.0.none_skipped i (rw (eqb-true j k q) e)) (λ q. lawful_closed ks h.1 k q i e))

  module _ (L : Laws D) where
    -- a number may be made next after the list without a higher one, and that one next after the list with it
    without : (k j : ℕ) (js : List ℕ) → k < j → Next D k (j ∷ js) → Next D k js
    unfolding among
    without k j js l n = record {
      agreed = n.agreed;
      new = (or_none (eqb j k) _ n.new).1;
      none_skipped = λ i e. by_or (eqb j i) _ (n.none_skipped i e)
          (λ q. absurd (omega (arith, eqb-true j i q, (L.lower k i e).1))) (λ q. q);
    }

    beside : (k j : ℕ) (js : List ℕ) → k < j → Next D j js → Next D j (insert k js)
    beside k j js l n = record {
      agreed = n.agreed;
      new = insert-among j k js ∙ or_join (eqb k j) _ (ne_eqb k j (λ e. omega arith)) n.new;
      none_skipped = λ i e. insert-among i k js ∙ or_right (eqb k i) _ (n.none_skipped i e);
    }

    insert_lawful : (k : ℕ) (js : List ℕ) → Lawful D js → Next D k js → Lawful D (insert k js)
    unfolding insert
    insert_lawful k [] h n = (n, tt)
    insert_lawful k (j ∷ js) h n =
        by_bool (ltb k j)
        (λ e.
        let l = ltb-true k j e in
        rw e (beside k j js l h.0, insert_lawful k js h.1 (without k j js l n)))
        (λ e. rw e (n, h))

    pub falling_lawful : (ks : List ℕ) → Lawful D ks → Lawful D (falling ks)
    unfolding falling
    falling_lawful [] h = tt
    falling_lawful (k ∷ ks) h =
        insert_lawful k (falling ks) (falling_lawful ks h.1) (falling-next k ks h.0)

    -- a number that is next is on another switch than each higher one in the list
    apart : (k : ℕ) (js : List ℕ) → Lawful D js → Next D k js → (j : ℕ) → is_among j js ≡ true → k < j
        → D.switch j ≡ D.switch k → ⊥
    apart k js h n j m l e =
        tf (lawful_closed js h j m k (L.in_turn j k (lawful_agreed js h j m) n.agreed.0 l (sym e))) n.new

    -- a table with a number made on it, or not; two on different switches may change places
    abbrev with : ℕ → ℕ → Table → Table
    with s k t = pick (eqb (D.switch k) s) (D.apply (D.content k) t) t

    places : (t : Table) (s j k : ℕ) → (D.switch j ≡ D.switch k → ⊥) → {new : Table} → new ≡ with s k t
        → with s j new ≡ with s k (with s j t)
    places t s j k n e =
        by_bool (eqb (D.switch j) s)
        (λ a.
        let b : eqb (D.switch k) s ≡ false = ne_eqb (D.switch k) s (λ q. n (eqb-true _ _ a ∙ sym q)) in
        rw (e, a, b))
        (λ a. rw (e, a))

    insert-tables : (k : ℕ) (js : List ℕ) → Lawful D js → Next D k js → (s : ℕ)
        → table_after D (insert k js) s ≡ table_after D (k ∷ js) s
    unfolding insert table_after among
    insert-tables k [] h n s = refl
    insert-tables k (j ∷ js) h n s =
        by_bool (ltb k j)
        (λ e.
        let l = ltb-true k j e in
        rw e (places (table_after D js s) s j k
        (apart k (j ∷ js) h n j (or_left (eqb j j) _ (eq-eqb j j refl)) l)
        (insert-tables k js h.1 (without k j js l n) s)))
        (λ e. rw e)

    pub falling-tables : (ks : List ℕ) → Lawful D ks → (s : ℕ) → table_after D (falling ks) s ≡ table_after D ks s
    unfolding falling table_after
    falling-tables [] h s = refl
    falling-tables (k ∷ ks) h s =
        insert-tables k (falling ks) (falling_lawful ks h.1) (falling-next k ks h.0) s
        ∙ rw (falling-tables ks h.1 s)
