-- For one address the ports of a switch are a function of its last applied number: of two changes on a switch the
-- higher waits for the lower, so those made there are the first ones. And what is made has all that it waits for.
-- Assumes nothing.
use mathlib.Core.Path.{◌≡◌, refl, sym, ap, ◌∙◌}
use mathlib.Core.Bool.{Bool, true, false, ◌&&◌, ◌||◌}
use mathlib.Core.List.{List, [], ◌∷◌}
use Prim.Native.Nat.{ℕ, zero, suc, ◌+◌, ◌-◌, ◌≤◌, ◌<◌}
use native.Mathlib.Omega.{arith}
use lib.Dec.{ltb, eqb}
use lib.ListN.{length, get_or}
use borrow.Author.Tests.{lt-ltb, eq-eqb, eqb-true}
use Rattle.answer.specs.Ask.{pick}
use Rattle.answer.proofs.Bools.{by_bool, by_eq, by_or, by_le, tf, is_false, and_join, and_parts, or_left, or_right}
use Rattle.lists.specs.Kinds.{among, is_among}
use Rattle.std.specs.Prelude.{Option}
use Rattle.controller.specs.Changes.{empty_undone}
use Rattle.controller.specs.Readiness.{waits_for, same_switch}
use Rattle.controller.specs.declared.Undone.{Undone}
use Rattle.protocol.specs.Orders.{up_to}
use Rattle.domain.specs.Ideals.{change_of, fed}
use Rattle.isolation.specs.Check.{port_by, hits, ports_after}
use Rattle.isolation.specs.Flights.{is_on, is_needed, with_needs}
use Rattle.isolation.proofs.Fed.{accepted, closed, member, number_is}

module _ (us : List Undone) (numbers : (i : ℕ) → i < length us → (get_or us i empty_undone).number ≡ i + 1) where
  -- where some numbers are made, so is one for which one of them waits, and so are all those of the list with needs
  needed_made : (ks : List ℕ) → (fed us ks).refused ≡ [] → (j : ℕ) → 1 ≤ j → j ≤ length us → (known : List ℕ)
      → ((k : ℕ) → is_among k known ≡ true → is_among k ks ≡ true) → is_needed us j known ≡ true → is_among j ks ≡ true
  unfolding is_needed among
  needed_made ks may j low high [] all h = tf h refl
  needed_made ks may j low high (k ∷ known) all h =
      by_or (waits_for (change_of us k) (change_of us j)) _ h
      (λ e. rw (number_is us numbers j low high) at
      (closed us ks may k (all k (or_left (eqb k k) _ (eq-eqb k k refl))) (change_of us j) (member us j low high) e))
      (λ e. needed_made ks may j low high known (λ i m. all i (or_right (eqb k i) _ m)) e)

  pub needs_made : (ks : List ℕ) → (fed us ks).refused ≡ [] → (known : ℕ → Bool)
      → ((k : ℕ) → 1 ≤ k → known k ≡ true → is_among k ks ≡ true) → (n : ℕ) → n ≤ length us → (found : List ℕ)
      → ((k : ℕ) → is_among k found ≡ true → is_among k ks ≡ true)
      → (k : ℕ) → is_among k (with_needs us known n found) ≡ true → is_among k ks ≡ true
  unfolding with_needs among
  needs_made ks may known all zero few found there = there
  needs_made ks may known all (suc n) few found there =
      by_bool (known (suc n) || is_needed us (suc n) found)
      (λ e. rw e (needs_made ks may known all n (omega arith) (suc n ∷ found)
      (λ k m. by_or (eqb (suc n) k) _ m
      (λ q. rw (← eqb-true (suc n) k q) (by_or (known (suc n)) _ e (all (suc n) (omega arith))
      (needed_made ks may (suc n) (omega arith) few found there)))
      (λ q. there k q))))
      (λ e. rw e (needs_made ks may known all n (omega arith) found there))

  module _ (covered : ℕ → Bool) (s : ℕ) where
    abbrev on : ℕ → Bool
    on k = is_on us covered s k

    -- of two changes on the switch the higher waits for the lower
    pub in_turn_lem : (j k : ℕ) → 1 ≤ j → j < k → k ≤ length us → on j ≡ true → on k ≡ true
        → waits_for (change_of us k) (change_of us j) ≡ true
    in_turn_lem j k low less high oj ok =
        and_join (ltb (change_of us j).number (change_of us k).number) _
        (rw (number_is us numbers j low (omega arith), number_is us numbers k (omega arith) high) (lt-ltb j k less))
        (or_left (same_switch (change_of us k) (change_of us j)) _
        (eq-eqb (change_of us j).switch (change_of us k).switch
        (eqb-true (change_of us j).switch s (and_parts (covered j) _ oj).1
        ∙ sym (eqb-true (change_of us k).switch s (and_parts (covered k) _ ok).1))))

    off : (a b : Bool) → a ≡ false → (a && b) ≡ false
    off a b e = rw e

    -- nothing on the switch in between
    flat : (m d l : ℕ) → ((j : ℕ) → m < j → j ≤ m + d → on j ≡ false)
        → ports_after us covered (up_to (m + d)) s l ≡ ports_after us covered (up_to m) s l
    unfolding ports_after up_to
    flat m zero l h = let e : m + 0 ≡ m = omega arith in ap (λ (n : ℕ). ports_after us covered (up_to n) s l) e
    flat m (suc d) l h =
        let e : m + suc d ≡ suc (m + d) = omega arith in
        ap (λ (n : ℕ). ports_after us covered (up_to n) s l) e
        ∙ rw (off (on (suc (m + d))) (eqb (change_of us (suc (m + d))).rule.length l)
        (h (suc (m + d)) (omega arith) (omega arith)))
        (flat m d l (λ j a b. h j a (omega arith)))

    -- the ports up to a number are those up to the one before, with its change carried out
    carried_out_lem : (k l : ℕ) → 1 ≤ k → ports_after us covered (up_to k) s l
        ≡ pick (hits us covered k s l) (port_by (change_of us k).rule.action) (ports_after us covered (up_to (k - 1)) s l)
    unfolding ports_after up_to
    carried_out_lem zero l low = absurd (omega arith)
    carried_out_lem (suc k) l low =
        let e : suc k - 1 ≡ k = omega arith in
        rw e

    -- the last number made on the switch
    pub record Last (ks : List ℕ) (m : ℕ) : Type 0 where
      pub ports : (l : ℕ) → ports_after us covered ks s l ≡ ports_after us covered (up_to m) s l
      pub bound : m ≤ length us
      pub top : (j : ℕ) → is_among j ks ≡ true → on j ≡ true → j ≤ m
      pub itself : 0 < m → (is_among m ks ≡ true) × (on m ≡ true)

    pub last : (ks : List ℕ) → (fed us ks).refused ≡ [] → (m : ℕ) × Last ks m
    unfolding among ports_after
    last [] h = (
      0,
      record {
        ports = λ l. unfold up_to in refl;
        bound = omega arith;
        top = λ j m o. tf m refl;
        itself = λ l. absurd (omega arith);
      },
    )
    last (k ∷ ks) h =
        let a = accepted us ks k h in
        let before = last ks a.before in
        let m = before.0 in
        let t = before.1 in
        by_bool (on k)
        (λ o.
        let low : m < k =
        by_le k m
        (λ le. by_eq m k
        (λ e. tf (rw e at (t.itself (omega (arith, a.low))).0) a.new)
        (λ n.
        let self = t.itself (omega (arith, a.low)) in
        tf (rw (number_is us numbers k a.low a.high) at
        (closed us ks a.before m self.0 (change_of us k) (member us k a.low a.high)
        (in_turn_lem k m a.low (omega arith) t.bound o self.1))) a.new))
        (λ l. l) in
        let between : (j : ℕ) → m < j → j ≤ m + (k - 1 - m) → on j ≡ false =
        λ j above below. is_false (on j) (λ oj.
        let there = rw (number_is us numbers j (omega arith) (omega (arith, a.high))) at
        (a.none_skipped (change_of us j) (member us j (omega arith) (omega (arith, a.high)))
        (in_turn_lem j k (omega arith) (omega arith) a.high oj o)) in
        omega (arith, t.top j there oj)) in
        let up : m + (k - 1 - m) ≡ k - 1 = omega arith in (
          k,
          record {
            ports = λ l.
                ap (λ (f : Option ℕ). pick (hits us covered k s l) (port_by (change_of us k).rule.action) f)
                (t.ports l ∙ sym (flat m (k - 1 - m) l between)
                ∙ ap (λ (n : ℕ). ports_after us covered (up_to n) s l) up)
                ∙ sym (carried_out_lem k l a.low);
            bound = a.high;
            top = λ j there oj. by_or (eqb k j) _ there (λ e. omega (arith, eqb-true k j e))
                (λ e. omega (arith, t.top j e oj));
            itself = λ l. (or_left (eqb k k) _ (eq-eqb k k refl), o);
          },
        ))
        (λ o. (
          m,
          record {
            ports = λ l. rw (off (on k) (eqb (change_of us k).rule.length l) o) (t.ports l);
            bound = t.bound;
            top = λ j there oj. by_or (eqb k j) _ there (λ e. tf oj (rw (← eqb-true k j e) o)) (λ e. t.top j e oj);
            itself = λ l. let self = t.itself l in (or_right (eqb k m) _ self.0, self.1);
          },
        ))
