-- What the check explores. A set of numbers that may be made, told by its numbers the highest first, is followed by
-- rising number; where the check makes a change that does not cover the address without being asked, it has made more,
-- and the ports are the same. So it tests the ports of every such set. Assumes nothing.
use mathlib.Core.Path.{◌≡◌, refl, sym, subst}
use mathlib.Core.Bool.{Bool, true, false, not, ◌||◌}
use mathlib.Core.List.{List, [], ◌∷◌}
use Prim.Native.Nat.{ℕ, zero, suc, ◌+◌, ◌≤◌}
use native.Mathlib.Omega.{arith}
use lib.Dec.{ltb, eqb}
use lib.ListN.{length, get_or}
use borrow.Author.Tests.{ltb-true, ltb-false, eqb-true}
use Rattle.answer.specs.Ask.{pick}
use Rattle.answer.proofs.Bools.{by_bool, by_or, tf, or_left, or_right}
use Rattle.lists.specs.Counts.{passing}
use Rattle.lists.specs.Kinds.{among, is_among}
use Rattle.lists.proofs.Tails.{every_at, every_all}
use Rattle.controller.specs.Changes.{empty_undone}
use Rattle.controller.specs.Readiness.{waits_for}
use Rattle.controller.specs.declared.Undone.{Undone}
use Rattle.domain.specs.Ideals.{change_of, skips_none, fed}
use Rattle.domain.proofs.Numbers.{at_member}
use Rattle.isolation.specs.Check.{Failure, fine, hits, ports_after, may_wait, explore}
use Rattle.isolation.proofs.Fed.{accepted}
use Rattle.isolation.proofs.Verdicts.{chosen, other, tested-fine, then_fine}
use Rattle.isolation.proofs.Falling.{Under, Strict, Once, below, below_all, below_step, below_skip}

-- more numbers made, and no more is skipped
pub skips_more : (us : List Undone) (ks ms : List ℕ) → ((j : ℕ) → is_among j ks ≡ true → is_among j ms ≡ true)
    → (u : Undone) → skips_none us ks u ≡ true → skips_none us ms u ≡ true
skips_more us ks ms more u h =
    every_all (λ v. not (waits_for u v) || is_among v.number ms) us empty_undone
    (λ i l.
    let v = get_or us i empty_undone in
    by_or (not (waits_for u v)) _
    (every_at (λ v. not (waits_for u v) || is_among v.number ks) us i empty_undone h l)
    (λ e. or_left (not (waits_for u v)) _ e) (λ e. or_right (not (waits_for u v)) _ (more v.number e)))

module _ (us : List Undone) (covered : ℕ → Bool) where
  -- numbers made of which these are some, with the same ports
  pub record Reaches (ks ms : List ℕ) : Type 0 where
    pub made : (j : ℕ) → is_among j ks ≡ true → is_among j ms ≡ true
    pub ports : (s l : ℕ) → ports_after us covered ks s l ≡ ports_after us covered ms s l

  -- one more on both sides
  made_too : (k : ℕ) (ks ms : List ℕ) → Reaches ks ms → Reaches (k ∷ ks) (k ∷ ms)
  unfolding ports_after among
  made_too k ks ms r = record {
    made = λ j m. by_or (eqb k j) _ m (λ e. or_left (eqb k j) _ e) (λ e. or_right (eqb k j) _ (r.made j e));
    ports = λ s l. by_bool (hits us covered k s l) (λ e. rw e) (λ e. rw e (r.ports s l));
  }

  -- one more that does not cover the address
  made_more : (k : ℕ) (ks ms : List ℕ) → covered k ≡ false → Reaches ks ms → Reaches ks (k ∷ ms)
  unfolding ports_after among
  made_more k ks ms c r = record {
    made = λ j m. or_right (eqb k j) _ (r.made j m);
    ports = λ s l. rw c (r.ports s l);
  }

  -- numbers that may be made one after another stand once, and those below a bound may be made too
  pub once : (ks : List ℕ) → (fed us ks).refused ≡ [] → Once ks
  once [] h = tt
  once (k ∷ ks) h = let a = accepted us ks k h in (a.new, once ks a.before)

  fed_below : (k : ℕ) (ks : List ℕ) → Strict ks → (fed us ks).refused ≡ [] → (fed us (below k ks)).refused ≡ []
  unfolding passing
  fed_below k [] s h = h
  fed_below k (j ∷ js) s h =
      by_bool (ltb j k)
      (λ e.
      let all : below k js ≡ js = below_all k js (λ i m. omega (arith, s.0 i m, ltb-true j k e)) in
      rw (e, all) h)
      (λ e. rw e (fed_below k js s.1 (accepted us js j h).before))

  -- they are agreed numbers
  under : (ks : List ℕ) → (fed us ks).refused ≡ [] → Under (suc (length us)) ks
  unfolding among
  under [] h j m = tf m refl
  under (k ∷ ks) h j m =
      let a = accepted us ks k h in
      by_or (eqb k j) _ m (λ e. omega (arith, eqb-true k j e, a.high)) (λ e. under ks a.before j e)

  -- none of them is 0
  positive : (ks : List ℕ) → (fed us ks).refused ≡ [] → below 1 ks ≡ []
  unfolding passing
  positive [] h = refl
  positive (k ∷ ks) h =
      let a = accepted us ks k h in
      by_bool (ltb k 1) (λ q. absurd (omega (arith, a.low, ltb-true k 1 q))) (λ q. rw q (positive ks a.before))

  module _ (test : List ℕ → Bool) (blame : List ℕ → Failure) (settled : ℕ) (ks : List ℕ) (strict : Strict ks)
      (may : (fed us ks).refused ≡ []) (all : (k : ℕ) → 1 ≤ k → k ≤ settled → is_among k ks ≡ true) where
    -- the next number of the set skips none
    next_free : (k : ℕ) → is_among k ks ≡ true → skips_none us (below k ks) (change_of us k) ≡ true
    next_free k m =
        let step = below_step k ks strict m in
        let a = accepted us (below k ks) k (rw step at (fed_below (suc k) ks strict may)) in
        every_all (λ v. not (waits_for (change_of us k) v) || is_among v.number (below k ks)) us empty_undone
        (λ i l.
        let v = get_or us i empty_undone in
        by_bool (waits_for (change_of us k) v)
        (λ e. or_right (not (waits_for (change_of us k) v)) _ (a.none_skipped v (at_member us i empty_undone l) e))
        (λ e. rw e))

    -- from numbers that reach those of the set below k, the check comes to some that reach the set
    explored : (left k budget c : ℕ) (ms : List ℕ) → explore us covered test blame settled left k ms budget ≡ fine c
        → Reaches (below k ks) ms → k + left ≡ suc (length us) → 1 ≤ k
        → (end : List ℕ) × Reaches ks end × (test end ≡ true)
    unfolding explore
    explored zero k budget c ms e r end some =
        let all : below k ks ≡ ks = below_all k ks (λ j m. omega (arith, under ks may j m)) in
        (ms, rw all at r, tested-fine (test ms) (blame ms) budget c e)
    explored (suc left) k budget c ms e r end some =
        let free = skips_none us ms (change_of us k) in
        let on : suc k + left ≡ suc (length us) = omega arith in
        let without = pick (may_wait us covered settled k) (explore us covered test blame settled left (suc k) ms budget)
        (fine budget) in
        by_bool (is_among k ks)
        (λ m.
        let yes : free ≡ true = skips_more us (below k ks) ms r.made (change_of us k) (next_free k m) in
        let both = then_fine without _ c (chosen free _ _ yes e) in
        explored left (suc k) both.0 c (k ∷ ms) both.2
        (subst (λ (l : List ℕ). Reaches l (k ∷ ms)) (sym (below_step k ks strict m)) (made_too k (below k ks) ms r))
        on (omega arith))
        (λ m.
        let still : Reaches (below (suc k) ks) ms =
        subst (λ (l : List ℕ). Reaches l ms) (sym (below_skip k ks m)) r in
        by_bool free
        (λ yes.
        let both = then_fine without _ c (chosen free _ _ yes e) in
        by_bool (covered k)
        (λ q.
        let late : ltb settled k ≡ true =
        by_bool (ltb settled k) (λ l. l) (λ l. tf (all k some (ltb-false settled k l)) m) in
        explored left (suc k) budget both.0 ms
        (chosen (may_wait us covered settled k) _ _ (simp (q, late)) both.1) still on (omega arith))
        (λ q. explored left (suc k) both.0 c (k ∷ ms) both.2 (made_more k (below (suc k) ks) ms q still)
        on (omega arith)))
        (λ no. explored left (suc k) budget c ms (other free _ _ no e) still on (omega arith)))

    -- some numbers that the check tests reach the set
    pub explored_all : (budget c : ℕ) → explore us covered test blame settled (length us) 1 [] budget ≡ fine c
        → (end : List ℕ) × Reaches ks end × (test end ≡ true)
    unfolding among
    explored_all budget c e =
        explored (length us) 1 budget c [] e start (omega arith) (omega arith)
      where
        start : Reaches (below 1 ks) []
        start = rw (positive ks may) (record { made = λ j m. tf m refl; ports = λ s l. refl })
