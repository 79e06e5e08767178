-- Ways without loops, by findings that may differ from moment to moment. A packet that meets a switch again could have
-- waited there until then: so one that comes to a port that its client may not use can do so within 16 switches, each
-- of them met once. Assumes nothing.
use mathlib.Core.Path.{◌≡◌, refl, sym, subst}
use mathlib.Core.Bool.{Bool, true, false, not, ◌&&◌}
use mathlib.Core.List.{List}
use mathlib.Core.Logic.{◌⊎◌, inl, inr, ⊎_elim}
use Prim.Native.Nat.{ℕ, zero, suc, ◌≤◌, ◌<◌}
use native.Mathlib.Omega.{arith}
use lib.Dec.{eqb, ltb}
use borrow.Author.Tests.{ltb-true, lt-ltb, eq-eqb, ne_eqb}
use Rattle.answer.proofs.Bools.{by_eq, tf, and_parts}
use Rattle.lists.specs.Arrays.{every}
use Rattle.std.specs.Prelude.{Option, Some, None}
use Rattle.protocol.specs.Families.{count_below}
use Rattle.protocol.proofs.Families.{count-zero, count_less, count-every}
use Rattle.isolation.specs.Networks.{Link, link_ok}
use Rattle.isolation.specs.Traces.{lost, crossed, Step, foreign, leaves, goes_to, over, by_step, by_found, keeps_own}
use Rattle.isolation.specs.Flights.{fly}
use Rattle.isolation.proofs.Ways.{over-known}

-- the switches of the domain, and those of some but one
abbrev pub in_domain : ℕ → Bool
in_domain s = ltb s 16

abbrev without : ℕ → (ℕ → Bool) → ℕ → Bool
without u ok s = not (eqb u s) && ok s

-- it is not among them, and all others are
without_itself : (u : ℕ) (ok : ℕ → Bool) → without u ok u ≡ false
without_itself u ok = rw (eq-eqb u u refl)

without_other : (u : ℕ) (ok : ℕ → Bool) (s : ℕ) → (u ≡ s → ⊥) → ok s ≡ true → without u ok s ≡ true
without_other u ok s other h = rw (ne_eqb u s other, h)

module _ (c : ℕ) (links : List Link) (find : ℕ → ℕ → Option ℕ) where
  -- a switch is asked at a moment from i on: its port is foreign, or leads to a switch from where it goes on later
  pub data Leg (P : ℕ → ℕ → Type 0) (i s : ℕ) : Type 0 where
    out : (j p : ℕ) → i ≤ j → find j s ≡ Some p → over c links s p ≡ foreign → Leg P i s
    on : (j p t : ℕ) → i ≤ j → find j s ≡ Some p → over c links s p ≡ goes_to t → P (suc j) t → Leg P i s

  -- what goes on so goes on in a weaker way too, and what is asked from a moment on is asked from an earlier one on
  leg_map : (P Q : ℕ → ℕ → Type 0) → ((j t : ℕ) → P j t → Q j t) → (i s : ℕ) → Leg P i s → Leg Q i s
  leg_map P Q f i s (out j p l e x) = out j p l e x
  leg_map P Q f i s (on j p t l e x w) = on j p t l e x (f (suc j) t w)

  leg_earlier : (P : ℕ → ℕ → Type 0) (h i s : ℕ) → h ≤ i → Leg P i s → Leg P h s
  leg_earlier P h i s k (out j p l e x) = out j p (omega arith) e x
  leg_earlier P h i s k (on j p t l e x w) = on j p t (omega arith) e x w

  -- a way to a foreign port over at most so many switches, all of them allowed
  abbrev pub Within : (ℕ → Bool) → ℕ → ℕ → ℕ → Type 0
  Within ok zero i s = ⊥
  Within ok (suc n) i s = (ok s ≡ true) × Leg (Within ok n) i s

  -- such a way of some length
  abbrev Way : (ℕ → Bool) → ℕ → ℕ → Type 0
  Way ok i s = (n : ℕ) × Within ok n i s

  -- its first switch is allowed
  starts : (ok : ℕ → Bool) (n i s : ℕ) → Within ok n i s → ok s ≡ true
  starts ok zero i s w = absurd w
  starts ok (suc n) i s w = w.0

  -- a way avoids a switch, or there is one from that switch on, from its last visit, that does not come back to it
  strip : (ok : ℕ → Bool) (u n i s : ℕ) → Within ok n i s → Within (without u ok) n i s ⊎ Leg (Way (without u ok)) i u
  strip ok u zero i s w = absurd w
  strip ok u (suc n) i s w = go w.1 (λ j t v. strip ok u n j t v)
    where
      ends : Leg (Within (without u ok) n) i s
          → Within (without u ok) (suc n) i s ⊎ Leg (Way (without u ok)) i u
      ends leg =
          by_eq u s
          (λ e. inr (leg_map _ _ (λ j t v. (n, v)) i u (subst (λ v. Leg (Within (without u ok) n) i v) (sym e) leg)))
          (λ other. inl (without_other u ok s other w.0, leg))

      go : Leg (Within ok n) i s
          → ((j t : ℕ) → Within ok n j t → Within (without u ok) n j t ⊎ Leg (Way (without u ok)) j u)
          → Within (without u ok) (suc n) i s ⊎ Leg (Way (without u ok)) i u
      go (out j p l e x) rest = ends (out j p l e x)
      go (on j p t l e x v) rest =
          ⊎_elim (λ a. ends (on j p t l e x a)) (λ b. inr (leg_earlier _ i (suc j) u (omega arith) b))
          (rest (suc j) t v)

  -- so as many switches are enough as are allowed
  cut : (a : ℕ) (ok : ℕ → Bool) → count_below 16 ok ≤ a → ((s : ℕ) → ok s ≡ true → in_domain s ≡ true)
      → (i s : ℕ) → Way ok i s → Within in_domain a i s
  cut zero ok few known i s w =
      let here = starts ok w.0 i s w.1 in
      tf here (count-zero 16 ok (omega arith) s (ltb-true s 16 (known s here)))
  cut (suc a) ok few known i s w =
      let here = starts ok w.0 i s w.1 in
      let still : (u : ℕ) → without s ok u ≡ true → ok u ≡ true = λ u h. (and_parts (not (eqb s u)) _ h).1 in
      let fewer = count_less 16 (without s ok) ok (λ u l. still u) s (ltb-true s 16 (known s here)) here
      (without_itself s ok) in
      let rest : (j t : ℕ) → Way (without s ok) j t → Within in_domain a j t =
      λ j t v. cut a (without s ok) (omega arith) (λ u h. known u (still u h)) j t v in
      ⊎_elim
      (λ v. tf (starts (without s ok) w.0 i s v) (without_itself s ok))
      (λ leg. (known s here, leg_map _ _ rest i s leg))
      (strip ok s w.0 i s w.1)

  module _ (ok : every link_ok links ≡ true) where
    -- a packet that flies to a foreign port has such a way
    flies : (hops i s : ℕ) → s < 16 → keeps_own (fly c links find i hops s) ≡ false → Within in_domain hops i s
    unfolding fly
    flies zero i s l h = tf refl h
    flies (suc hops) i s l h = (lt-ltb s 16 l, found (find i s) refl h (λ t k r. flies hops (suc i) t k r))
      where
        Onward : Type 0
        Onward = (t : ℕ) → t < 16 → keeps_own (fly c links find (suc i) hops t) ≡ false → Within in_domain hops (suc i) t

        met : (p : ℕ) → find i s ≡ Some p → (x : Step) → over c links s p ≡ x
            → keeps_own (by_step x (crossed s p) (λ (t : ℕ). fly c links find (suc i) hops t)) ≡ false → Onward
            → Leg (Within in_domain hops) i s
        met p e foreign q r rest = out i p (omega arith) e q
        met p e leaves q r rest = tf refl r
        met p e (goes_to t) q r rest = on i p t (omega arith) e q (rest t (over-known c links ok s p t q) r)

        found : (x : Option ℕ) → find i s ≡ x
            → keeps_own (by_found x (lost s)
            (λ (p : ℕ). by_step (over c links s p) (crossed s p) (λ (t : ℕ). fly c links find (suc i) hops t))) ≡ false
            → Onward → Leg (Within in_domain hops) i s
        found None e r rest = tf refl r
        found (Some p) e r rest = met p e (over c links s p) refl r rest

    -- and one over 16 switches at most
    pub loopless : (hops i s : ℕ) → s < 16 → keeps_own (fly c links find i hops s) ≡ false → Within in_domain 16 i s
    loopless hops i s l h =
        let all = count-every 16 in_domain (λ j k. lt-ltb j 16 k) in
        cut 16 in_domain (omega arith) (λ u k. k) i s (hops, flies hops i s l h)
