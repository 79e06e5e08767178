-- The way of a packet: it depends on what the switches that it meets find, and on the domain's only; and a port that
-- its client may not use is met within 16 switches or not at all, since the switches met until then are all different.
-- Assumes nothing.
use mathlib.Core.Path.{◌≡◌, refl, sym, ap, ◌∙◌}
use mathlib.Core.Bool.{Bool, true, false, not, ◌&&◌}
use mathlib.Core.List.{List, [], ◌∷◌}
use Prim.Native.Nat.{ℕ, zero, suc, ◌+◌, ◌-◌, ◌≤◌, ◌<◌}
use native.Mathlib.Omega.{arith}
use lib.Dec.{eqb}
use lib.ListN.{length}
use borrow.Author.Tests.{ltb-true, eqb-true, eq-eqb}
use Rattle.answer.proofs.Bools.{by_bool, by_eq, by_or, tf, and_join, and_parts, or_left, or_right, is_false}
use Rattle.lists.specs.Arrays.{every}
use Rattle.lists.specs.Kinds.{among, is_among, different}
use Rattle.lists.proofs.Pigeonhole.{members}
use Rattle.std.specs.Prelude.{Option, Some, None}
use Rattle.isolation.specs.Networks.{Far, outside, to_switch, Link, far_ok, link_ok}
use Rattle.isolation.specs.Traces.{lost, crossed, Step, foreign, leaves, goes_to, may_use}
use Rattle.isolation.specs.Traces.{behind, over, by_step, by_found, follow, keeps_own}

-- the numbers below one
unfoldable numbers_below : ℕ → List ℕ
numbers_below zero = []
numbers_below (suc n) = n ∷ numbers_below n

length_below : (n : ℕ) → length (numbers_below n) ≡ n
unfolding numbers_below
length_below zero = refl
length_below (suc n) = ap suc (length_below n)

all_there : (n k : ℕ) → k < n → is_among k (numbers_below n) ≡ true
unfolding numbers_below among
all_there zero k l = absurd (omega arith)
all_there (suc n) k l =
    by_eq n k (λ e. or_left (eqb n k) _ (eq-eqb n k e)) (λ e. or_right (eqb n k) _ (all_there n k (omega arith)))

not-foreign : {C : Type 0} (t : ℕ) → foreign ≡ goes_to t → C
not-foreign t e = let z : ◌≡◌ {A = ℕ} 0 1 = cc in absurd (omega arith)

not-leaves : {C : Type 0} (t : ℕ) → leaves ≡ goes_to t → C
not-leaves t e = let z : ◌≡◌ {A = ℕ} 0 1 = cc in absurd (omega arith)

-- links lead to switches of the domain
behind-known : (f : Far) → far_ok f ≡ true → (t : ℕ) → behind f ≡ goes_to t → t < 16
behind-known outside ok t e = not-leaves t e
behind-known (to_switch s) ok t e = let q : s ≡ t = cc in omega (arith, ltb-true s 16 ok)

pub over-known : (c : ℕ) (ls : List Link) → every link_ok ls ≡ true → (s p t : ℕ) → over c ls s p ≡ goes_to t → t < 16
unfolding over every
over-known c [] ok s p t e = let z : ◌≡◌ {A = ℕ} 0 1 = cc in absurd (omega arith)
over-known c (l ∷ ls) ok s p t e =
    let both = and_parts (link_ok l) (every link_ok ls) ok in
    by_bool (eqb l.switch s && eqb l.port p)
    (λ q. by_bool (may_use c l.owner) (λ m. behind-known l.far both.0 t (rw (q, m) at e))
    (λ m. not-foreign t (rw (q, m) at e)))
    (λ q. over-known c ls both.1 s p t (rw q at e))

module _ (c : ℕ) (links : List Link) (ok : every link_ok links ≡ true) where
  -- two families of findings that agree on the domain's switches
  pub follow-same : (f g : ℕ → Option ℕ) → ((s : ℕ) → s < 16 → f s ≡ g s) → (hops s : ℕ) → s < 16
      → follow c links f hops s ≡ follow c links g hops s
  unfolding follow
  follow-same f g same zero s l = refl
  follow-same f g same (suc hops) s l = rw (same s l) (found (g s) (λ t k. follow-same f g same hops t k))
    where
      met : (p : ℕ) (x : Step) → over c links s p ≡ x
          → ((t : ℕ) → t < 16 → follow c links f hops t ≡ follow c links g hops t)
          → by_step x (crossed s p) (λ (t : ℕ). follow c links f hops t)
          ≡ by_step x (crossed s p) (λ (t : ℕ). follow c links g hops t)
      met p foreign e rest = refl
      met p leaves e rest = refl
      met p (goes_to t) e rest = rest t (over-known c links ok s p t e)

      found : (x : Option ℕ) → ((t : ℕ) → t < 16 → follow c links f hops t ≡ follow c links g hops t)
          → by_found x (lost s) (λ (p : ℕ). by_step (over c links s p) (crossed s p) (λ (t : ℕ). follow c links f hops t))
          ≡ by_found x (lost s) (λ (p : ℕ). by_step (over c links s p) (crossed s p) (λ (t : ℕ). follow c links g hops t))
      found None rest = refl
      found (Some p) rest = met p (over c links s p) refl rest

  module _ (f : ℕ → Option ℕ) where
    -- whether a foreign port is met within so many switches
    abbrev crosses : ℕ → ℕ → Bool
    crosses hops s = not (keeps_own (follow c links f hops s))

    -- from a switch: it is known there, or as from the next switch with one fewer
    data After (s : ℕ) : Type 0 where
      stays : (b : Bool) → ((n : ℕ) → crosses (suc n) s ≡ b) → After s
      moves : (t : ℕ) → t < 16 → ((n : ℕ) → crosses (suc n) s ≡ crosses n t) → After s

    after : (s : ℕ) → After s
    unfolding follow
    after s = found (f s) refl
      where
        met : (p : ℕ) → f s ≡ Some p → (x : Step) → over c links s p ≡ x → After s
        met p e foreign q = stays true (λ n. rw (e, q))
        met p e leaves q = stays false (λ n. rw (e, q))
        met p e (goes_to t) q = moves t (over-known c links ok s p t q) (λ n. rw (e, q))

        found : (x : Option ℕ) → f s ≡ x → After s
        found None e = stays false (λ n. rw e)
        found (Some p) e = met p e (over c links s p) refl

    none_yet : (s : ℕ) → crosses 0 s ≡ false
    unfolding follow
    none_yet s = refl

    more : (n s : ℕ) → crosses n s ≡ true → crosses (suc n) s ≡ true
    more zero s h = tf h (none_yet s)
    more (suc n) s h = go (after s) (λ t e. more n t e)
      where
        go : After s → ((t : ℕ) → crosses n t ≡ true → crosses (suc n) t ≡ true) → crosses (suc (suc n)) s ≡ true
        go (stays b e) rest = e (suc n) ∙ sym (e n) ∙ h
        go (moves t l e) rest = e (suc n) ∙ rest t (sym (e n) ∙ h)

    any_more : (d n s : ℕ) → crosses n s ≡ true → crosses (n + d) s ≡ true
    any_more zero n s h = let z : n + 0 ≡ n = omega arith in rw z h
    any_more (suc d) n s h = let z : n + suc d ≡ suc (n + d) = omega arith in rw z (more (n + d) s (any_more d n s h))

    more_than : (m n s : ℕ) → m ≤ n → crosses m s ≡ true → crosses n s ≡ true
    more_than m n s l h = let z : m + (n - m) ≡ n = omega arith in rw z at (any_more (n - m) m s h)

    -- it is met at the n-th switch, and not before: for one n at most
    abbrev Exactly : ℕ → ℕ → Type 0
    Exactly n s = (0 < n) × (crosses n s ≡ true) × (crosses (n - 1) s ≡ false)

    one_length : (m n s : ℕ) → Exactly m s → Exactly n s → m < n → ⊥
    one_length m n s x y l = tf (more_than m (n - 1) s (omega arith) x.1) y.2

    -- the switches up to there
    record Trail (n s : ℕ) : Type 0 where
      switches : List ℕ
      long : length switches ≡ n
      apart : different eqb switches ≡ true
      known : (j : ℕ) → is_among j switches ≡ true → j < 16
      each : (j : ℕ) → is_among j switches ≡ true → (m : ℕ) × (m ≤ n) × Exactly m j

    trail : (n s : ℕ) → s < 16 → Exactly n s → Trail n s
    unfolding among different
    trail zero s l x = absurd (omega (arith, x.0))
    trail (suc zero) s l x = record {
      switches = s ∷ [];
      long = refl;
      apart = refl;
      known = λ j m. by_or (eqb s j) _ m (λ e. omega (arith, eqb-true s j e)) (λ e. tf e refl);
      each = λ j m. by_or (eqb s j) _ m (λ e. (1, omega arith, rw (eqb-true s j e) at x)) (λ e. tf e refl);
    }
    trail (suc (suc n)) s l x = go (after s) (λ t k y. trail (suc n) t k y)
      where
        down : suc (suc n) - 1 ≡ suc n
        down = omega arith

        down_again : suc n - 1 ≡ n
        down_again = omega arith

        before : crosses (suc n) s ≡ false
        before = rw down at x.2

        go : After s → ((t : ℕ) → t < 16 → Exactly (suc n) t → Trail (suc n) t) → Trail (suc (suc n)) s
        go (stays b e) rest = tf (e n ∙ sym (e (suc n)) ∙ x.1) before
        go (moves t k e) rest =
            let y : Exactly (suc n) t = (omega arith, sym (e (suc n)) ∙ x.1, rw down_again (sym (e n) ∙ before)) in
            let r = rest t k y in
            let new : is_among s r.switches ≡ false =
            is_false _ (λ m. let z = r.each s m in
            one_length z.0 (suc (suc n)) s z.2 x (omega (arith, z.1))) in
            record {
              switches = s ∷ r.switches;
              long = ap suc r.long;
              apart = and_join _ _ (ap not new) r.apart;
              known = λ j m. by_or (eqb s j) _ m (λ q. omega (arith, eqb-true s j q)) (λ q. r.known j q);
              each = λ j m. by_or (eqb s j) _ m
                  (λ q. (suc (suc n), omega arith, rw (eqb-true s j q) at x))
                  (λ q. let z = r.each j q in (z.0, omega (arith, z.1), z.2));
            }

    -- the first number of switches at which it is met
    first : (n s : ℕ) → crosses n s ≡ true → (m : ℕ) × Exactly m s
    first zero s h = tf h (none_yet s)
    first (suc n) s h =
        let z : suc n - 1 ≡ n = omega arith in
        by_bool (crosses n s) (λ e. first n s e) (λ e. (suc n, (omega arith, h, rw z e)))

    pub soon : (hops s : ℕ) → s < 16 → crosses hops s ≡ true → crosses 16 s ≡ true
    soon hops s l h =
        let x = first hops s h in
        let r = trail x.0 s l x.1 in
        let few = members eqb eqb-true (λ k. eq-eqb k k refl) r.switches (numbers_below 16) r.apart
        (λ k m. all_there 16 k (r.known k m)) in
        more_than x.0 16 s (omega (arith, few, r.long, length_below 16)) x.1.1
