-- How many elements pass a test f, and where they stand: the places are as many, all different, and just those whose
-- elements pass; and what a store and a map do to the count. Assumes nothing.
use mathlib.Core.Path.{◌≡◌, refl, ap, ◌∙◌}
use mathlib.Core.Bool.{Bool, true, false, not, ◌&&◌}
use mathlib.Core.List.{List, [], ◌∷◌, map}
use Prim.Native.Nat.{ℕ, zero, suc, ◌≤◌, ◌<◌}
use native.Mathlib.Omega.{arith}
use lib.Dec.{ltb, eqb, leb-suc-zero, leb-suc-suc, eqb-suc-suc, eqb-zero-suc}
use lib.ListN.{length, get_or, set, replicate}
use borrow.Author.Tests.{ltb-true, lt-ltb, ne_eqb}
use Rattle.answer.proofs.Bools.{by_bool, and_join, and_parts, or_join}
use Rattle.lists.specs.Counts.{count, places}
use Rattle.lists.specs.Kinds.{among, different}

module _ {A : Type 0} (f : A → Bool) where
  -- one more in front, that passes and that fails
  pub count-passing : (x : A) (l : List A) → f x ≡ true → count f (x ∷ l) ≡ suc (count f l)
  unfolding count
  count-passing x l e = rw e

  pub count_failing : (x : A) (l : List A) → f x ≡ false → count f (x ∷ l) ≡ count f l
  unfolding count
  count_failing x l e = rw e

  -- no more pass than there are, and none where only failing ones are
  pub count-few : (l : List A) → count f l ≤ length l
  unfolding count
  count-few [] = omega arith
  count-few (x ∷ l) =
      let h = count-few l in
      by_bool (f x) (λ e. rw e (omega arith)) (λ e. rw e (omega arith))

  pub count-replicate : (n : ℕ) (x : A) → f x ≡ false → count f (replicate n x) ≡ 0
  unfolding count
  count-replicate zero x e = refl
  count-replicate (suc n) x e = rw e (count-replicate n x e)

  -- where the count is above 0, some place passes
  pub count-some : (l : List A) (z : A) → 0 < count f l → (c : ℕ) × (c < length l) × (f (get_or l c z) ≡ true)
  unfolding count
  count-some [] z h = absurd (omega arith)
  count-some (x ∷ l) z h =
      by_bool (f x) (λ e. (0, omega arith, e))
      (λ e. let t = count-some l z (rw e at h) in (suc t.0, omega (arith, t.1), t.2))

  -- a store of what passes, where something failed; and one of what fails
  pub count-set_passing : (l : List A) (c : ℕ) (x z : A) → c < length l → f (get_or l c z) ≡ false → f x ≡ true
      → count f (set l c x) ≡ suc (count f l)
  unfolding count
  count-set_passing [] c x z h fails passes = absurd (omega arith)
  count-set_passing (y ∷ l) zero x z h fails passes = rw (fails, passes)
  count-set_passing (y ∷ l) (suc c) x z h fails passes =
      let more = count-set_passing l c x z (omega arith) fails passes in
      by_bool (f y) (λ e. rw e (ap suc more)) (λ e. rw e more)

  pub count-set_failing : (l : List A) (c : ℕ) (x : A) → f x ≡ false → count f (set l c x) ≤ count f l
  unfolding count
  count-set_failing [] c x fails = omega arith
  count-set_failing (y ∷ l) zero x fails =
      rw fails (by_bool (f y) (λ e. rw e (omega arith)) (λ e. rw e (omega arith)))
  count-set_failing (y ∷ l) (suc c) x fails =
      let fewer = count-set_failing l c x fails in
      by_bool (f y) (λ e. rw e (omega arith)) (λ e. rw e (omega arith))

  -- a map to elements that pass only where what they came from passed
  pub count_map : (g : A → A) → ((x : A) → f (g x) ≡ true → f x ≡ true) → (l : List A)
      → count f (map g l) ≤ count f l
  unfolding count
  count_map g only [] = omega arith
  count_map g only (x ∷ l) =
      let fewer = count_map g only l in
      by_bool (f (g x))
      (λ e. rw (e, only x e) (omega arith))
      (λ e. rw e (by_bool (f x) (λ q. rw q (omega arith)) (λ q. rw q (omega arith))))

  -- as many places as pass, none before the first, none twice
  pub length-places : (i : ℕ) (l : List A) → length (places f i l) ≡ count f l
  unfolding count places
  length-places i [] = refl
  length-places i (x ∷ l) =
      let rest = length-places (suc i) l in
      by_bool (f x) (λ e. rw e (ap suc rest)) (λ e. rw e rest)

  places-before : (c i : ℕ) (l : List A) → c < i → among eqb c (places f i l) ≡ false
  unfolding places among
  places-before c i [] h = refl
  places-before c i (x ∷ l) h =
      let rest = places-before c (suc i) l (omega arith) in
      by_bool (f x) (λ e. rw e (or_join (eqb i c) _ (ne_eqb i c (λ q. omega arith)) rest)) (λ e. rw e rest)

  pub places-different : (i : ℕ) (l : List A) → different eqb (places f i l) ≡ true
  unfolding places different
  places-different i [] = refl
  places-different i (x ∷ l) =
      let rest = places-different (suc i) l in
      by_bool (f x)
      (λ e. rw e (and_join (not (among eqb i (places f (suc i) l))) _
      (ap not (places-before i (suc i) l (omega arith))) rest))
      (λ e. rw e rest)

  -- with every place one higher
  places_moved : (c i : ℕ) (l : List A) → among eqb (suc c) (places f (suc i) l) ≡ among eqb c (places f i l)
  unfolding places among
  places_moved c i [] = refl
  places_moved c i (x ∷ l) =
      let rest = places_moved c (suc i) l in
      by_bool (f x) (λ e. rw (e, eqb-suc-suc i c, rest)) (λ e. rw e rest)

  -- the places are just those whose elements pass: as one test, and both ways
  pub places-among : (c : ℕ) (l : List A) (z : A)
      → among eqb c (places f 0 l) ≡ (ltb c (length l) && f (get_or l c z))
  unfolding places among
  places-among c [] z = rw (leb-suc-zero c)
  places-among zero (x ∷ l) z =
      rw (lt-ltb 0 (suc (length l)) (omega arith))
      (by_bool (f x) (λ e. rw e) (λ e. rw e (places-before 0 1 l (omega arith))))
  places-among (suc c) (x ∷ l) z =
      let rest = places_moved c 0 l ∙ places-among c l z in
      rw (leb-suc-suc (suc c) (length l)) (by_bool (f x) (λ e. rw (e, eqb-zero-suc c) rest) (λ e. rw e rest))

  pub place_passes : (c : ℕ) (l : List A) (z : A) → among eqb c (places f 0 l) ≡ true
      → (c < length l) × (f (get_or l c z) ≡ true)
  place_passes c l z h =
      let t = and_parts (ltb c (length l)) (f (get_or l c z)) (rw (places-among c l z) at h) in
      (ltb-true _ _ t.0, t.1)

  pub passing_place : (c : ℕ) (l : List A) (z : A) → c < length l → f (get_or l c z) ≡ true
      → among eqb c (places f 0 l) ≡ true
  passing_place c l z h e = places-among c l z ∙ and_join (ltb c (length l)) _ (lt-ltb _ _ h) e
