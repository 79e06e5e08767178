-- What is ready among undone changes by rising number. A change is ready just where each lower-numbered one is on
-- another switch, and one that it is not tied to; so a switch has at most one ready change, the one that is found, and
-- the lowest undone change is ready. Assumes nothing.
use mathlib.Core.Path.{◌≡◌, refl, sym, ap, ◌∙◌}
use mathlib.Core.Bool.{true, false, not, ◌&&◌}
use mathlib.Core.List.{List, [], ◌∷◌}
use Prim.Native.Nat.{ℕ, zero, suc, ◌<◌}
use native.Mathlib.Omega.{arith}
use lib.Dec.{ltb, eqb}
use lib.ListN.{length, get_or, length-map, get_or-map}
use borrow.Author.Tests.{ltb-true, lt-ltb, eqb-true, eq-eqb, not-true}
use Rattle.answer.proofs.Bools.{by_bool, by_eq, by_le, by_or, tf, is_false, and_join, and_parts, not_both}
use Rattle.answer.proofs.Bools.{or_left, or_right}
use Rattle.lists.specs.Rising.{rising_from}
use Rattle.lists.proofs.Rising.{rising_places}
use Rattle.lists.proofs.Tails.{every_at, every_all}
use Rattle.controller.specs.Changes.{empty_undone, undone_of, numbers_of}
use Rattle.controller.specs.Readiness.{same_switch, ties, waits_for, is_ready, first_ready, ready_of, ready_for}
use Rattle.controller.specs.declared.Controller.{Controller}
use Rattle.std.specs.Prelude.{Option, Some, None}
use Rattle.controller.specs.declared.Undone.{Undone}
use Rattle.controller.proofs.Within.{Within, Fits, held_fits}

-- the change at a place, and a change that stands at some place
abbrev pub undone_at : List Undone → ℕ → Undone
undone_at us i = get_or us i empty_undone

pub record Stands (us : List Undone) (u : Undone) : Type 0 where
  pub place : ℕ
  pub inside : place < length us
  pub there : undone_at us place ≡ u

-- a change v that u need not wait for, whatever their numbers are; and u waits for none of a list
pub record Apart (u v : Undone) : Type 0 where
  pub switch : v.switch ≡ u.switch → ⊥
  pub untied : ties u v ≡ true → ⊥

abbrev pub Free : List Undone → Undone → Type 0
Free us u = (i : ℕ) → i < length us → (undone_at us i).number < u.number → Apart u (undone_at us i)

module _ (u v : Undone) where
  apart : not (waits_for u v) ≡ true → v.number < u.number → Apart u v
  apart h l =
      let never = not_both (ltb v.number u.number) _ (not-true (waits_for u v) h) (lt-ltb _ _ l) in
      record {
        switch = λ e. never (or_left (same_switch u v) _ (eq-eqb _ _ e));
        untied = λ q. never (or_right (same_switch u v) _ q);
      }

  waits_not : (v.number < u.number → Apart u v) → not (waits_for u v) ≡ true
  waits_not h =
      ap not (is_false (waits_for u v) (λ w.
      let t = and_parts (ltb v.number u.number) _ w in
      let a = h (ltb-true _ _ t.0) in
      by_or (same_switch u v) (ties u v) t.1 (λ q. a.switch (eqb-true _ _ q)) a.untied))

module _ (us : List Undone) (u : Undone) where
  -- a change is ready just where it is free
  pub ready_free : is_ready us u ≡ true → Free us u
  ready_free h i n = apart u (undone_at us i) (every_at _ us i empty_undone h n)

  pub free_ready : Free us u → is_ready us u ≡ true
  free_ready f = every_all _ us empty_undone (λ i n. waits_not u (undone_at us i) (f i n))

-- a change that is ready and on a switch
pub record Readied (s : ℕ) (us : List Undone) (u : Undone) : Type 0 where
  pub stands : Stands us u
  pub on : u.switch ≡ s
  pub ready : is_ready us u ≡ true

never : {C : Type 0} {u : Undone} → Some u ≡ None → C
never h = let z : ◌≡◌ {A = ℕ} 0 1 = cc in absurd (omega arith)

-- the search among some of all changes
module _ (s : ℕ) (all : List Undone) where
  first_sound : (us : List Undone) (u : Undone) → first_ready s all us ≡ Some u
      → Stands us u × (u.switch ≡ s) × (is_ready all u ≡ true)
  unfolding first_ready
  first_sound [] u h = never (sym h)
  first_sound (v ∷ us) u h =
      by_bool (eqb v.switch s && is_ready all v)
      (λ e.
      let t = and_parts (eqb v.switch s) (is_ready all v) e in
      let found : Some v ≡ Some u = rw e at h in
      let same : v ≡ u = cc in (
        record { place = 0; inside = omega arith; there = same },
        rw (← same) (eqb-true _ _ t.0),
        rw (← same) t.1,
      ))
      (λ e.
      let t = first_sound us u (rw e at h) in
      let w = t.0 in
      (record { place = suc w.place; inside = omega (arith, w.inside); there = w.there }, t.1, t.2))

  first_none : (us : List Undone) → first_ready s all us ≡ None → (i : ℕ) → i < length us
      → (undone_at us i).switch ≡ s → is_ready all (undone_at us i) ≡ true → ⊥
  unfolding first_ready
  first_none [] h i n e r = absurd (omega arith)
  first_none (v ∷ us) h zero n e r =
      let t : (eqb v.switch s && is_ready all v) ≡ true = and_join (eqb v.switch s) _ (eq-eqb _ _ e) r in
      never (rw t at h)
  first_none (v ∷ us) h (suc i) n e r =
      by_bool (eqb v.switch s && is_ready all v)
      (λ t. never (rw t at h))
      (λ t. first_none us (rw t at h) i (omega arith) e r)

module _ (s : ℕ) (us : List Undone) where
  -- what is found is a ready change of the switch; where nothing is found it has none
  pub ready_sound : (u : Undone) → ready_of s us ≡ Some u → Readied s us u
  ready_sound u h = let t = first_sound s us us u h in record { stands = t.0; on = t.1; ready = t.2 }

  pub none_ready : ready_of s us ≡ None → (i : ℕ) → i < length us → (undone_at us i).switch ≡ s
      → is_ready us (undone_at us i) ≡ false
  none_ready h i n e = is_false _ (first_none s us us h i n e)

pub by_ready : {C : Type 0} (r : Option Undone) → ((u : Undone) → r ≡ Some u → C) → (r ≡ None → C) → C
by_ready (Some u) found none = found u refl
by_ready None found none = none refl

-- where the numbers rise
module _ (us : List Undone) (rising : rising_from 0 (numbers_of us) ≡ true) where
  -- a change further on has a higher one
  pub later_higher : (i j : ℕ) → i < j → j < length us → (undone_at us i).number < (undone_at us j).number
  later_higher i j l h =
      let number : Undone → ℕ = λ u. u.number in
      rw (← get_or-map number us i empty_undone, ← get_or-map number us j empty_undone)
      (rising_places 0 (numbers_of us) rising i j 0 l (rw length-map h))

  -- it is enough to look before a change's place
  pub earlier_ready : (i : ℕ) → i < length us
      → ((j : ℕ) → j < i → Apart (undone_at us i) (undone_at us j)) → is_ready us (undone_at us i) ≡ true
  earlier_ready i n f =
      free_ready us (undone_at us i) (λ j m l. by_le i j
      (λ k. by_eq i j
      (λ e. let z : (undone_at us i).number ≡ (undone_at us j).number = rw e in absurd (omega arith))
      (λ d. absurd (omega (arith, later_higher i j (omega arith) m))))
      (f j))

  -- of two changes on a switch the one further on waits
  pub later_waits : (i j : ℕ) → i < j → j < length us → (undone_at us i).switch ≡ (undone_at us j).switch
      → is_ready us (undone_at us j) ≡ true → ⊥
  later_waits i j l n e r =
      (ready_free us (undone_at us j) r i (omega arith) (later_higher i j l n)).switch e

  -- document 01: "So a switch has at most one ready change"
  pub one_ready : (i j : ℕ) → i < length us → j < length us → (undone_at us i).switch ≡ (undone_at us j).switch
      → is_ready us (undone_at us i) ≡ true → is_ready us (undone_at us j) ≡ true → i ≡ j
  one_ready i j m n e p q =
      by_eq i j (λ same. same) (λ other. by_le i j
      (λ l. absurd (later_waits i j (omega arith) n e q))
      (λ l. absurd (later_waits j i l m (sym e) p)))

  same_ready : (s : ℕ) (u v : Undone) → Readied s us u → Readied s us v → u ≡ v
  same_ready s u v p q =
      let a = p.stands in
      let b = q.stands in
      let same : a.place ≡ b.place =
      one_ready a.place b.place a.inside b.inside (rw (a.there, b.there) (p.on ∙ sym q.on))
      (rw a.there p.ready) (rw b.there q.ready) in
      sym a.there ∙ ap (undone_at us) same ∙ b.there

  -- and it is found
  pub ready_found : (s : ℕ) (u : Undone) → Readied s us u → ready_of s us ≡ Some u
  ready_found s u r =
      let a = r.stands in
      by_ready (ready_of s us)
      (λ v h. h ∙ ap Some (same_ready s v u (ready_sound s us v h) r))
      (λ h. tf (rw a.there r.ready) (none_ready s us h a.place a.inside (rw a.there r.on)))

  -- the lowest undone change waits for none
  pub lowest_ready : 0 < length us → is_ready us (undone_at us 0) ≡ true
  lowest_ready n = earlier_ready 0 n (λ j l. absurd (omega arith))

  pub lowest_found : 0 < length us → ready_of (undone_at us 0).switch us ≡ Some (undone_at us 0)
  lowest_found n =
      ready_found (undone_at us 0).switch (undone_at us 0)
      (record { stands = record { place = 0; inside = n; there = refl }; on = refl; ready = lowest_ready n })

-- a ready change of a controller within its limits is within its own
pub ready_fits : (c : Controller) → Within c → (s : ℕ) (u : Undone) → ready_for c s ≡ Some u
    → Fits c.progress.acknowledged c.progress.last u
ready_fits c w s u h =
    let a = (ready_sound s (undone_of c) u h).stands in
    rw a.there at (held_fits c w a.place empty_undone a.inside)
