-- The scan for the ready change of a switch. Numbers rise, so of the changes on a switch only the first can be ready,
-- and it waits for exactly those before it that it is tied to.
use mathlib.Core.Path.{◌≡◌, refl, sym, ◌∙◌}
use mathlib.Core.Bool.{Bool, true, false, not}
use mathlib.Core.List.{List}
use Prim.Native.Nat.{ℕ, ◌+◌, ◌<◌}
use native.Mathlib.Numerals.{add-one}
use native.Mathlib.Omega.{arith}
use lib.Dec.{eqb}
use lib.ListN.{length, get_or, take, length-take}
use lib.Seq.{take-suc, get_or-take, length-take-le}
use borrow.Author.Tests.{eq-eqb, ne_eqb, not-true, not-false}
use Rattle.answer.specs.Ask.{pick}
use Rattle.answer.proofs.Bools.{by_bool, by_eq, by_le, tf}
use Rattle.lists.specs.Arrays.{every}
use Rattle.lists.specs.Rising.{rising_from}
use Rattle.lists.proofs.Tails.{every_at, every-fails, every_snoc}
use Rattle.controller.specs.Changes.{empty_undone, numbers_of}
use Rattle.controller.specs.Readiness.{ties, is_ready, ready_of}
use Rattle.std.specs.Prelude.{Some, None}
use Rattle.controller.specs.declared.Undone.{Undone}
use Rattle.controller.proofs.Waiting.{undone_at, ready_free, Readied, ready_sound, by_ready}
use Rattle.controller.proofs.Waiting.{later_higher, earlier_ready, later_waits, ready_found}

-- whether a change is on another switch
abbrev pub elsewhere : ℕ → Undone → Bool
elsewhere s v = not (eqb v.switch s)

not_here : (s : ℕ) (v : Undone) → elsewhere s v ≡ true → v.switch ≡ s → ⊥
not_here s v h e = tf (eq-eqb _ _ e) (not-true (eqb v.switch s) h)

-- where none is on the switch none is ready
pub none_there : (s : ℕ) (us : List Undone) → every (elsewhere s) us ≡ true → ready_of s us ≡ None
none_there s us h =
    by_ready (ready_of s us)
    (λ u e.
    let r = ready_sound s us u e in
    let a = r.stands in
    absurd (not_here s u (rw a.there at (every_at (elsewhere s) us a.place empty_undone h a.inside)) r.on))
    (λ e. e)

-- the i-th change is the first on the switch
module _ (s : ℕ) (us : List Undone) (rising : rising_from 0 (numbers_of us) ≡ true) (i : ℕ) (inside : i < length us)
    (other : every (elsewhere s) (take i us) ≡ true) (on : (undone_at us i).switch ≡ s) where
  abbrev it : Undone
  it = undone_at us i

  -- a test of every change before it holds of each
  each-before : (f : Undone → Bool) → every f (take i us) ≡ true → (j : ℕ) → j < i → f (undone_at us j) ≡ true
  each-before f h j l =
      let there : j < length (take i us) = omega (arith, length-take-le i us (omega arith)) in
      rw (← get_or-take i us j empty_undone l) (every_at f (take i us) j empty_undone h there)

  earlier : (j : ℕ) → j < i → (undone_at us j).switch ≡ s → ⊥
  earlier j l = not_here s (undone_at us j) (each-before (elsewhere s) other j l)

  -- it is tied to no change before it: it is ready
  free : every (λ v. not (ties it v)) (take i us) ≡ true → is_ready us it ≡ true
  free h =
      earlier_ready us rising i inside (λ j l. record {
        switch = λ e. earlier j l (e ∙ on);
        untied = λ q. tf q (not-true _ (each-before (λ v. not (ties it v)) h j l));
      })

  -- it is tied to one: it waits, and so does every later change on the switch
  waits : every (λ v. not (ties it v)) (take i us) ≡ false → is_ready us it ≡ true → ⊥
  waits h r =
      let f = every-fails (λ v. not (ties it v)) (take i us) empty_undone h in
      let l : f.0 < i = omega (arith, f.1, length-take i us) in
      let before : not (ties it (undone_at us f.0)) ≡ false = rw (← get_or-take i us f.0 empty_undone l) f.2 in
      let apart = ready_free us it r f.0 (omega arith) (later_higher us rising f.0 i l inside) in
      apart.untied (not-false _ before)

  only : every (λ v. not (ties it v)) (take i us) ≡ false → (v : Undone) → Readied s us v → ⊥
  only h v r =
      let a = r.stands in
      by_le i a.place
      (λ k. by_eq i a.place
      (λ e. waits h (rw (e, a.there) r.ready))
      (λ d. later_waits us rising i a.place (omega arith) a.inside (rw a.there (on ∙ sym r.on))
      (rw a.there r.ready)))
      (λ l. earlier a.place l (rw a.there r.on))

  pub first_ready_lem : ready_of s us ≡ pick (every (λ v. not (ties it v)) (take i us)) (Some it) None
  first_ready_lem =
      by_bool (every (λ v. not (ties it v)) (take i us))
      (λ h. rw h (ready_found us rising s it
      (record { stands = record { place = i; inside = inside; there = refl }; on = on; ready = free h })))
      (λ h. rw h (by_ready (ready_of s us) (λ v e. absurd (only h v (ready_sound s us v e))) (λ e. e)))

-- a loop over the first n changes that comes to the i-th: it is on another switch too, or it is the first on this one
pub one_more : (s : ℕ) (us : List Undone) (i : ℕ) (z : Undone) → i < length us → every (elsewhere s) (take i us) ≡ true
    → ((get_or us i z).switch ≡ s → ⊥) → every (elsewhere s) (take (i + 1) us) ≡ true
one_more s us i z h other off =
    rw (add-one, take-suc us i z h)
    (every_snoc (elsewhere s) (take i us) (get_or us i z) ∙ rw (other, ne_eqb (get_or us i z).switch s off))
