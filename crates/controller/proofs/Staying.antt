-- What stays ready. Changes that a decision brings have higher numbers, so they hold up none that was there; an
-- acknowledgement only drops changes, so what is ready and not dropped stays so. Assumes nothing.
use mathlib.Core.Path.{◌≡◌, refl, sym, ap, ◌∙◌}
use mathlib.Core.Bool.{Bool, true}
use mathlib.Core.List.{List, [], ◌∷◌, ◌++◌, map-append}
use Prim.Native.Nat.{ℕ, zero, suc, ◌≤◌, ◌<◌}
use native.Mathlib.Omega.{arith}
use lib.ListN.{length, set, length-append, length-take, get_or-append}
use lib.Seq.{get_or-set_other}
use borrow.Author.Tests.{lt-ltb, eqb-true, not-false}
use Rattle.answer.proofs.Bools.{by_bool, by_le, and_parts, same_test}
use Rattle.lists.specs.Arrays.{every}
use Rattle.lists.specs.Counts.{passing}
use Rattle.lists.specs.Rising.{rising_from}
use Rattle.lists.specs.Places.{last_of}
use Rattle.lists.proofs.Padding.{pad-take}
use Rattle.lists.proofs.Passing.{passing-few, every-passing, rising_passing}
use Rattle.lists.proofs.Rising.{rising_append}
use Rattle.lists.proofs.Tails.{every-fails}
use Rattle.message.specs.declared.Message.TheVariants.{Acknowledgement}
use Rattle.controller.specs.Changes.{empty_undone, undone_of, numbers_of, is_undone}
use Rattle.controller.specs.Acknowledgements.{acknowledged_of, acknowledge}
use Rattle.controller.specs.Readiness.{is_ready, ready_of, ready_for}
use Rattle.controller.specs.Decisions.{held_after, decided}
use Rattle.controller.specs.Calls.{decides, Call, receives, manages, reply_to}
use Rattle.controller.specs.declared.Controller.{Controller}
use Rattle.std.specs.Prelude.{Option, Some, None}
use Rattle.controller.specs.declared.Reply.{Reply}
use Rattle.controller.specs.declared.Undone.{Undone}
use Rattle.controller.proofs.Within.{Within}
use Rattle.controller.proofs.Taken.{Arrives}
use Rattle.controller.proofs.Deciding.{Decides}
use Rattle.controller.proofs.Moves.{Moves, stays, takes_acknowledgement_lem, takes_decision, moves}
use Rattle.controller.proofs.Kept.{held_rises}
use Rattle.controller.proofs.Scanning.{elsewhere}
use Rattle.controller.proofs.Waiting.{undone_at, Stands, ready_free, free_ready}
use Rattle.controller.proofs.Waiting.{ready_sound, later_higher, later_waits, ready_found, ready_fits}

-- two searches that find the same
same_found : (q r : Option Undone) → ((u : Undone) → q ≡ Some u → r ≡ Some u) → ((u : Undone) → r ≡ Some u → q ≡ Some u)
    → q ≡ r
same_found (Some u) r f g = sym (f u refl)
same_found None (Some u) f g = g u refl
same_found None None f g = refl

-- changes behind the others, with higher numbers
module _ (us ws : List Undone) (rising : rising_from 0 (numbers_of (us ++ ws)) ≡ true) where
  front_at : (i : ℕ) → i < length us → undone_at (us ++ ws) i ≡ undone_at us i
  front_at = get_or-append us ws empty_undone

  inside : (i : ℕ) → i < length us → i < length (us ++ ws)
  inside i n = omega (arith, length-append us ws)

  number-kept : (i : ℕ) → i < length us → (undone_at (us ++ ws) i).number ≡ (undone_at us i).number
  number-kept i n = rw (front_at i n)

  -- a change is ready among all where it is among the first
  kept_at : (i : ℕ) → i < length us → is_ready (us ++ ws) (undone_at us i) ≡ is_ready us (undone_at us i)
  kept_at i n =
      same_test _ _
      (λ r. free_ready us (undone_at us i) (λ j m.
      rw front_at at (ready_free (us ++ ws) (undone_at us i) r j (inside j m))))
      (λ r. free_ready (us ++ ws) (undone_at us i) (λ j m l. by_le (length us) j
      (λ k. absurd (omega (arith, later_higher (us ++ ws) rising i j (omega arith) m, number-kept i n)))
      (λ k. rw (front_at j k) (ready_free us (undone_at us i) r j k (omega (arith, number-kept j k))))))

  pub ready_kept : (u : Undone) → Stands us u → is_ready (us ++ ws) u ≡ is_ready us u
  ready_kept u a = rw (← a.there) (kept_at a.place a.inside)

  front_rising : rising_from 0 (numbers_of us) ≡ true
  front_rising =
      (and_parts (rising_from 0 (numbers_of us)) (rising_from (last_of 0 (numbers_of us)) (numbers_of ws))
      (rw (map-append, rising_append) at rising)).0

  -- what is found among the first is found among all
  pub found_still : (s : ℕ) (u : Undone) → ready_of s us ≡ Some u → ready_of s (us ++ ws) ≡ Some u
  found_still s u h =
      let r = ready_sound s us u h in
      let a = r.stands in
      ready_found (us ++ ws) rising s u (record {
        stands = record {
          place = a.place;
          inside = inside a.place a.inside;
          there = front_at a.place a.inside ∙ a.there;
        };
        on = r.on;
        ready = ready_kept u a ∙ r.ready;
      })

  -- and on a switch of one of the first nothing else is, since every change further on waits for that one
  module _ (s : ℕ) (v : Undone) (b : Stands us v) (e : v.switch ≡ s) where
    found_before : (u : Undone) → ready_of s (us ++ ws) ≡ Some u → ready_of s us ≡ Some u
    found_before u h =
        let r = ready_sound s (us ++ ws) u h in
        let a = r.stands in
        by_le (length us) a.place
        (λ k. absurd (later_waits (us ++ ws) rising b.place a.place (omega (arith, b.inside)) a.inside
        (rw (front_at _ b.inside, b.there, a.there) (e ∙ sym r.on)) (rw a.there r.ready)))
        (λ k.
        let first : Stands us u =
        record { place = a.place; inside = k; there = sym (front_at a.place k) ∙ a.there } in
        ready_found us front_rising s u
        (record { stands = first; on = r.on; ready = sym (ready_kept u first) ∙ r.ready }))

    pub found_kept : ready_of s (us ++ ws) ≡ ready_of s us
    found_kept = same_found (ready_of s (us ++ ws)) (ready_of s us) found_before (found_still s)

-- a decision alters what is ready only where the switch had no undone change
pub decision_keeps : (c : Controller) (t serial cause : ℕ) → rising_from 0 (numbers_of (held_after c (t, cause))) ≡ true
    → length (held_after c (t, cause)) ≤ 64
    → (s : ℕ) (v : Undone) → Stands (undone_of c) v → v.switch ≡ s
    → ready_for (decided c t serial cause) s ≡ ready_for c s
decision_keeps c t serial cause rising few s v a e =
    ap (ready_of s) (pad-take 64 empty_undone (held_after c (t, cause)) few)
    ∙ found_kept (undone_of c) _ rising s v a e

-- changes that pass a test
module _ (f : Undone → Bool) where
  passing_at : (us : List Undone) (i : ℕ) → i < length us → f (undone_at us i) ≡ true
      → Stands (passing f us) (undone_at us i)
  unfolding passing
  passing_at [] i n e = absurd (omega arith)
  passing_at (u ∷ us) zero n e = rw e (record { place = 0; inside = omega arith; there = refl })
  passing_at (u ∷ us) (suc i) n e =
      let a = passing_at us i (omega arith) e in
      by_bool (f u)
      (λ t. rw t (record { place = suc a.place; inside = omega (arith, a.inside); there = a.there }))
      (λ t. rw t a)

  pub stands_passing : (us : List Undone) (u : Undone) → Stands us u → f u ≡ true → Stands (passing f us) u
  stands_passing us u a e = rw a.there at (passing_at us a.place a.inside (rw a.there e))

  -- are ready among these where they were among all, and are found
  pub ready_passing : (us : List Undone) (u : Undone) → is_ready us u ≡ true → is_ready (passing f us) u ≡ true
  ready_passing us u r = every-passing f _ us r

  pub found_passing : (us : List Undone) → rising_from 0 (numbers_of us) ≡ true → (s : ℕ) (u : Undone)
      → ready_of s us ≡ Some u → f u ≡ true → ready_of s (passing f us) ≡ Some u
  found_passing us rising s u h e =
      let r = ready_sound s us u h in
      ready_found (passing f us) (rising_passing f (λ (v : Undone). v.number) 0 us rising) s u (record {
        stands = stands_passing us u r.stands e;
        on = r.on;
        ready = ready_passing us u r.ready;
      })

-- an acknowledgement takes no readiness from a change that it leaves undone, so none on another switch
module _ (c : Controller) (w : Within c) (t number s : ℕ) (u : Undone) (h : ready_for c s ≡ Some u) where
  pub acknowledgement-keeps : is_undone (set c.progress.acknowledged t number) u ≡ true
      → ready_for (acknowledge c t number) s ≡ Some u
  acknowledgement-keeps e =
      let us = undone_of c in
      let still = is_undone (set c.progress.acknowledged t number) in
      let used = length-take c.progress.undone.count c.progress.undone.changes in
      ap (ready_of s) (pad-take 64 empty_undone (passing still us) (omega (arith, passing-few still us, w.count)))
      ∙ found_passing still us w.rising s u h e

  pub other_acknowledged : (s ≡ t → ⊥) → ready_for (acknowledge c t number) s ≡ Some u
  other_acknowledged other =
      let on = (ready_sound s (undone_of c) u h).on in
      let above = rw on at (ready_fits c w s u h).above in
      acknowledgement-keeps (rw (on, get_or-set_other c.progress.acknowledged t s number 0 other) (lt-ltb _ _ above))

-- what a call can do to the ready change of switch s: nothing; or it brings an acknowledgement that is taken; or a
-- decision that is taken, and s had no undone change
pub data Alters (keys : List ℕ) (c : Controller) (s : ℕ) : Call → Controller → Type 0 where
  ready_stays : {x : Call} {t : Controller} → ready_for t s ≡ ready_for c s → Alters keys c s x t
  by_acknowledgement : {bytes : List ℕ} {from number : ℕ}
      → Arrives c keys bytes from (Acknowledgement from c.id number) → acknowledged_of c from < number
      → Alters keys c s (receives bytes) (acknowledge c from number)
  by_decision : {on serial cause : ℕ} → Decides c on serial cause
      → every (elsewhere s) (undone_of c) ≡ true
      → Alters keys c s (manages (decides on serial cause)) (decided c on serial cause)

module _ (keys : List ℕ) (c : Controller) (s : ℕ) where
  decision_alters : (on serial cause : ℕ) → Decides c on serial cause
      → Alters keys c s (manages (decides on serial cause)) (decided c on serial cause)
  decision_alters on serial cause d =
      let us = undone_of c in
      by_bool (every (elsewhere s) us)
      (λ none. by_decision d none)
      (λ some.
      let f = every-fails (elsewhere s) us empty_undone some in
      let held : Stands us (undone_at us f.0) = record { place = f.0; inside = f.1; there = refl } in
      ready_stays (decision_keeps c on serial cause (held_rises c d.limits (on, cause)) d.room s _ held
      (eqb-true _ _ (not-false _ f.2))))

  altered : {x : Call} {r : Reply} → Moves keys c x r → Alters keys c s x r.state
  altered stays = ready_stays refl
  altered (takes_acknowledgement_lem a above) = by_acknowledgement a above
  altered (takes_decision {s = on} {serial} {cause} d) = decision_alters on serial cause d

  pub alters : (x : Call) → Alters keys c s x (reply_to keys c x).state
  alters x = altered (moves keys c x)
