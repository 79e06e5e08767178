-- Flags that tell which triggers are used: one for each switch and cause, set where a plan has the trigger; and
-- triggers that are different up to a place. Assumes nothing.
use mathlib.Core.Path.{◌≡◌, refl, sym, ap, ◌∙◌}
use mathlib.Core.Bool.{Bool, true, false, not, ◌&&◌, ◌||◌, and-false}
use mathlib.Core.List.{List, [], ◌∷◌, ◌++◌, map, map-append}
use Prim.Native.Nat.{ℕ, ◌+◌, ◌<◌}
use native.Mathlib.Omega.{arith}
use lib.Dec.{eqb}
use lib.ListN.{length, take, set, get_or, replicate, length-set, get_or-replicate, take-append-drop}
use lib.Seq.{get_or-set_same, get_or-set_other}
use borrow.Author.Tests.{eq-eqb}
use Rattle.answer.specs.Limits.{switch_count}
use Rattle.answer.proofs.Bools.{by_bool, tf, and_join, or_left}
use Rattle.lists.specs.Kinds.{among, different}
use Rattle.lists.proofs.Members.{among-append, among_snoc, different_snoc}
use Rattle.lists.proofs.Stores.{take_next}
use Rattle.playbook.specs.Books.{Trigger, trigger_of, same_trigger, has_trigger}
use Rattle.playbook.specs.Gathering.{trigger_count, place_of, Marked}
use Rattle.playbook.specs.declared.Plan.{Plan}
use Rattle.playbook.proofs.Kept.{trigger_sound, trigger_mine}

pub marked_none : (used : List Bool) → used ≡ replicate trigger_count false → Marked used []
unfolding among
marked_none used u = record {
  full = rw u;
  each = λ t s c. rw u (get_or-replicate trigger_count (place_of t) false false (omega arith));
}

trigger_snoc : (qs : List Plan) (q : Plan) (t : Trigger)
    → has_trigger t (qs ++ q ∷ []) ≡ (same_trigger (trigger_of q) t || has_trigger t qs)
trigger_snoc qs q t = rw map-append (among_snoc same_trigger t (trigger_of q) (map trigger_of qs))

-- a plan more
module _ {used : List Bool} {qs : List Plan} (m : Marked used qs) (q : Plan) (switch : q.switch < switch_count)
    (cause : q.cause < 256) where
  abbrev place : ℕ
  place = place_of (trigger_of q)

  other : (u : Trigger) → u.1 < 256 → same_trigger (trigger_of q) u ≡ false → place_of u ≡ place → ⊥
  other u c e p =
      tf (and_join (eqb q.switch u.0) _ (eq-eqb q.switch u.0 (omega arith))
      (eq-eqb q.cause u.1 (omega arith))) e

  flag : (u : Trigger) → u.0 < switch_count → u.1 < 256
      → get_or (set used place true) (place_of u) false ≡ (same_trigger (trigger_of q) u || has_trigger u qs)
  flag u s c =
      by_bool (same_trigger (trigger_of q) u)
      (λ e. let same : place_of u ≡ place = sym (ap place_of (trigger_sound (trigger_of q) u e)) in
      rw (e, same, get_or-set_same used place true false (omega (arith, m.full))))
      (λ e. rw (e, get_or-set_other used place (place_of u) true false (other u c e)) (m.each u s c))

  pub marked_more : Marked (set used place true) (qs ++ q ∷ [])
  marked_more = record {
    full = rw length-set m.full;
    each = λ u s c. flag u s c ∙ sym (trigger_snoc qs q u);
  }

-- plans with the same triggers
pub marked-same : {used : List Bool} {qs rs : List Plan} → Marked used qs → map trigger_of qs ≡ map trigger_of rs
    → Marked used rs
marked-same m e = record {
  full = m.full;
  each = λ t s c. m.each t s c ∙ ap (λ (ts : List Trigger). among same_trigger t ts) e;
}

-- two that are the same in a beginning are the same in the whole
different-front : {A : Type 0} (eq : A → A → Bool) (l m : List A) → different eq l ≡ false
    → different eq (l ++ m) ≡ false
unfolding different
different-front eq [] m h = tf refl h
different-front eq (x ∷ l) m h =
    by_bool (among eq x l)
    (λ e. rw (among-append eq x l m ∙ or_left _ _ e))
    (λ e. rw (different-front eq l m (rw e at h), and-false))

-- the plans up to a place, and one more
abbrev pub apart : List Plan → Bool
apart qs = different same_trigger (map trigger_of qs)

module _ (qs : List Plan) (i : ℕ) (z : Plan) (h : i < length qs) where
  apart_next : apart (take (i + 1) qs) ≡ (apart (take i qs) && not (has_trigger (trigger_of (get_or qs i z)) (take i qs)))
  apart_next = rw (take_next qs i z h, map-append) (different_snoc same_trigger trigger_mine trigger_sound _ _)

  pub apart_new : apart (take i qs) ≡ true → has_trigger (trigger_of (get_or qs i z)) (take i qs) ≡ false
      → apart (take (i + 1) qs) ≡ true
  apart_new d e = apart_next ∙ rw (d, e)

  pub apart_used : has_trigger (trigger_of (get_or qs i z)) (take i qs) ≡ true → apart qs ≡ false
  apart_used e =
      let front : apart (take (i + 1) qs) ≡ false = apart_next ∙ rw (e, and-false) in
      ap apart (sym (take-append-drop (i + 1) qs))
      ∙ rw map-append (different-front same_trigger (map trigger_of (take (i + 1) qs)) _ front)
