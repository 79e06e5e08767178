-- The changes of a stored playbook, each on a known switch with a well-formed rule; those of one plan, few and drawn
-- from all; and which plan a trigger finds. Assumes nothing.
use mathlib.Core.Path.{◌≡◌, refl, sym, ap, ◌∙◌}
use mathlib.Core.List.{List, [], ◌∷◌, map}
use mathlib.Core.Bool.{true, false, not}
use Prim.Native.Nat.{ℕ, zero, suc, ◌+◌, ◌≤◌, ◌<◌}
use native.Mathlib.Omega.{arith}
use lib.ListN.{length, get_or, drop, length-take, length-drop, length-map, get_or-map}
use lib.Seq.{get_or-take, get_or-drop, length-take-le}
use borrow.Author.Tests.{not-true}
use Rattle.answer.proofs.Bools.{by_bool, tf, and_parts, or_none, is_false}
use Rattle.lists.specs.Arrays.{every}
use Rattle.lists.specs.Kinds.{among, different}
use Rattle.lists.proofs.Members.{among_at}
use Rattle.lists.proofs.Tails.{every_at, every_take, every_drop}
use Rattle.flow.specs.Rules.{rule_key, same_key}
use Rattle.playbook.specs.Limits.{max_of_plan}
use Rattle.playbook.specs.Books.{empty_change, book_of, Trigger, trigger_of, same_trigger, has_trigger}
use Rattle.playbook.specs.Books.{new_plan, keys_on}
use Rattle.playbook.specs.Plans.{plan_of, changes_of, changes_for}
use Rattle.playbook.specs.Storing.{change_ok, stored_ok}
use Rattle.playbook.specs.declared.Change.{Change}
use Rattle.playbook.specs.declared.Plan.{Plan}
use Rattle.playbook.specs.declared.Playbook.{Playbook}
use Rattle.playbook.proofs.Few.{change-among}
use Rattle.playbook.proofs.Kept.{stored_limits, trigger_sound, trigger_mine}
use Rattle.playbook.proofs.Spans.{PlanFits, plan_fits}

-- a change that a plan has stands among all
pub drawn : (q : Plan) (cs : List Change) (i : ℕ) (z : Change) → i < length (changes_of q cs)
    → (q.first + i < length cs) × (get_or (changes_of q cs) i z ≡ get_or cs (q.first + i) z)
drawn q cs i z h =
    let n = simp (length-take, length-drop) at h in
    (omega arith, get_or-take q.count (drop q.first cs) i z (omega arith) ∙ get_or-drop q.first cs i z)

module _ (p : Playbook) (t : Trigger) where
  -- so its key is among those of its switch
  pub plan_among : (i : ℕ) (z : Change) → i < length (changes_for p t)
      → among same_key (rule_key (get_or (changes_for p t) i z).rule)
      (keys_on (get_or (changes_for p t) i z).switch (book_of p).changes) ≡ true
  plan_among i z h =
      let q = plan_of t (book_of p).plans in
      let d = drawn q (book_of p).changes i z h in
      rw d.1 (change-among (book_of p).changes (q.first + i) z d.0)

  module _ (h : stored_ok p ≡ true) where
    plan_spanned : PlanFits (length (book_of p).changes) (plan_of t (book_of p).plans)
    plan_spanned = plan_fits t 0 _ (book_of p).plans (stored_limits p h).spanned

    -- the plan of a trigger stands within the changes in use
    pub stored_plan : PlanFits p.listed (plan_of t (book_of p).plans)
    stored_plan =
        let used = length-take p.listed p.changes in
        record { inside = omega (arith, plan_spanned.inside); few = plan_spanned.few }

    pub plan_length : length (changes_for p t) ≡ (plan_of t (book_of p).plans).count
    plan_length = length-take-le _ _ (simp length-drop (omega (arith, plan_spanned.inside)))

    pub plan_few : length (changes_for p t) ≤ max_of_plan
    plan_few = omega (arith, plan_length, plan_spanned.few)

    -- its changes in the store
    pub plan_at : (i : ℕ) (z : Change) → i < (plan_of t (book_of p).plans).count
        → get_or (changes_for p t) i z ≡ get_or p.changes ((plan_of t (book_of p).plans).first + i) z
    plan_at i z n =
        let q = plan_of t (book_of p).plans in
        let d = drawn q (book_of p).changes i z (omega (arith, plan_length)) in
        let low = simp length-take at d.0 in
        d.1 ∙ get_or-take p.listed p.changes (q.first + i) z (omega arith)

-- every change is on a known switch, with a well-formed rule
pub stored-changes : (p : Playbook) → stored_ok p ≡ true → every change_ok (book_of p).changes ≡ true
stored-changes p h = (stored_limits p h).rules

pub stored-change : (p : Playbook) (i : ℕ) → stored_ok p ≡ true → i < length (book_of p).changes
    → change_ok (get_or (book_of p).changes i empty_change) ≡ true
stored-change p i h n = every_at change_ok (book_of p).changes i empty_change (stored-changes p h) n

pub plan_changes : (p : Playbook) (t : Trigger) → stored_ok p ≡ true → every change_ok (changes_for p t) ≡ true
plan_changes p t h =
    let q = plan_of t (book_of p).plans in
    every_take change_ok q.count _ (every_drop change_ok q.first (book_of p).changes (stored-changes p h))

-- the plan found has the trigger
pub plan_trigger : (t : Trigger) (qs : List Plan) → trigger_of (plan_of t qs) ≡ t
unfolding plan_of
plan_trigger t [] = refl
plan_trigger t (q ∷ qs) =
    by_bool (same_trigger (trigger_of q) t) (λ e. rw e (trigger_sound (trigger_of q) t e)) (λ e. rw e (plan_trigger t qs))

-- without one there are no changes
pub no_plan : (t : Trigger) (qs : List Plan) → has_trigger t qs ≡ false → plan_of t qs ≡ new_plan t 0
unfolding plan_of among
no_plan t [] h = refl
no_plan t (q ∷ qs) h = let n = or_none (same_trigger (trigger_of q) t) _ h in rw n.0 (no_plan t qs n.1)

pub no_changes : (p : Playbook) (t : Trigger) → has_trigger t (book_of p).plans ≡ false → changes_for p t ≡ []
no_changes p t h = ap (λ (q : Plan). changes_of q (book_of p).changes) (no_plan t (book_of p).plans h)

-- a plan in the list is found by its trigger
pub has_trigger_lem : (qs : List Plan) (i : ℕ) (z : Plan) → i < length qs → has_trigger (trigger_of (get_or qs i z)) qs ≡ true
has_trigger_lem qs i z h =
    ap (λ (t : Trigger). has_trigger t qs) (sym (get_or-map trigger_of qs i z))
    ∙ among_at same_trigger trigger_mine (map trigger_of qs) i (trigger_of z) (rw length-map h)

pub plan_found : (qs : List Plan) (i : ℕ) (z : Plan) → different same_trigger (map trigger_of qs) ≡ true → i < length qs
    → plan_of (trigger_of (get_or qs i z)) qs ≡ get_or qs i z
unfolding plan_of different
plan_found [] i z d h = absurd (omega arith)
plan_found (q ∷ qs) zero z d h = rw (trigger_mine (trigger_of q))
plan_found (q ∷ qs) (suc i) z d h =
    let t = trigger_of (get_or qs i z) in
    let e = and_parts (not (has_trigger (trigger_of q) qs)) _ d in
    let other : same_trigger (trigger_of q) t ≡ false =
    is_false _ (λ s. tf (has_trigger_lem qs i z (omega arith))
    (ap (λ (u : Trigger). has_trigger u qs) (sym (trigger_sound (trigger_of q) t s)) ∙ not-true _ e.0)) in
    rw other (plan_found qs i z e.1 (omega arith))

pub stored_found : (p : Playbook) (i : ℕ) (z : Plan) → stored_ok p ≡ true → i < length (book_of p).plans
    → plan_of (trigger_of (get_or (book_of p).plans i z)) (book_of p).plans ≡ get_or (book_of p).plans i z
stored_found p i z h n = plan_found (book_of p).plans i z (stored_limits p h).triggers n
