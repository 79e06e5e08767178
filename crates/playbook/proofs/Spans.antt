-- The plans' changes stand one after another: `spans` taken apart and put together, a plan more, a change more of the
-- last plan, and what it says of a plan looked up. Assumes nothing.
use mathlib.Core.Path.{◌≡◌, sym}
use mathlib.Core.List.{List, [], ◌∷◌, ◌++◌}
use mathlib.Core.Bool.{true, ◌&&◌}
use Prim.Native.Nat.{ℕ, ◌+◌, ◌≤◌, ◌<◌}
use native.Mathlib.Omega.{arith}
use lib.Dec.{ltb, leb, eqb}
use lib.ListN.{length}
use borrow.Author.Tests.{ltb-true, leb-true, eqb-true, lt-ltb, le-leb, eq-eqb}
use Rattle.answer.specs.Limits.{switch_count}
use Rattle.answer.proofs.Bools.{by_bool, and_parts}
use Rattle.playbook.specs.Limits.{max_of_plan}
use Rattle.playbook.specs.Books.{Trigger, trigger_of, same_trigger, new_plan, last_count, count_last}
use Rattle.playbook.specs.Storing.{spans}
use Rattle.playbook.specs.Plans.{plan_of}
use Rattle.playbook.specs.declared.Plan.{Plan}

-- the first plan, and those after it
pub record Span (from end : ℕ) (q : Plan) (qs : List Plan) : Type 0 where
  pub known : q.switch < switch_count
  pub few : q.count ≤ max_of_plan
  pub start : q.first ≡ from
  pub rest : spans (from + q.count) end qs ≡ true

pub span_parts : (from end : ℕ) (q : Plan) (qs : List Plan) → spans from end (q ∷ qs) ≡ true → Span from end q qs
unfolding spans
span_parts from end q qs h =
    let known = ltb q.switch switch_count in
    let few = leb q.count max_of_plan in
    let a = and_parts (known && few && eqb q.first from) _ h in
    let b = and_parts (known && few) _ a.0 in
    let c = and_parts known few b.0 in
    record { known = ltb-true _ _ c.0; few = leb-true _ _ c.1; start = eqb-true _ _ b.1; rest = a.1 }

span_join : (from end : ℕ) (q : Plan) (qs : List Plan) → Span from end q qs → spans from end (q ∷ qs) ≡ true
unfolding spans
span_join from end q qs s =
    rw (lt-ltb _ _ s.known, le-leb _ _ s.few, eq-eqb _ _ s.start) s.rest

pub span_none : (from end : ℕ) → spans from end [] ≡ true → from ≡ end
unfolding spans
span_none from end h = eqb-true from end h

span_done : (from end : ℕ) → from ≡ end → spans from end [] ≡ true
unfolding spans
span_done from end e = eq-eqb from end e

pub span_le : (from end : ℕ) (qs : List Plan) → spans from end qs ≡ true → from ≤ end
span_le from end [] h = omega (arith, span_none from end h)
span_le from end (q ∷ qs) h = omega (arith, span_le (from + q.count) end qs (span_parts from end q qs h).rest)

-- where there are changes there is a plan
pub span_some : (from end : ℕ) (qs : List Plan) → spans from end qs ≡ true → from < end → 0 < length qs
span_some from end [] h l = absurd (omega (arith, span_none from end h))
span_some from end (q ∷ qs) h l = omega arith

-- a plan more, with no changes yet
pub span_plan : (from end : ℕ) (qs : List Plan) (t : Trigger) → t.0 < switch_count → spans from end qs ≡ true
    → spans from end (qs ++ new_plan t end ∷ []) ≡ true
span_plan from end [] t k h =
    let e = span_none from end h in
    span_join from end (new_plan t end) []
    (record { known = k; few = omega arith; start = omega arith; rest = span_done (from + 0) end (omega arith) })
span_plan from end (q ∷ qs) t k h =
    let s = span_parts from end q qs h in
    span_join from end q (qs ++ new_plan t end ∷ []) (record {
      known = s.known;
      few = s.few;
      start = s.start;
      rest = span_plan (from + q.count) end qs t k s.rest;
    })

pub span_plan_back : (from end : ℕ) (qs : List Plan) (t : Trigger) → spans from end (qs ++ new_plan t end ∷ []) ≡ true
    → (t.0 < switch_count) × (spans from end qs ≡ true)
span_plan_back from end [] t h =
    let s = span_parts from end (new_plan t end) [] h in
    (s.known, span_done from end (sym s.start))
span_plan_back from end (q ∷ qs) t h =
    let s = span_parts from end q (qs ++ new_plan t end ∷ []) h in
    let b = span_plan_back (from + q.count) end qs t s.rest in
    (b.0, span_join from end q qs (record { known = s.known; few = s.few; start = s.start; rest = b.1 }))

-- a change more, of the last plan
pub span_change : (from end : ℕ) (qs : List Plan) → 0 < length qs → last_count qs < max_of_plan → spans from end qs ≡ true
    → spans from (end + 1) (count_last qs) ≡ true
unfolding last_count count_last
span_change from end [] n few h = absurd (omega arith)
span_change from end (q ∷ []) n few h =
    let s = span_parts from end q [] h in
    let e = span_none (from + q.count) end s.rest in
    span_join from (end + 1) _ [] (record {
      known = s.known;
      few = omega arith;
      start = s.start;
      rest = span_done (from + (q.count + 1)) (end + 1) (omega arith);
    })
span_change from end (q ∷ r ∷ qs) n few h =
    let s = span_parts from end q (r ∷ qs) h in
    span_join from (end + 1) q (count_last (r ∷ qs)) (record {
      known = s.known;
      few = s.few;
      start = s.start;
      rest = span_change (from + q.count) end (r ∷ qs) (omega arith) few s.rest;
    })

pub span_change_back : (from end : ℕ) (qs : List Plan) → 0 < length qs → spans from (end + 1) (count_last qs) ≡ true
    → (last_count qs < max_of_plan) × (spans from end qs ≡ true)
unfolding last_count count_last
span_change_back from end [] n h = absurd (omega arith)
span_change_back from end (q ∷ []) n h =
    let s = span_parts from (end + 1) _ [] h in
    let e = span_none (from + (q.count + 1)) (end + 1) s.rest in (
      omega (arith, s.few),
      span_join from end q [] (record {
        known = s.known;
        few = omega (arith, s.few);
        start = s.start;
        rest = span_done (from + q.count) end (omega arith);
      }),
    )
span_change_back from end (q ∷ r ∷ qs) n h =
    let s = span_parts from (end + 1) q (count_last (r ∷ qs)) h in
    let b = span_change_back (from + q.count) end (r ∷ qs) (omega arith) s.rest in
    (b.0, span_join from end q (r ∷ qs) (record { known = s.known; few = s.few; start = s.start; rest = b.1 }))

-- a plan whose changes stand before an end, and are not too many
pub record PlanFits (end : ℕ) (q : Plan) : Type 0 where
  pub inside : q.first + q.count ≤ end
  pub few : q.count ≤ max_of_plan

pub plan_fits : (t : Trigger) (from end : ℕ) (qs : List Plan) → spans from end qs ≡ true → PlanFits end (plan_of t qs)
unfolding plan_of
plan_fits t from end [] h = record { inside = omega arith; few = omega arith }
plan_fits t from end (q ∷ qs) h =
    let s = span_parts from end q qs h in
    let le = span_le (from + q.count) end qs s.rest in
    by_bool (same_trigger (trigger_of q) t) (λ e. rw e (record { inside = omega (arith, s.start); few = s.few }))
    (λ e. rw e (plan_fits t (from + q.count) end qs s.rest))
