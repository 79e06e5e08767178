-- The loop over the plans of a store: the plans before a place stand one after another and have different triggers,
-- which are flagged. Assumes nothing.
use mathlib.Core.Path.{◌≡◌, refl, sym, ap, ◌∙◌}
use mathlib.Core.Bool.{Bool, true, false, ◌&&◌}
use mathlib.Core.List.{List}
use Prim.Native.Nat.{ℕ, ◌+◌, ◌*◌, ◌≤◌, ◌<◌}
use native.Mathlib.Omega.{arith}
use lib.Dec.{ltb, leb, eqb}
use lib.ListN.{length, take, drop, set, get_or, replicate, drop_of_length-le}
use lib.Seq.{take_all}
use borrow.Author.Tests.{ltb-true, leb-true}
use Rattle.answer.specs.Limits.{switch_count}
use Rattle.answer.proofs.Bools.{and_parts}
use Rattle.lists.specs.Kinds as kinds
use Rattle.lists.proofs.Stores.{rest, take_next}
use Rattle.playbook.specs.Limits.{max_of_plan}
use Rattle.playbook.specs.Books.{empty_plan, trigger_of}
use Rattle.playbook.specs.Storing.{spans}
use Rattle.playbook.specs.declared.Plan.{Plan}
use Rattle.playbook.specs.Gathering.{trigger_count, place_of, Marked}
use Rattle.playbook.proofs.Marked.{marked_none, marked_more}
use Rattle.playbook.proofs.Marked.{apart, apart_new, apart_used}

pub record Walked (qs : List Plan) (end : ℕ) (used : List Bool) (start i : ℕ) : Type 0 where
  pub within : i ≤ length qs
  pub short : start ≤ max_of_plan * i
  pub spanned : spans 0 end qs ≡ spans start end (drop i qs)
  pub different : apart (take i qs) ≡ true
  pub marked : Marked used (take i qs)

pub walked_none : (qs : List Plan) (end : ℕ) (used : List Bool) → used ≡ replicate trigger_count false
    → Walked qs end used 0 0
unfolding kinds.different
walked_none qs end used u = record {
  within = omega arith;
  short = omega arith;
  spanned = refl;
  different = refl;
  marked = marked_none used u;
}

-- a plan's own tests
abbrev pub fits_at : Plan → ℕ → Bool
fits_at q start = ltb q.switch switch_count && leb q.count max_of_plan && eqb q.first start

module _ {qs : List Plan} {end : ℕ} {used : List Bool} {start i : ℕ} (w : Walked qs end used start i) (q : Plan)
    (more : i < length qs) (at_i : get_or qs i empty_plan ≡ q) where
  spans-next : spans 0 end qs ≡ (fits_at q start && spans (start + q.count) end (drop (i + 1) qs))
  unfolding spans
  spans-next = w.spanned ∙ ap (spans start end) (rest qs i empty_plan more) ∙ rw at_i

  -- the plan fails its tests
  pub walked_wrong : fits_at q start ≡ false → spans 0 end qs ≡ false
  walked_wrong e = spans-next ∙ rw e

  module _ (fits : fits_at q start ≡ true) where
    pub walked_known : (q.switch < switch_count) × (q.count ≤ max_of_plan)
    walked_known =
        let a = and_parts (ltb q.switch switch_count && leb q.count max_of_plan) _ fits in
        let b = and_parts (ltb q.switch switch_count) _ a.0 in
        (ltb-true _ _ b.0, leb-true _ _ b.1)

    module _ (byte : q.cause < 256) where
      -- its trigger is an earlier plan's
      pub walked_used : get_or used (place_of (trigger_of q)) false ≡ true → apart qs ≡ false
      walked_used n =
          apart_used qs i empty_plan more (rw at_i (sym (w.marked.each (trigger_of q) walked_known.0 byte) ∙ n))

      -- the plan passes
      pub walked_more : get_or used (place_of (trigger_of q)) false ≡ false
          → Walked qs end (set used (place_of (trigger_of q)) true) (start + q.count) (i + 1)
      walked_more z =
          let new = sym (w.marked.each (trigger_of q) walked_known.0 byte) ∙ z in
          let known = walked_known in
          record {
            within = omega arith;
            short = omega (arith, w.short);
            spanned = spans-next ∙ rw fits;
            different = apart_new qs i empty_plan more w.different (rw at_i new);
            marked = rw (take_next qs i empty_plan more, at_i) (marked_more w.marked q walked_known.0 byte);
          }

-- all plans have been walked over
module _ {qs : List Plan} {end : ℕ} {used : List Bool} {start i : ℕ} (w : Walked qs end used start i)
    (none : length qs ≤ i) where
  pub walked_spans : spans 0 end qs ≡ eqb start end
  unfolding spans
  walked_spans = w.spanned ∙ ap (spans start end) (drop_of_length-le qs {i = i} none)

  pub walked_apart : apart qs ≡ true
  walked_apart = ap apart (sym (take_all i qs none)) ∙ w.different
