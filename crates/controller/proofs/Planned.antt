-- The plan that a decision finds: where its changes stand in the store, and what questions 23 and 24 come to, by its
-- count and what is held afterwards. Assumes nothing.
use mathlib.Core.Path.{◌≡◌, sym, ap, ◌∙◌}
use mathlib.Core.Bool.{true}
use mathlib.Core.List.{List, ◌++◌}
use Prim.Native.Nat.{ℕ, ◌+◌, ◌≤◌, ◌<◌}
use native.Mathlib.Omega.{arith}
use lib.ListN.{length, take, drop, set}
use borrow.Author.Tests.{le-leb, lt-leb}
use Rattle.answer.specs.Ask.{reply}
use Rattle.answer.proofs.Asked.{none_asked, refused, asked}
use Rattle.lists.proofs.Stores.{part-within}
use Rattle.playbook.specs.Books as books
use Rattle.playbook.specs.Plans.{plan_of, changes_for}
use Rattle.playbook.specs.Storing.{stored_ok}
use Rattle.playbook.specs.declared.Change.{Change}
use Rattle.playbook.specs.declared.Plan.{Plan}
use Rattle.playbook.specs.declared.Playbook.{Playbook}
use Rattle.playbook.proofs.Kept.{stored_parts}
use Rattle.playbook.proofs.Listed.{stored_plan, plan_length}
use Rattle.controller.specs.Changes.{held_of, undone_of, still_undone, numbered_from}
use Rattle.controller.specs.States.{unchanged, progressed}
use Rattle.controller.specs.Decisions.{given_by, held_after, decision_questions, decided}
use Rattle.controller.specs.declared.Controller.{Controller}
use Rattle.controller.specs.declared.Held.{Held}
use Rattle.controller.specs.declared.Reply.{Reply}
use Rattle.controller.proofs.Numbering.{given-length}

-- the plan of a trigger in a stored playbook, and its changes where they stand
pub record Listed (p : Playbook) (t : books.Trigger) (q : Plan) : Type 0 where
  pub inside : q.first + q.count ≤ 512
  pub few : q.count ≤ 32
  pub counted : length (changes_for p t) ≡ q.count
  pub changes : changes_for p t ≡ take q.count (drop q.first p.changes)

pub plan_listed : (p : Playbook) (t : books.Trigger) → stored_ok p ≡ true → {q : Plan}
    → q ≡ plan_of t (books.book_of p).plans → Listed p t q
plan_listed p t h e =
    let plan = stored_plan p t h in
    let s = stored_parts p h in
    rw e (record {
      inside = omega arith;
      few = plan.few;
      counted = plan_length p t h;
      changes = part-within _ _ p.listed p.changes plan.inside;
    })

-- what questions 23 and 24 come to, of a controller that found this plan for a trigger
module _ (c : Controller) (s serial cause : ℕ) where
  abbrev pub PlanAsked : Reply → Type 0
  PlanAsked r =
      r
      ≡ reply (drop 3 (decision_questions c s serial cause)) (unchanged c) (unchanged (decided c s serial cause) 0)

  module _ {q : Plan} (l : Listed c.playbook (s, cause) q) where
    -- a number for each change of the plan, done or not
    numbers : length (given_by c (s, cause)) ≡ q.count
    numbers =
        given-length (c.progress.last + 1) (c.progress.last + 1) (changes_for c.playbook (s, cause))
        ∙ l.counted

    numbers_left : c.progress.last + q.count ≤ 4294967295
        → c.progress.last + length (given_by c (s, cause)) ≤ 4294967295
    numbers_left h = omega (arith, numbers)

    pub plan_exhausts : 4294967295 < c.progress.last + q.count → PlanAsked (unchanged c 23)
    plan_exhausts h =
        let more : 4294967295 < c.progress.last + length (given_by c (s, cause)) = omega (arith, numbers) in
        sym (refused _ _ 23 _ _ (lt-leb _ _ more))

    -- and what its changes in the store leave to hold is what the decision does
    module _ {h : Held} (left : c.progress.last + q.count ≤ 4294967295)
        (e : h
        ≡ held_of (undone_of c
        ++ still_undone c.progress.acknowledged
        (numbered_from (c.progress.last + 1) (c.progress.last + 1)
        (take q.count (drop q.first c.playbook.changes))))) where
      held : h ≡ held_of (held_after c (s, cause))
      held =
          e
          ∙ ap (λ (cs : List Change). held_of (undone_of c
          ++ still_undone c.progress.acknowledged (numbered_from (c.progress.last + 1) (c.progress.last + 1) cs)))
          (sym l.changes)

      pub plan_full : 64 < h.count → PlanAsked (unchanged c 24)
      plan_full n =
          let more : 64 < length (held_after c (s, cause)) = rw held at n in
          sym (asked _ _ 23 _ _ (le-leb _ _ (numbers_left left)) ∙ refused _ _ 24 _ _ (lt-leb _ _ more))

      pub plan_taken : h.count ≤ 64
          → PlanAsked (unchanged (progressed c (record {
            acknowledged = c.progress.acknowledged;
            serials = set c.progress.serials s serial;
            last = c.progress.last + q.count;
            undone = h;
          })) 0)
      plan_taken n =
          let room : length (held_after c (s, cause)) ≤ 64 = rw held at n in
          rw (held, ← numbers)
          (sym (asked _ _ 23 _ _ (le-leb _ _ (numbers_left left))
          ∙ asked _ _ 24 _ _ (le-leb _ _ room) ∙ none_asked _ _))
