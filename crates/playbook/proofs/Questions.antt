-- The questions of a plan and of a change: what it says of the record and the book that every answer is yes, both ways.
-- Assumes nothing.
use mathlib.Core.Path.{◌≡◌, refl, ◌∙◌}
use mathlib.Core.Bool.{true, not}
use mathlib.Core.List.{[], ◌∷◌, ◌++◌}
use Prim.Native.Nat.{◌≤◌, ◌<◌}
use lib.Dec.{ltb}
use lib.ListN.{length}
use borrow.Author.Tests.{ltb-true, leb-true, lt-ltb, le-leb}
use Rattle.answer.specs.Ask.{reply, first_no}
use Rattle.answer.specs.Limits.{switch_count}
use Rattle.answer.proofs.Asked.{asked, none_asked, answered}
use Rattle.answer.proofs.Bools.{and_parts}
use Rattle.flow.specs.Rules.{well_formed}
use Rattle.playbook.specs.Limits.{max_plans, max_changes, max_of_plan, max_keys}
use Rattle.playbook.specs.Books.{Book, Trigger, has_trigger, kinds_on, last_count}
use Rattle.playbook.specs.Asking.{plan_questions, change_questions}
use Rattle.playbook.specs.declared.Change.{Change}

pub record PlanPasses (b : Book) (t : Trigger) : Type 0 where
  pub known : t.0 < switch_count
  pub new : not (has_trigger t b.plans) ≡ true
  pub room : length b.plans < max_plans

pub plan_passes : (b : Book) (t : Trigger) → first_no (plan_questions b t) ≡ 0 → PlanPasses b t
plan_passes b t pass =
    let yes = answered _ refl pass in
    record { known = ltb-true _ _ (yes 12); new = yes 35; room = ltb-true _ _ (yes 36) }

pub plan-asked : (b : Book) (t : Trigger) → PlanPasses b t → first_no (plan_questions b t) ≡ 0
plan-asked b t q =
    asked _ _ 12 _ _ (lt-ltb _ _ q.known) ∙ asked _ _ 35 _ _ q.new ∙ asked _ _ 36 _ _ (lt-ltb _ _ q.room)
    ∙ none_asked _ _

pub record ChangePasses (b : Book) (c : Change) : Type 0 where
  pub known : c.switch < switch_count
  pub some : 0 < length b.plans
  pub formed : well_formed c.rule ≡ true
  pub room : length b.changes < max_changes
  pub short : last_count b.plans < max_of_plan
  pub few : kinds_on c.switch (b.changes ++ c ∷ []) ≤ max_keys

pub change_passes : (b : Book) (c : Change) → first_no (change_questions b c) ≡ 0 → ChangePasses b c
change_passes b c pass =
    let yes = answered _ refl pass in
    let both = and_parts (ltb (length b.changes) max_changes) _ (yes 36) in
    record {
      known = ltb-true _ _ (yes 12);
      some = ltb-true _ _ (yes 34);
      formed = yes 15;
      room = ltb-true _ _ both.0;
      short = ltb-true _ _ both.1;
      few = leb-true _ _ (yes 37);
    }

pub change-asked : (b : Book) (c : Change) → ChangePasses b c → first_no (change_questions b c) ≡ 0
unfolding reply
change-asked b c q =
    rw (
      lt-ltb _ _ q.known,
      lt-ltb _ _ q.some,
      q.formed,
      lt-ltb _ _ q.room,
      lt-ltb _ _ q.short,
      le-leb _ _ q.few,
    )
