-- Question 24 is not for good: a decision is refused by it only while more than 32 changes of earlier decisions are
-- undone, since a plan brings at most 32.
use mathlib.Core.Path.{◌≡◌, sym, ◌∙◌}
use mathlib.Core.Bool.{Bool, true, false, not, ◌&&◌, ◌||◌}
use mathlib.Core.List.{List, [], ◌∷◌}
use Prim.Native.Nat.{ℕ, ◌+◌, ◌≤◌, ◌<◌}
use native.Mathlib.Omega.{arith}
use lib.Dec.{leb, eqb}
use lib.ListN.{length, length-append}
use borrow.Author.Tests.{le-leb, eq-eqb}
use Rattle.answer.specs.Ask.{Question, reply, first_no}
use Rattle.answer.proofs.Bools.{by_le, by_or, tf, and_parts}
use Rattle.lists.proofs.Passing.{passing-few}
use Rattle.playbook.specs.Plans.{changes_for}
use Rattle.playbook.proofs.Listed.{plan_few}
use Rattle.controller.specs.Changes.{undone_of, is_undone, still_undone}
use Rattle.controller.specs.States.{controller_ok}
use Rattle.controller.specs.Decisions.{given_by, held_after, decision_questions, decided_by}
use Rattle.controller.specs.declared.Controller.{Controller}
use Rattle.controller.proofs.Deciding.{decision_answer}
use Rattle.controller.proofs.Numbering.{given-length}
use Rattle.controller.proofs.Within.{within}

-- each question with this number is answered yes, so it is not the first whose answer is no
abbrev Yes : ℕ → List Question → Bool
Yes j [] = true
Yes j ((k, b) ∷ qs) = (not (eqb k j) || b) && Yes j qs

not_first : (j : ℕ) (qs : List Question) → 0 < j → Yes j qs ≡ true → first_no qs ≡ j → ⊥
unfolding reply
not_first j [] positive all e = omega arith
not_first j ((k, true) ∷ qs) positive all e =
    not_first j qs positive (and_parts (not (eqb k j) || true) (Yes j qs) all).1 e
not_first j ((k, false) ∷ qs) positive all e =
    by_or (not (eqb k j)) false (and_parts (not (eqb k j) || false) (Yes j qs) all).0
    (λ n. tf n (rw (eq-eqb k j e))) (λ n. tf n (λ i. false))

module _ (c : Controller) (ok : controller_ok c ≡ true) (s serial cause : ℕ) where
  few_more : length (held_after c (s, cause)) ≤ length (undone_of c) + 32
  few_more =
      let given = given_by c (s, cause) in
      omega (
        arith,
        length-append (undone_of c) (still_undone c.progress.acknowledged given),
        passing-few (is_undone c.progress.acknowledged) given,
        given-length (c.progress.last + 1) (c.progress.last + 1) (changes_for c.playbook (s, cause)),
        plan_few c.playbook (s, cause) (within c ok).stored,
      )

  not_full : leb (length (held_after c (s, cause))) 64 ≡ true → (decided_by c s serial cause).answer ≡ 24 → ⊥
  not_full room e =
      not_first 24 (decision_questions c s serial cause) (omega arith) (rw room)
      (sym (decision_answer c s serial cause) ∙ e)

  pub full_means : (decided_by c s serial cause).answer ≡ 24 → 32 < length (undone_of c)
  full_means e =
      by_le (length (undone_of c)) 32
      (λ few. absurd (not_full (le-leb (length (held_after c (s, cause))) 64 (omega (arith, few_more))) e)) (λ l. l)
