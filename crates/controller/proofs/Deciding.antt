-- The two cases of a decision: taken, with what its questions say where every answer is yes, or refused with the number
-- of a question and the state as it went in. Assumes nothing.
use mathlib.Core.Path.{◌≡◌, refl, sym, ap, ◌∙◌}
use mathlib.Core.Bool.{true}
use Prim.Native.Nat.{ℕ, ◌+◌, ◌≤◌, ◌<◌}
use lib.ListN.{length}
use borrow.Author.Tests.{ltb-true, leb-true, lt-ltb, le-leb, lt-leb}
use Rattle.answer.specs.Ask.{reply, first_no}
use Rattle.answer.proofs.Asked.{reply_ap, reply-from, answered, some_no}
use Rattle.controller.specs.States.{unchanged, controller_ok}
use Rattle.controller.specs.Acknowledgements.{serial_of}
use Rattle.controller.specs.Decisions.{given_by, held_after, decision_questions, decided, decided_by}
use Rattle.controller.specs.declared.Controller.{Controller}
use Rattle.controller.specs.declared.Reply.{Reply}

-- what the questions of a decision say where every answer is yes
pub record Decides (c : Controller) (s serial cause : ℕ) : Type 0 where
  pub limits : controller_ok c ≡ true
  pub known : s < 16
  pub above : serial_of c s < serial
  pub numbers : c.progress.last + length (given_by c (s, cause)) ≤ 4294967295
  pub room : length (held_after c (s, cause)) ≤ 64

-- the reply to a decision
pub data Decided (c : Controller) (s serial cause : ℕ) : Reply → Type 0 where
  declined : {k : ℕ} → 10 ≤ k → Decided c s serial cause (unchanged c k)
  taken : Decides c s serial cause → Decided c s serial cause (unchanged (decided c s serial cause) 0)

module _ (c : Controller) (s serial cause : ℕ) where
  passed : first_no (decision_questions c s serial cause) ≡ 0 → Decides c s serial cause
  passed h =
      let yes = answered (decision_questions c s serial cause) refl h in
      record {
        limits = yes 20;
        known = ltb-true _ _ (yes 12);
        above = ltb-true _ _ (yes 22);
        numbers = leb-true _ _ (yes 23);
        room = leb-true _ _ (yes 24);
      }

  -- either case, and which number answers
  pub decision : Decided c s serial cause (decided_by c s serial cause)
  unfolding decided_by
  decision =
      reply-from (Decided c s serial cause) 10 _ _ _ refl (λ k h. declined h) (λ y. taken (passed y))

  pub decision_answer : (decided_by c s serial cause).answer ≡ first_no (decision_questions c s serial cause)
  unfolding decided_by
  decision_answer = reply_ap (λ (r : Reply). r.answer) (decision_questions c s serial cause) _ _

  -- answered 0 just where every answer is yes; answered anything else, the state stays
  pub decision_taken : Decides c s serial cause → decided_by c s serial cause ≡ unchanged (decided c s serial cause) 0
  unfolding decided_by reply
  decision_taken d =
      rw (
        d.limits,
        lt-ltb _ _ d.known,
        lt-ltb _ _ d.above,
        le-leb _ _ d.numbers,
        le-leb _ _ d.room,
      )

  pub decision_good : (decided_by c s serial cause).answer ≡ 0 → Decides c s serial cause
  decision_good h = passed (sym decision_answer ∙ h)

  pub decision_refused : ((decided_by c s serial cause).answer ≡ 0 → ⊥)
      → decided_by c s serial cause ≡ unchanged c (decided_by c s serial cause).answer
  unfolding decided_by
  decision_refused n =
      some_no (decision_questions c s serial cause) _ _ (λ e. n (decision_answer ∙ e))
      ∙ ap (unchanged c) (sym decision_answer)

  -- where nothing but the room is missing, the answer is 24
  pub decision_full : controller_ok c ≡ true → s < 16 → serial_of c s < serial
      → c.progress.last + length (given_by c (s, cause)) ≤ 4294967295 → 64 < length (held_after c (s, cause))
      → decided_by c s serial cause ≡ unchanged c 24
  unfolding decided_by reply
  decision_full limits known above numbers full =
      rw (limits, lt-ltb _ _ known, lt-ltb _ _ above, le-leb _ _ numbers, lt-leb _ _ full)
