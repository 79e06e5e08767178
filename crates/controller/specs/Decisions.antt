-- A decision that agreement brought (document 01, "Controller end" and the questions of a decision). Assumes nothing.
use Rattle.std.specs.Prelude.{ℕ, ◌+◌, List, [], ◌∷◌, ◌++◌, length, get_or, set, ltb, leb}
use Rattle.answer.specs.Ask.{Question, reply}
use Rattle.answer.specs.Limits.{switch_count, most_undone, largest}
use Rattle.playbook.specs.Books.{Trigger}
use Rattle.playbook.specs.Plans.{changes_for}
use Rattle.playbook.specs.declared.Playbook.{Playbook}
use Rattle.controller.specs.Changes.{held_of, undone_of, still_undone, numbered_from}
use Rattle.controller.specs.States.{unchanged, progressed, controller_ok}
use Rattle.controller.specs.declared.Controller.{Controller}
use Rattle.controller.specs.declared.Reply.{Reply}
use Rattle.controller.specs.declared.Undone.{Undone}

-- the changes of a trigger's plan with the numbers after the last one given; none without a plan
abbrev pub given : Playbook → ℕ → Trigger → List Undone
given p last t = numbered_from (last + 1) (last + 1) (changes_for p t)

abbrev pub given_by : Controller → Trigger → List Undone
given_by c t = given c.playbook c.progress.last t

-- the undone changes afterwards: those of the plan are held unless already done
abbrev pub held_after : Controller → Trigger → List Undone
held_after c t = undone_of c ++ still_undone c.progress.acknowledged (given_by c t)

-- what is asked of a decision wherever one is taken, at a controller and along the agreed list: its switch known, its
-- serial above the last decided there, and numbers enough for its plan's changes
abbrev pub agreement_questions : List ℕ → ℕ → List Undone → ℕ → ℕ → List Question
agreement_questions serials last changes s serial =
    (12, ltb s switch_count)
    ∷ (22, ltb (get_or serials s 0) serial)
    ∷ (23, leb (last + length changes) largest)
    ∷ []

abbrev pub decision_questions : Controller → ℕ → ℕ → ℕ → List Question
decision_questions c s serial cause =
    (20, controller_ok c)
    ∷ agreement_questions c.progress.serials c.progress.last (given_by c (s, cause)) s serial
    ++ (24, leb (length (held_after c (s, cause))) most_undone)
    ∷ []

-- the serial decided, the numbers given, the changes held
abbrev pub decided : Controller → ℕ → ℕ → ℕ → Controller
decided c s serial cause = progressed c (record {
  acknowledged = c.progress.acknowledged;
  serials = set c.progress.serials s serial;
  last = c.progress.last + length (given_by c (s, cause));
  undone = held_of (held_after c (s, cause));
})

unfoldable pub decided_by : Controller → ℕ → ℕ → ℕ → Reply
decided_by c s serial cause =
    reply (decision_questions c s serial cause) (unchanged c) (unchanged (decided c s serial cause) 0)
