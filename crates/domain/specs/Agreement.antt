-- The agreed changes (document 01, "Controller end", the agreed changes): of a playbook and a list of decisions, and of
-- nothing else.
use Rattle.std.specs.Prelude.{ℕ, List, [], ◌∷◌, ◌++◌, length, set, replicate}
use Rattle.answer.specs.Ask.{Question, reply}
use Rattle.answer.specs.Limits.{switch_count}
use Rattle.playbook.specs.declared.Playbook.{Playbook}
use Rattle.controller.specs.Decisions.{given, agreement_questions}
use Rattle.controller.specs.declared.Undone.{Undone}
use Rattle.domain.specs.Settings.{Decision}

-- along the list: the playbook in force, the decisions that passed, the first one first, the last serial of each switch,
-- and the changes so far; their numbers are those from 1 on, so the last number is how many there are
pub record Course : Type 0 where
  pub playbook : Playbook
  pub decided : List Decision
  pub serials : List ℕ
  pub changes : List Undone

abbrev pub beginning : Playbook → Course
beginning p = record { playbook = p; decided = []; serials = replicate switch_count 0; changes = [] }

-- the changes of a decision's plan, with the next numbers
abbrev pub next : Course → Decision → List Undone
next a d = given a.playbook (length a.changes) (d.switch, d.cause)

abbrev pub course_questions : Course → Decision → List Question
course_questions a d = agreement_questions a.serials (length a.changes) (next a d) d.switch d.serial

-- a decision that passes sets its switch's last serial and has its changes; any other has none
abbrev pub onward : Course → Decision → Course
onward a d = record {
  playbook = a.playbook;
  decided = a.decided ++ d ∷ [];
  serials = set a.serials d.switch d.serial;
  changes = a.changes ++ next a d;
}

abbrev pub advance : Course → Decision → Course
advance a d = reply (course_questions a d) (λ k. a) (onward a d)

abbrev pub along : Course → List Decision → Course
along a [] = a
along a (d ∷ ds) = along (advance a d) ds

unfoldable pub agreed_changes : Playbook → List Decision → List Undone
agreed_changes p ds = (along (beginning p) ds).changes
