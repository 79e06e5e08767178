-- Decisions as bytes, and the agreed changes laid out. Assumes nothing.
use Rattle.std.specs.Prelude.{ℕ, ◌+◌, ◌*◌, ◌/◌, List, [], ◌∷◌, map, ltb, length, take, replicate, set}
use Rattle.answer.specs.Ask.{pick, reply}
use Rattle.lists.specs.Arrays.{pad}
use Rattle.lists.specs.Bytes.{field, byte_at}
use Rattle.flow.specs.Rules.{port_of}
use Rattle.playbook.specs.Plans.{changes_for}
use Rattle.playbook.specs.Storing.{stored_ok}
use Rattle.playbook.specs.declared.Change.{Change}
use Rattle.playbook.specs.declared.Playbook.{Playbook}
use Rattle.controller.specs.Decisions.{given, agreement_questions}
use Rattle.controller.specs.declared.Undone.{Undone}
use Rattle.domain.specs.Settings.{Decision}
use Rattle.domain.specs.Agreement.{agreed_changes}
use Rattle.checker.specs.Layout.{most_changes, listed_from, no_change}
use Rattle.checker.specs.declared.Agreed.{Agreed}
use Rattle.checker.specs.declared.AgreedChange.{AgreedChange}
use Rattle.checker.specs.declared.Course.{Course}

-- a decision in six bytes: switch, serial, cause; bytes past the last whole one are not looked at
abbrev pub decision_at : List ℕ → ℕ → Decision
decision_at bytes i = record {
  switch = byte_at bytes (i * 6);
  serial = field bytes (i * 6 + 1) 4;
  cause = byte_at bytes (i * 6 + 5);
}

abbrev pub decisions_in : List ℕ → List Decision
decisions_in bytes = listed_from (decision_at bytes) 0 (length bytes / 6)

-- a change as it is laid out
abbrev pub laid_as : Undone → AgreedChange
laid_as u = record {
  first = u.first;
  flow = u.flow;
  switch = u.switch;
  prefix = u.rule.prefix;
  length = u.rule.length;
  port = port_of u.rule.action;
}

-- the agreed changes laid out, as many as there is room for; none for a playbook that its reader would not store
abbrev pub laid_out : List Undone → Agreed
laid_out us = record { answer = 0; changes = pad most_changes no_change (map laid_as us); count = length us }

unfoldable pub agreed_of : Playbook → List Decision → Agreed
agreed_of p ds =
    pick (stored_ok p) (laid_out (agreed_changes p ds))
    (record { answer = 20; changes = replicate most_changes no_change; count = 0 })

-- the changes in use
abbrev pub in_use : Agreed → List AgreedChange
in_use a = take a.count a.changes

-- for inner functions: a change of a playbook as it is laid out for a decision with a first number, changes laid out from
-- a place on as far as there is room, and one decision more
abbrev pub laid_from : ℕ → Change → AgreedChange
laid_from first c = record {
  first = first;
  flow = c.flow;
  switch = c.switch;
  prefix = c.rule.prefix;
  length = c.rule.length;
  port = port_of c.rule.action;
}

abbrev pub put_at : List AgreedChange → ℕ → ℕ → Change → List AgreedChange
put_at laid at first c = pick (ltb at most_changes) (set laid at (laid_from first c)) laid

unfoldable pub laid_with : List AgreedChange → ℕ → ℕ → List Change → List AgreedChange
laid_with laid at first [] = laid
laid_with laid at first (c ∷ cs) = laid_with (put_at laid at first c) (at + 1) first cs

abbrev pub course_with : Playbook → Course → ℕ → ℕ → ℕ → Course
course_with p c s serial cause =
    reply (agreement_questions c.serials c.count (given p c.count (s, cause)) s serial) (λ k. c)
    (record {
      serials = set c.serials s serial;
      changes = laid_with c.changes c.count (c.count + 1) (changes_for p (s, cause));
      count = c.count + length (given p c.count (s, cause));
    })
