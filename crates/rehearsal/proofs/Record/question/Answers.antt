-- `Record::question` meets its contract: the branches answer questions 12, 29 and 26. Assumes nothing.
use mathlib.Core.Path.{sym, ◌∙◌}
use native.Mathlib.Omega.{arith}
use borrow.Author.Tests.{lt-ltb, le-ltb}
use Rattle.answer.proofs.Asked.{none_asked, refused, asked}
use Rattle.rehearsal.proofs.Record.question.Goals as goal

pub returns-then-n-self : goal.returns-then-n-self
returns-then-n-self c = let a = c.args in
    sym (refused _ _ 12 _ _ (rw (le-ltb a.self.controller a.n (omega arith))))

pub returns-then-self-ge-SWITCHES : goal.returns-then-self-ge-SWITCHES
returns-then-self-ge-SWITCHES c = let a = c.args in
    sym (refused _ _ 12 _ _
    (rw (lt-ltb a.self.controller a.n (omega arith), le-ltb a.self.switch 16 (omega arith))))

pub returns-then-self-ge-PLACES : goal.returns-then-self-ge-PLACES
returns-then-self-ge-PLACES c = let a = c.args in
    sym (asked _ _ 12 _ _
    (rw (lt-ltb a.self.controller a.n (omega arith), lt-ltb a.self.switch 16 (omega arith)))
    ∙ refused _ _ 29 _ _ (le-ltb a.self.place 64 (omega arith)))

pub returns-then-switch_of-ge-SWITCHES : goal.returns-then-switch_of-ge-SWITCHES
returns-then-switch_of-ge-SWITCHES c = let which = c.switch_of in
    let a = c.args in
    sym (asked _ _ 12 _ _
    (rw (lt-ltb a.self.controller a.n (omega arith), lt-ltb a.self.switch 16 (omega arith)))
    ∙ asked _ _ 29 _ _ (lt-ltb a.self.place 64 (omega arith))
    ∙ refused _ _ 26 _ _ (rw (← which.ensures) (le-ltb which.result 16 (omega arith))))

pub returns : goal.returns
returns c = let which = c.switch_of in
    let a = c.args in
    sym (asked _ _ 12 _ _
    (rw (lt-ltb a.self.controller a.n (omega arith), lt-ltb a.self.switch 16 (omega arith)))
    ∙ asked _ _ 29 _ _ (lt-ltb a.self.place 64 (omega arith))
    ∙ asked _ _ 26 _ _ (rw (← which.ensures) (lt-ltb which.result 16 (omega arith)))
    ∙ none_asked _ _)
