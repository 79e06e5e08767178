-- `sender_question` meets its contract: the branches answer questions 12 to 14 in order. Assumes nothing.
use mathlib.Core.Path.{sym, ◌∙◌}
use mathlib.Core.List.{List}
use native.Mathlib.Omega.{arith}
use borrow.Author.Tests.{lt-ltb, le-ltb, eq-eqb, ne_eqb}
use Rattle.answer.specs.Ask.{Question}
use Rattle.answer.proofs.Asked.{Past, none_asked, refused, asked}
use Rattle.message.specs.Senders.{sender_questions}
use Rattle.message.proofs.senders.sender_question.Goals as goal

pub returns-then-known-sender : goal.returns-then-known-sender
returns-then-known-sender c = let a = c.args in
    sym (refused _ _ 12 _ _ (le-ltb a.sender a.known (omega arith)))

pub returns-then-receiver-id : goal.returns-then-receiver-id
returns-then-receiver-id c =
    let questions : List Question = let a = c.args in
    sender_questions a.known a.id a.keys.now a.bytes.now a.sender a.receiver in
    let known : Past questions 1 = let a = c.args in
    asked _ _ 12 _ _ (lt-ltb a.sender a.known (omega arith)) in
    let a = c.args in
    sym (known ∙ refused _ _ 13 _ _ (ne_eqb a.receiver a.id (λ e. omega arith)))

pub returns-then-not-is_sealed_by : goal.returns-then-not-is_sealed_by
returns-then-not-is_sealed_by c =
    let questions : List Question = let a = c.args in
    sender_questions a.known a.id a.keys.now a.bytes.now a.sender a.receiver in
    let known : Past questions 1 = let a = c.args in
    asked _ _ 12 _ _ (lt-ltb a.sender a.known (omega arith)) in
    let mine : Past questions 2 = let a = c.args in
    known ∙ asked _ _ 13 _ _ (eq-eqb a.receiver a.id (omega arith)) in
    sym (mine
    ∙ refused _ _ 14 _ _ (sym c.is_sealed_by.ensures ∙ c.if-not-is_sealed_by.true))

pub returns : goal.returns
returns c =
    let questions : List Question = let a = c.args in
    sender_questions a.known a.id a.keys.now a.bytes.now a.sender a.receiver in
    let known : Past questions 1 = let a = c.args in
    asked _ _ 12 _ _ (lt-ltb a.sender a.known (omega arith)) in
    let mine : Past questions 2 = let a = c.args in
    known ∙ asked _ _ 13 _ _ (eq-eqb a.receiver a.id (omega arith)) in
    sym (mine
    ∙ asked _ _ 14 _ _ (sym c.is_sealed_by.ensures ∙ c.if-not-is_sealed_by.false)
    ∙ none_asked _ _)
