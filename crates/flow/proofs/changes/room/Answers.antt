-- `room` meets its contract: one question is asked. Assumes nothing.
use mathlib.Core.Path.{sym, ◌∙◌}
use mathlib.Core.List.{[]}
use Rattle.answer.proofs.Asked.{none_asked, refused, asked}
use Rattle.flow.proofs.changes.room.Goals as goal

pub returns-then-has_room : goal.returns-then-has_room
returns-then-has_room c = sym (asked (λ k. k) 0 19 _ [] (sym c.has_room.ensures ∙ c.if-has_room.true) ∙ none_asked (λ k. k) 0)

pub returns-else-has_room : goal.returns-else-has_room
returns-else-has_room c = sym (refused (λ k. k) 0 19 _ [] (sym c.has_room.ensures ∙ c.if-has_room.false))
