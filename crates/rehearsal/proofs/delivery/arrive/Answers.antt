-- `arrive` meets its contract: the branch answers question 26.
use mathlib.Core.Path.{sym, ap, ◌∙◌}
use mathlib.Core.Bool.{not}
use Rattle.answer.proofs.Asked.{none_asked, refused, asked}
use Rattle.rehearsal.specs.Deeds.{arrived}
use Rattle.rehearsal.proofs.delivery.arrive.Goals as goal

pub returns-then-is_dropped : goal.returns-then-is_dropped
unfolding arrived
returns-then-is_dropped c =
    rw c.in-Ok.is (sym (refused _ _ 26 _ _ (ap not (sym c.is_dropped.ensures ∙ c.if-is_dropped.true))))

pub returns-else-is_dropped : goal.returns-else-is_dropped
unfolding arrived
returns-else-is_dropped c =
    rw c.in-Ok.is
    (c.deliver.ensures
    ∙ sym (asked _ _ 26 _ _ (ap not (sym c.is_dropped.ensures ∙ c.if-is_dropped.false)) ∙ none_asked _ _))
