-- `read` meets its contract: after an end record question 38 is asked, and a refusal stays. Assumes nothing.
use mathlib.Core.Path.{sym, ap, ◌∙◌}
use lib.ListN.{length}
use borrow.Author.Tests.{eq-eqb, ne_eqb}
use Rattle.answer.specs.Ask.{reply}
use Rattle.playbook.specs.Reading.{whole}
use Rattle.playbook.proofs.reading.read.Goals as goal
use Rattle.playbook.proofs.reading.read.Goals.{else-r-eq-DONE-via-then-r-eq-DONE+else-r-s, else-r-eq-DONE-via-else-r-eq-DONE}

pub returns-then-r-s : goal.returns-then-r-s
unfolding reply
returns-then-r-s c =
    let n = length c.args.s.now in
    let read = c.read_first-r.ensures in
    c.refused.ensures
    ∙ sym (ap (whole n) (sym read) ∙ rw (eq-eqb _ _ c.if-r-eq-DONE.true, ne_eqb _ _ c.if-r-s.true))

pub returns : goal.returns
unfolding reply
returns c =
    let n = length c.args.s.now in
    let read = c.read_first-r.ensures in
    elim c.else-r-eq-DONE.branch [
      | else-r-eq-DONE-via-then-r-eq-DONE+else-r-s w ↦
          sym (ap (whole n) (sym read) ∙ rw (eq-eqb _ _ w.if-r-eq-DONE.true, eq-eqb _ _ w.if-r-s.false))
      | else-r-eq-DONE-via-else-r-eq-DONE w ↦
          sym (ap (whole n) (sym read) ∙ rw (ne_eqb _ _ w.if-r-eq-DONE.false))
    ]
