-- `report` meets its contract: the branch decides whether the acknowledgement was made. Assumes nothing.
use mathlib.Core.Path.{sym, ◌∙◌}
use native.Mathlib.Omega.{arith}
use borrow.Author.Tests.{eq-eqb, ne_eqb}
use Rattle.rehearsal.proofs.Making.{reported_by}
use Rattle.rehearsal.proofs.steps.report.Goals as goal

pub returns-then-r-ne-DONE : goal.returns-then-r-ne-DONE
returns-then-r-ne-DONE c = let a = c.args in
    sym (reported_by a.n a.switch a.controller a.s a.c (omega arith) c.switch_keys-keys.ensures
    c.write_acknowledgement-r.ensures
    ∙ rw (ne_eqb c.write_acknowledgement-r.result.answer 0 c.if-r-ne-DONE.true))

pub returns : goal.returns
returns c = let a = c.args in
    let made = eq-eqb c.write_acknowledgement-r.result.answer 0 (omega arith) in
    c.receive.ensures
    ∙ sym (reported_by a.n a.switch a.controller a.s a.c (omega arith) c.switch_keys-keys.ensures
    c.write_acknowledgement-r.ensures
    ∙ rw (made, ← c.controller_keys-keys.ensures))
