-- `Reader::new` meets its contract: nothing is read so far. Assumes nothing.
use mathlib.Core.Path.{refl, ap, ◌∙◌}
use Rattle.playbook.specs.Books.{no_plans}
use Rattle.playbook.specs.Storing.{stored_ok}
use Rattle.playbook.proofs.Gathered.{collected_none}
use Rattle.playbook.proofs.Kept.{none_ok, book-stored}
use Rattle.playbook.proofs.Marked.{marked_none}
use Rattle.playbook.proofs.reading.Reader.new.Goals as goal

pub invariant_of-result-clause-stored : goal.invariant_of-result-clause-stored
invariant_of-result-clause-stored c = ap stored_ok c.empty.ensures ∙ book-stored no_plans none_ok

pub invariant_of-result-clause-marked : goal.invariant_of-result-clause-marked
invariant_of-result-clause-marked c = rw c.empty.ensures (marked_none c.new.result.used c.new.ensures)

pub invariant_of-result-clause-collected : goal.invariant_of-result-clause-collected
invariant_of-result-clause-collected c = rw (c.empty.ensures, c.new-2.ensures) (collected_none _ refl)
