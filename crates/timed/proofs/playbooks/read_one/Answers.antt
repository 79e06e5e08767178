-- The answer and both counts are mixed into the sum one after another.
use Rattle.timed.proofs.playbooks.read_one.Goals as goal

pub returns : goal.returns
returns c = let read = c.read-r in
    let first = c.mix-sum in
    let second = c.mix in
    simp (c.mix-2.ensures.0, second.ensures.0, first.ensures.0, read.ensures)
