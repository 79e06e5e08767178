-- `Line::put` meets its contract: three numbers, each with the byte that ends it, one after another. Assumes nothing.
use Rattle.rehearsal.proofs.Putting.{line_stored}
use Rattle.rehearsal.proofs.Line.put.Goals as goal

pub returns : goal.returns
returns c = let a = c.args in
    line_stored a.out.now a.at a.self c.put_number-answer.ensures c.put_number-figure.ensures
    c.put_number.ensures
