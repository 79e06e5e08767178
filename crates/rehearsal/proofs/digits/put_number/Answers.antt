-- `put_number` meets its contract: the digits after the zeros in front are put, and the byte behind them.
use Rattle.rehearsal.proofs.Putting.{number_put}
use Rattle.rehearsal.proofs.digits.put_number.Goals as goal

pub returns : goal.returns
returns c = let a = c.args in
    let zeros = c.zeros_in_front-zeros in
    number_put a.out.now a.at a.x a.end zeros.result c.digits_of-digits.ensures zeros.ensures.rest zeros.ensures.within
    c.copy_from_slice.ensures.after c.requires
