-- `width` meets its contract: of ten digits, those after the zeros in front are left. Assumes nothing.
use Rattle.rehearsal.proofs.Putting.{width_after}
use Rattle.rehearsal.proofs.digits.width.Goals as goal

pub returns : goal.returns
returns c = width_after c.args.x c.zeros_in_front.result c.digits_of.ensures c.zeros_in_front.ensures.rest
