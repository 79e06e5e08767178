-- `digits_of` meets its contract: each call gives the digit of its unit, and the units are the powers of ten.
-- Assumes nothing.
use Rattle.rehearsal.specs.Lines.{digits}
use Rattle.rehearsal.proofs.digits.digits_of.Goals as goal

pub returns : goal.returns
unfolding digits
returns c = cc
