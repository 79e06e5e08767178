-- `Lines::fault` meets its contract: one line, and the other places empty.
use mathlib.Core.Path.{ap}
use lib.ListN.{replicate}
use Rattle.rehearsal.proofs.Telling.{one_line}
use Rattle.rehearsal.proofs.Lines.fault.Goals as goal

pub returns : goal.returns
returns c = one_line c.args.answer (ap (replicate 4096) c.none-places.ensures)
