-- `print` meets its contract: the text is measured before it is put. Assumes nothing.
use native.Mathlib.Omega.{arith}
use Rattle.rehearsal.specs.Lines.{text}
use Rattle.rehearsal.proofs.Putting.{not-printed, all_printed}
use Rattle.rehearsal.proofs.printing.print.Goals as goal

pub returns-then-out-n : goal.returns-then-out-n
returns-then-out-n c = let a = c.args in not-printed (text a.lines.now) a.out.now (omega arith)

pub returns : goal.returns
returns c = let a = c.args in
    all_printed (text a.lines.now) a.out.now (omega arith) c.text_width-n.ensures c.put_lines.ensures
