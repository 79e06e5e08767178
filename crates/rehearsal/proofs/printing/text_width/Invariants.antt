-- The loop's invariant: n is the length of the text of the lines so far.
use mathlib.Core.Path.{◌≡◌}
use lib.ListN.{length, take}
use Rattle.rehearsal.specs.Lines.{text}
use Rattle.rehearsal.proofs.printing.text_width.Given as goal

abbrev pub invariant-loop-line : goal.invariant-loop-line
invariant-loop-line l = l.n ≡ length (text (take l.line-index l.lines))
