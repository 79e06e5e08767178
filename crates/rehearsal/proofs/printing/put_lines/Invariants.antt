-- The loop's invariant: the text of the lines so far is stored, and ends at `at`.
use mathlib.Core.Path.{◌≡◌}
use lib.ListN.{length, take}
use lib.Seq.{sets}
use Rattle.rehearsal.specs.Lines.{text}
use Rattle.rehearsal.proofs.printing.put_lines.Given as goal

abbrev pub invariant-loop-line : goal.invariant-loop-line
invariant-loop-line l = record {
  ends : l.at ≡ length (text (take l.line-index l.lines));
  stored : l.out ≡ sets l.initial.out 0 (text (take l.line-index l.lines));
}
