-- The course is that of the first i decisions, laid out.
use mathlib.Core.Path.{◌≡◌}
use Rattle.checker.proofs.Laying.{course_at}
use Rattle.checker.proofs.agreeing.agree.Given as goal

abbrev pub invariant-loop-i : goal.invariant-loop-i
invariant-loop-i l =
    l.course ≡ course_at l.p l.decisions l.i
