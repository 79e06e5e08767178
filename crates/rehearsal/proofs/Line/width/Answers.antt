-- `Line::width` meets its contract: three numbers of at most ten digits, and a byte after each. Assumes nothing.
use native.Mathlib.Omega.{arith}
use Rattle.rehearsal.proofs.Decimals.{decimal-length}
use Rattle.rehearsal.proofs.Line.width.Goals as goal

pub overflow_add-result : goal.overflow_add-result
overflow_add-result c = let l = c.args.self in
    omega (arith, decimal-length l.ordinal, decimal-length l.answer)

pub overflow_add-result-2 : goal.overflow_add-result-2
overflow_add-result-2 c = let l = c.args.self in
    omega (arith, decimal-length l.ordinal, decimal-length l.answer, decimal-length l.figure)

pub overflow_add-result-3 : goal.overflow_add-result-3
overflow_add-result-3 c = let l = c.args.self in
    omega (arith, decimal-length l.ordinal, decimal-length l.answer, decimal-length l.figure)
