-- The place before j is decided in its turn.
use native.Mathlib.Omega.{arith}
use borrow.Author.Rules.{rules}
use lib.ListN.{length, length-set}
use Rattle.checker.proofs.Needing.{decided_none, decided-marked, decided_needed, decided_neither, decided_all}
use Rattle.checker.proofs.flights.with_needs.Goals.{else-not-out-j-via-then-not-out-j+else-is_needed, else-not-out-j-via-else-not-out-j}
use Rattle.checker.proofs.flights.with_needs.Goals as goal

pub loop-j-init : goal.loop-j-init
loop-j-init c = let a = c.args in (search rules, decided_none a.changes.now (length a.changes.now) a.marks)

pub loop-j-preserved-then-is_needed : goal.loop-j-preserved-then-is_needed
loop-j-preserved-then-is_needed c = let a = c.args in (
  simp length-set c.loop-j.invariant.0,
  decided_needed a.changes.now (length a.changes.now) a.marks c.loop-j.out c.loop-j.j c.loop-j.invariant.1
      (omega arith) (omega arith) c.is_needed.result c.is_needed.ensures (omega arith) c.if-is_needed.true,
)

pub loop-j-preserved : goal.loop-j-preserved
loop-j-preserved c = let a = c.args in
    let n = length a.changes.now in (
      c.loop-j.invariant.0,
      elim c.else-not-out-j.branch [
        | else-not-out-j-via-then-not-out-j+else-is_needed w ↦ decided_neither a.changes.now n a.marks c.loop-j.out c.loop-j.j
            c.loop-j.invariant.1 (omega arith) (omega arith) w.is_needed.result w.is_needed.ensures
            w.if-not-out-j.true w.if-is_needed.false
        | else-not-out-j-via-else-not-out-j w ↦ decided-marked a.changes.now n a.marks c.loop-j.out c.loop-j.j
            c.loop-j.invariant.1 (omega arith) (omega arith) w.if-not-out-j.false
      ],
    )

pub returns : goal.returns
returns c = let a = c.args in
    decided_all a.changes.now (length a.changes.now) a.marks c.loop-j.out c.loop-j.j c.loop-j.invariant.1 (omega arith)
