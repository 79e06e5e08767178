-- The bound at place i is asked about or not, and its outcome stops the loop or goes on.
use mathlib.Core.Path.{sym, ap, ◌∙◌}
use Prim.Native.Nat.{◌+◌}
use native.Mathlib.Omega.{arith}
use lib.ListN.{drop}
use Rattle.std.proofs.lemmas.Result.{err_from_is_err_and}
use Rattle.checker.specs.Layout.{bounds_for}
use Rattle.checker.specs.Checked.{outcome_of}
use Rattle.checker.proofs.Bounding.{asked_length, asked_skip, asked_all}
use Rattle.checker.proofs.Judging.{asks, asks_from, bound_on, bound_bad}
use Rattle.checker.proofs.classes.ask_all.Invariants.{within}
use Rattle.checker.proofs.classes.ask_all.Goals.{then-is_asked+in_ok-left, else-is_asked}
use Rattle.checker.proofs.classes.ask_all.Goals as goal

pub returns-in_err-left : goal.returns-in_err-left
returns-in_err-left c = let a = c.args in
    let long = asked_length a.changes.now a.q in
    let p = err_from_is_err_and c.from_residual.result c.from_residual.ensures.1 in
    rw (p.1, p.2)
    (bound_bad (within a.q) a.changes.now a.links.now a.q (bounds_for a.changes.now a.q) c.loop-i.i c.bound_at-address.result
    c.loop-i.left (omega arith) c.bound_at-address.ensures (sym c.is_asked.ensures ∙ c.if-is_asked.true) _
    (sym c.in_err-left.was ∙ c.ask.ensures)
    ∙ ap outcome_of (sym c.loop-i.invariant))

pub loop-i-preserved : goal.loop-i-preserved
loop-i-preserved c = let a = c.args in
    let long = asked_length a.changes.now a.q in
    let l = bounds_for a.changes.now a.q in
    let next = asks_from (within a.q) a.changes.now a.links.now a.q (drop (c.loop-i.i + 1) l) in
    c.loop-i.invariant
    ∙ elim c.if-is_asked.branch [
      | then-is_asked+in_ok-left w ↦ bound_on (within a.q) a.changes.now a.links.now a.q l c.loop-i.i
          c.bound_at-address.result c.loop-i.left (omega arith) c.bound_at-address.ensures
          (sym c.is_asked.ensures ∙ w.if-is_asked.true) _ (sym w.in_ok-left.was ∙ w.ask.ensures)
          ∙ ap next (sym w.left-is)
      | else-is_asked w ↦ asked_skip (within a.q) (asks a.changes.now a.links.now a.q) l c.loop-i.i
          c.bound_at-address.result c.loop-i.left (omega arith) c.bound_at-address.ensures
          (sym c.is_asked.ensures ∙ w.if-is_asked.false)
          ∙ ap next (sym w.left-is)
    ]

pub returns : goal.returns
returns c = let a = c.args in
    let long = asked_length a.changes.now a.q in
    ap outcome_of (sym (c.loop-i.invariant
    ∙ asked_all (within a.q) (asks a.changes.now a.links.now a.q)
    (bounds_for a.changes.now a.q) c.loop-i.i c.loop-i.left (omega arith)))
