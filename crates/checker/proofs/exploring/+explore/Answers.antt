-- Each return is a law on one step: a change left out, made at once, or left out first and then made.
use mathlib.Core.Path.{◌≡◌, sym, ap, ◌∙◌}
use mathlib.Core.Bool.{not}
use native.Mathlib.Omega.{arith}
use borrow.Author.Rules.{rules}
use lib.ListN.{length}
use Rattle.std.proofs.lemmas.Result.{err_from_is_err_and}
use Rattle.checker.proofs.Exploration.{ended, left_out, made_at_once, unmade_bad, made_after}
use Rattle.checker.proofs.exploring.+explore.Goals.{then-may_wait+in_ok-left, else-may_wait}
use Rattle.checker.proofs.exploring.+explore.Goals as goal

pub returns-then-changes-k : goal.returns-then-changes-k
returns-then-changes-k t c = let a = c.args in
    ended a.changes.now a.links.now a.q a.address a.marks a.k a.budget _ c.requires.0 c.if-changes-k.true c.tested.ensures

pub returns-then-not-skips_none : goal.returns-then-not-skips_none
returns-then-not-skips_none t c = let a = c.args in
    let long : length a.marks ≡ 256 = search rules in
    left_out a.changes.now a.links.now a.q a.address a.marks a.k a.budget (omega arith)
    c.if-changes-k.false c.skips_none.ensures _ (ap not c.if-not-skips_none.true) c.explore.ensures

pub returns-in_err-left : goal.returns-in_err-left
returns-in_err-left t c = let a = c.args in
    let long : length a.marks ≡ 256 = search rules in
    let p = err_from_is_err_and c.from_residual.result c.from_residual.ensures.1 in
    rw (p.1, p.2)
    (unmade_bad a.changes.now a.links.now a.q a.address a.marks a.k a.budget (omega arith)
    c.if-changes-k.false c.skips_none.ensures (ap not c.if-not-skips_none.false)
    c.may_wait.ensures c.if-may_wait.true _ (sym c.in_err-left.was ∙ c.explore-then-may_wait.ensures))

pub returns : goal.returns
returns t c = let a = c.args in
    let long : length a.marks ≡ 256 = search rules in
    elim c.if-may_wait.branch [
      | then-may_wait+in_ok-left w ↦ made_after a.changes.now a.links.now a.q a.address a.marks a.k a.budget (omega arith)
          c.if-changes-k.false c.skips_none.ensures (ap not c.if-not-skips_none.false)
          c.may_wait.ensures w.if-may_wait.true _ _ _ (sym w.in_ok-left.was ∙ w.explore-then-may_wait.ensures) w.left-is
          c.explore-2.ensures
      | else-may_wait w ↦ made_at_once a.changes.now a.links.now a.q a.address a.marks a.k a.budget (omega arith)
          c.if-changes-k.false c.skips_none.ensures (ap not c.if-not-skips_none.false)
          c.may_wait.ensures _ _ w.if-may_wait.false w.left-is c.explore-2.ensures
    ]
