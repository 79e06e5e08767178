-- What is asked of the line at hand stops the loop or goes on.
use mathlib.Core.Path.{sym, ap, ◌∙◌}
use native.Mathlib.Omega.{arith}
use Rattle.std.proofs.lemmas.Result.{err_from_is_err_and}
use Rattle.checker.specs.Layout.{changes_in, links_in}
use Rattle.checker.specs.Checked.{outcome_of}
use Rattle.checker.proofs.Judging.{asked_of, aimed_is}
use Rattle.checker.proofs.Replying.{line_on, line_bad, lines_done}
use Rattle.checker.proofs.checks.each_line.Goals as goal

pub loop-line-init : goal.loop-line-init
loop-line-init c = let a = c.args in
    aimed_is a.aim (changes_in a.changes.now) a.settled (links_in a.links.now) _ a.budget

pub returns-in_err-left : goal.returns-in_err-left
returns-in_err-left c = let a = c.args in
    let one = asked_of a.aim (changes_in a.changes.now) a.settled (links_in a.links.now) in
    let p = err_from_is_err_and c.from_residual.result c.from_residual.ensures.1 in
    rw (p.1, p.2)
    (line_bad a.traffic.now c.loop-line.line-index one c.loop-line.left _ (omega arith) _
    (sym c.in_err-left.was ∙ c.ask_all.ensures)
    ∙ ap outcome_of (sym c.loop-line.invariant))

pub loop-line-preserved : goal.loop-line-preserved
loop-line-preserved c = let a = c.args in
    let one = asked_of a.aim (changes_in a.changes.now) a.settled (links_in a.links.now) in
    c.loop-line.invariant
    ∙ line_on a.traffic.now c.loop-line.line-index one c.loop-line.left _ (omega arith) _
    (sym c.in_ok-left.was ∙ c.ask_all.ensures)

pub returns : goal.returns
returns c = let a = c.args in
    let one = asked_of a.aim (changes_in a.changes.now) a.settled (links_in a.links.now) in
    ap outcome_of (sym (c.loop-line.invariant
    ∙ lines_done a.traffic.now c.loop-line.line-index one c.loop-line.left (omega arith)))
