-- The change at place i is laid out in its turn.
use mathlib.Core.Path.{sym, ap, ◌∙◌}
use Prim.Native.Nat.{◌+◌}
use native.Mathlib.Omega.{arith}
use lib.ListN.{get_or, set}
use Rattle.playbook.specs.Books.{empty_change}
use Rattle.checker.proofs.Laying.{laid_none, laid_turn, put_in, put_out}
use Rattle.checker.proofs.agreeing.lay.Goals.{then-at-i-lt-CHANGES, else-at-i-lt-CHANGES}
use Rattle.checker.proofs.agreeing.lay.Goals as goal

pub loop-i-init : goal.loop-i-init
loop-i-init c = sym (laid_none c.args.laid.now c.args.at (c.args.at + 1))

pub loop-i-preserved : goal.loop-i-preserved
loop-i-preserved c = let a = c.args in
    let i = c.loop-i.i in
    let change = get_or a.listed.now i empty_change in
    laid_turn a.laid.now a.at (a.at + 1) a.listed.now i empty_change (omega arith) c.loop-i.invariant
    (elim c.if-at-i-lt-CHANGES.branch [
      | then-at-i-lt-CHANGES w ↦ w.laid-is ∙ ap (set c.loop-i.laid (a.at + i)) w.from_change.ensures
          ∙ put_in c.loop-i.laid (a.at + i) (a.at + 1) change (omega arith)
      | else-at-i-lt-CHANGES w ↦ w.laid-is ∙ put_out c.loop-i.laid (a.at + i) (a.at + 1) change (omega arith)
    ])
