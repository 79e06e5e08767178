-- `changes_ok` meets its contract. The loop's invariant: the walk over all changes passes where it does over those that
-- are left, after the number before. Assumes nothing.
use mathlib.Core.Path.{◌≡◌, sym, ◌∙◌}
use mathlib.Core.Bool.{◌&&◌, and-false}
use Prim.Native.Nat.{◌+◌}
use native.Mathlib.Omega.{arith}
use borrow.Author.Tests.{lt-ltb, le-ltb}
use lib.Dec.{ltb}
use lib.ListN.{drop, get_or}
use Rattle.controller.specs.Changes.{empty_undone}
use Rattle.controller.proofs.Walked.{walked, walk_turn, walk_end}
use Rattle.controller.proofs.states.changes_ok.Goals.{then-not-is_ok-via-then-not-is_ok, then-not-is_ok-via-else-not-is_ok+then-u-before}
use Rattle.controller.proofs.states.changes_ok.Goals as goal

pub returns-then-not-is_ok : goal.returns-then-not-is_ok
returns-then-not-is_ok c =
    let a = c.args in
    let us = a.changes.now in
    let number = (get_or us c.loop-u.u-index empty_undone).number in
    let turn :
    walked a.acknowledged.now a.last 0 us
    ≡ ((c.is_ok.result && ltb c.loop-u.before number) && walked a.acknowledged.now a.last number (drop (c.loop-u.u-index + 1) us)) =
    c.loop-u.invariant
    ∙ walk_turn a.acknowledged.now a.last us c.loop-u.u-index c.loop-u.before empty_undone (omega arith)
    ∙ rw c.is_ok.ensures in
    elim c.then-not-is_ok.branch [
      | then-not-is_ok-via-then-not-is_ok w ↦ sym (turn ∙ rw w.if-not-is_ok.true)
      | then-not-is_ok-via-else-not-is_ok+then-u-before w ↦
          let low = le-ltb c.loop-u.before number (omega (arith, w.if-u-before.true)) in
          sym (turn ∙ rw (low, and-false))
    ]

pub loop-u-preserved : goal.loop-u-preserved
loop-u-preserved c =
    let a = c.args in
    let us = a.changes.now in
    let number = (get_or us c.loop-u.u-index empty_undone).number in
    c.loop-u.invariant
    ∙ walk_turn a.acknowledged.now a.last us c.loop-u.u-index c.loop-u.before empty_undone (omega arith)
    ∙ rw (sym c.is_ok.ensures ∙ c.if-not-is_ok.false, lt-ltb c.loop-u.before number (omega arith))

pub returns : goal.returns
returns c =
    sym (c.loop-u.invariant
    ∙ walk_end c.args.acknowledged.now c.args.last c.args.changes.now c.loop-u.u-index c.loop-u.before (omega arith))
