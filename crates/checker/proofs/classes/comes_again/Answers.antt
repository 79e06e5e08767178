-- The bound at place i is the address, or not.
use mathlib.Core.Path.{sym, ◌∙◌}
use native.Mathlib.Omega.{arith}
use Rattle.checker.specs.Layout.{bounds_for}
use Rattle.checker.proofs.Bounding.{asked_length, again_here, again_later, again_none}
use Rattle.checker.proofs.classes.comes_again.Goals as goal

pub returns-then-bound_at-address : goal.returns-then-bound_at-address
returns-then-bound_at-address c = let a = c.args in
    let long = asked_length a.changes.now a.q in
    sym (c.loop-i.invariant ∙ again_here (bounds_for a.changes.now a.q) c.loop-i.i a.address
    c.bound_at.result (omega arith) c.bound_at.ensures c.if-bound_at-address.true)

pub loop-i-preserved : goal.loop-i-preserved
loop-i-preserved c = let a = c.args in
    let long = asked_length a.changes.now a.q in
    c.loop-i.invariant ∙ again_later (bounds_for a.changes.now a.q) c.loop-i.i a.address
    c.bound_at.result (omega arith) c.bound_at.ensures c.if-bound_at-address.false

pub returns : goal.returns
returns c = let a = c.args in
    let long = asked_length a.changes.now a.q in
    sym (c.loop-i.invariant ∙ again_none (bounds_for a.changes.now a.q) c.loop-i.i a.address (omega arith))
