-- `ready` meets its contract. The loop's invariant: none of the changes before is on the switch. Assumes nothing.
use mathlib.Core.Path.{◌≡◌, refl, sym, ◌∙◌}
use native.Mathlib.Omega.{arith}
use lib.ListN.{take, get_or}
use lib.Seq.{take_all}
use Rattle.std.specs.Prelude.{Some, None}
use Rattle.answer.specs.Ask.{pick}
use Rattle.lists.specs.Arrays.{every}
use Rattle.controller.specs.Changes.{empty_undone}
use Rattle.controller.specs.Readiness.{ready_of}
use Rattle.controller.proofs.Scanning.{none_there, one_more, first_ready_lem}
use Rattle.controller.proofs.readiness.ready.Goals as goal

pub loop-i-init : goal.loop-i-init
unfolding every
loop-i-init c = refl

pub returns-then-is_free : goal.returns-then-is_free
returns-then-is_free c =
    let us = c.args.changes.now in
    let first : ready_of c.args.switch us ≡ pick c.is_free.result (Some (get_or us c.loop-i.i empty_undone)) None =
    first_ready_lem c.args.switch us c.requires c.loop-i.i (omega arith) c.loop-i.invariant c.if-u-switch.true
    ∙ rw c.is_free.ensures in
    sym (first ∙ rw c.if-is_free.true)

pub returns-else-is_free : goal.returns-else-is_free
returns-else-is_free c =
    let us = c.args.changes.now in
    let first : ready_of c.args.switch us ≡ pick c.is_free.result (Some (get_or us c.loop-i.i empty_undone)) None =
    first_ready_lem c.args.switch us c.requires c.loop-i.i (omega arith) c.loop-i.invariant c.if-u-switch.true
    ∙ rw c.is_free.ensures in
    sym (first ∙ rw c.if-is_free.false)

pub loop-i-preserved : goal.loop-i-preserved
loop-i-preserved c =
    one_more c.args.switch c.args.changes.now c.loop-i.i empty_undone (omega arith) c.loop-i.invariant c.if-u-switch.false

pub returns : goal.returns
returns c =
    let us = c.args.changes.now in
    let whole : take c.loop-i.i us ≡ us = take_all c.loop-i.i us (omega arith) in
    sym (none_there c.args.switch us (rw whole at c.loop-i.invariant))
