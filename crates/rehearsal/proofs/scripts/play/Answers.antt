-- `play` meets its contract: the lines of what is told are the input's.
use mathlib.Core.Path.{refl, sym, ap, ◌∙◌}
use native.Mathlib.Omega.{arith}
use lib.ListN.{take, replicate}
use lib.Seq.{length-take-le}
use Rattle.rehearsal.specs.Storing.{lines_stored}
use Rattle.rehearsal.specs.Deeds.{lines_told}
use Rattle.rehearsal.proofs.Telling.{told_lines, told_room, fault_lines, script_lines}
use Rattle.rehearsal.proofs.Telling.{first_line, next_line, last_line}
use Rattle.rehearsal.proofs.scripts.play.Goals as goal

pub returns-then-told-ne-DONE : goal.returns-then-told-ne-DONE
returns-then-told-ne-DONE c = let told = c.tell-told.result in
    let input = c.args.input.now in
    c.fault.ensures
    ∙ ap lines_stored
    (sym (fault_lines told c.if-told-ne-DONE.true) ∙ ap lines_told c.tell-told.ensures ∙ told_lines input)

pub shared_ref_as_front-deeds : goal.shared_ref_as_front-deeds
shared_ref_as_front-deeds c = (told_room c.args.input.now c.tell-told.ensures).0

pub slice_bounds-deeds-end : goal.slice_bounds-deeds-end
slice_bounds-deeds-end c = let told = c.tell-told.result in
    sym (length-take-le told.count told.deeds (told_room c.args.input.now c.tell-told.ensures).1)

pub loop-i-init : goal.loop-i-init
loop-i-init c = let told = c.tell-told.result in
    first_line (take told.count told.deeds) (ap (replicate 4096) c.none-places.ensures)

pub loop-i-preserved : goal.loop-i-preserved
loop-i-preserved c = let told = c.tell-told.result in
    next_line (take told.count told.deeds) c.loop-i.i c.loop-i.invariant c.loop-i-test.true _ refl

pub returns : goal.returns
returns c = let told = c.tell-told.result in
    let input = c.args.input.now in
    let room = told_room input c.tell-told.ensures in
    last_line (take told.count told.deeds) c.loop-i.i c.loop-i.invariant c.loop-i-test.false
    (sym (length-take-le told.count told.deeds room.1))
    ∙ ap lines_stored
    (sym (script_lines told (omega arith)) ∙ ap lines_told c.tell-told.ensures ∙ told_lines input)
