-- `applied_at` meets its contract: the rules of the deeds so far stand in their places.
use mathlib.Core.Path.{sym, ◌∙◌}
use native.Mathlib.Omega.{arith}
use lib.Seq.{length-take-le}
use lib.ListN.{take, length-take}
use Rattle.rehearsal.proofs.Telling.{told_room}
use Rattle.feed.proofs.Gathered.{none_gathered, few_gathered, next_deed, none_applied, all_gathered}
use Rattle.feed.proofs.rules.applied_at.Goals as goal
use Rattle.feed.proofs.rules.applied_at.Goals.{then-is_applied, else-is_applied}

pub returns-then-switch-ge-SWITCHES : goal.returns-then-switch-ge-SWITCHES
returns-then-switch-ge-SWITCHES c = none_applied _ _ c.no_rules-rules.ensures (omega arith)

pub shared_ref_as_front-deeds : goal.shared_ref_as_front-deeds
shared_ref_as_front-deeds c = (told_room c.args.input.now c.tell-told.ensures).0

pub slice_bounds-deeds-end : goal.slice_bounds-deeds-end
slice_bounds-deeds-end c = let told = c.tell-told.result in
    sym (length-take-le told.count told.deeds (told_room c.args.input.now c.tell-told.ensures).1)

pub loop-deed-init : goal.loop-deed-init
loop-deed-init c = let told = c.tell-told.result in
    none_gathered _ (take told.count told.deeds) c.no_rules-rules.ensures

pub offset_bounds-rules-count : goal.offset_bounds-rules-count
offset_bounds-rules-count c = let told = c.tell-told.result in
    let few = few_gathered _ (take told.count told.deeds) c.loop-deed.deed-index c.loop-deed.invariant in
    omega (arith, few, told_room c.args.input.now c.tell-told.ensures, length-take told.count told.deeds)

pub bounds-rules-count : goal.bounds-rules-count
bounds-rules-count c = let told = c.tell-told.result in
    let few = few_gathered _ (take told.count told.deeds) c.loop-deed.deed-index c.loop-deed.invariant in
    omega (arith, few, told_room c.args.input.now c.tell-told.ensures, length-take told.count told.deeds)

pub overflow_add-count : goal.overflow_add-count
overflow_add-count c = let told = c.tell-told.result in
    let few = few_gathered _ (take told.count told.deeds) c.loop-deed.deed-index c.loop-deed.invariant in
    omega (arith, few, told_room c.args.input.now c.tell-told.ensures, length-take told.count told.deeds)

pub loop-deed-preserved : goal.loop-deed-preserved
loop-deed-preserved c = let told = c.tell-told.result in
    let says = c.is_applied.ensures in
    let turn =
    next_deed _ (take told.count told.deeds) c.loop-deed.deed-index c.loop-deed.invariant c.loop-deed-test.true _ in
    elim c.if-is_applied.branch [
      | then-is_applied more ↦ rw (more.rules-is, more.count-is) (turn.0 (sym says ∙ more.if-is_applied.true))
      | else-is_applied same ↦ rw (same.rules-is, same.count-is) (turn.1 (sym says ∙ same.if-is_applied.false))
    ]

pub returns : goal.returns
returns c =
    all_gathered _ c.args.input.now c.tell-told.ensures (omega arith) c.loop-deed.deed-index c.loop-deed.invariant
    c.loop-deed-test.false
