-- `follow` meets its contract: the deeds so far stand in their places, and the others follow from the bytes that are
-- left and the world as it is.
use mathlib.Core.Path.{sym, ap, ◌∙◌}
use mathlib.Core.Bool.{Bool, false}
use mathlib.Core.Path.{◌≡◌}
use Prim.Native.Nat.{ℕ, ◌<◌}
use native.Mathlib.Omega.{arith}
use borrow.Author.Tests.{eqb-false}
use lib.Dec.{eqb}
use lib.ListN.{replicate}
use Rattle.std.proofs.lemmas.Bool.{eqb-true}
use Rattle.rehearsal.proofs.Turns.{starts, found_whole, next_turn, stops, ends}
use Rattle.rehearsal.proofs.scripts.follow.Goals as goal

-- bytes are left
some : {test : Bool} {long : ℕ} → test ≡ eqb long 0 → test ≡ false → 0 < long
some is other = omega (arith, eqb-false _ 0 (sym is ∙ other))

pub loop-rest-init : goal.loop-rest-init
loop-rest-init c = let a = c.args in
    starts a.dropped a.script.now a.world (ap (replicate 4096) c.broken-deeds.ensures)

pub returns-in-Err : goal.returns-in-Err
returns-in-Err c = let a = c.args in
    let at = c.loop-rest in
    stops a.dropped a.script.now _ at.world at.deeds at.count at.rest.now c.requires.short at.invariant
    (some c.is_empty.ensures c.loop-rest-test.true) (sym c.in-Err.ensures) c.broken.ensures

pub split_at-requires : goal.split_at-requires
split_at-requires c = rw c.size_of.ensures (found_whole c.loop-rest.rest.now c.in-Ok.r (sym c.in-Ok.ensures))

pub loop-rest-preserved : goal.loop-rest-preserved
loop-rest-preserved c = let a = c.args in
    let at = c.loop-rest in
    next_turn a.dropped a.script.now _ at.world at.deeds at.count at.rest.now c.requires.short at.invariant c.in-Ok.r
    (some c.is_empty.ensures c.loop-rest-test.true) (sym c.in-Ok.ensures) c.size_of.ensures c.split_at.ensures.front
    c.split_at.ensures.back c.carry_out.ensures

pub returns : goal.returns
returns c = let a = c.args in
    let at = c.loop-rest in
    ends a.dropped a.script.now _ at.world at.deeds at.count at.rest.now c.requires.short at.invariant
    (eqb-true _ 0 (sym c.is_empty.ensures ∙ c.loop-rest-test.false))
