-- A decision more takes the course to the next one.
use mathlib.Core.Path.{◌≡◌, sym, ap, ◌∙◌}
use mathlib.Core.Bool.{true}
use Prim.Native.Nat.{◌/◌}
use native.Mathlib.Omega.{arith}
use lib.ListN.{length, replicate}
use Rattle.playbook.specs.Storing.{stored_ok}
use Rattle.checker.proofs.Laying.{course_at, course_begins, course_few, course_turn, agreed_none, agreed_all}
use Rattle.checker.proofs.agreeing.agree.Goals as goal

pub returns-then-not-stored : goal.returns-then-not-stored
returns-then-not-stored c =
    (λ i. record { answer = 20; changes = replicate 256 (c.none-none.ensures i); count = 0 })
    ∙ agreed_none c.args.p c.args.decisions.now (sym c.stored.ensures ∙ c.if-not-stored.true)

pub loop-i-init : goal.loop-i-init
loop-i-init c =
    (λ i. record { serials = replicate 16 0; changes = replicate 256 (c.none-none.ensures i); count = 0 })
    ∙ course_begins c.args.p c.args.decisions.now

pub advance-requires-clause-few : goal.advance-requires-clause-few
advance-requires-clause-few c =
    let few = course_few c.args.p c.args.decisions.now c.loop-i.i in
    rw c.loop-i.invariant few

pub loop-i-preserved : goal.loop-i-preserved
loop-i-preserved c =
    course_turn c.args.p c.args.decisions.now c.loop-i.i (omega arith) c.loop-i.invariant
    c.u32_of-serial.ensures c.advance.ensures

pub returns : goal.returns
returns c =
    let stored : stored_ok c.args.p ≡ true = sym c.stored.ensures ∙ c.if-not-stored.false in
    let bytes = c.args.decisions.now in
    let end : c.loop-i.i ≡ length bytes / 6 = omega arith in
    agreed_all c.args.p bytes stored
    (c.loop-i.invariant ∙ ap (course_at c.args.p bytes) end)
