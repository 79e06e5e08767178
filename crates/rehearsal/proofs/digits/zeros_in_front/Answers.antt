-- `zeros_in_front` meets its contract: a zero goes, another digit stays, and so does the last.
use mathlib.Core.Path.{◌≡◌, refl, sym, ◌∙◌}
use native.Mathlib.Omega.{arith}
use lib.ListN.{length, take}
use lib.Seq.{get_or-take, length-take-le}
use Rattle.rehearsal.proofs.Putting.{strip_zero, strip_digit, strip_last}
use Rattle.rehearsal.proofs.digits.zeros_in_front.Goals as goal

pub loop-i-init : goal.loop-i-init
loop-i-init c = refl

pub returns-then-digit-ne48-clause-rest : goal.returns-then-digit-ne48-clause-rest
returns-then-digit-ne48-clause-rest c = let d = c.args.digits in
    let i = c.loop-i.i in
    let nine : length (take 9 d) ≡ 9 = length-take-le 9 d (omega arith) in
    sym (c.loop-i.invariant
    ∙ strip_digit d i (omega arith) (λ e. c.if-digit-ne48.true (get_or-take 9 d i 0 (omega arith) ∙ e)))

pub loop-i-preserved : goal.loop-i-preserved
loop-i-preserved c = let d = c.args.digits in
    let i = c.loop-i.i in
    let nine : length (take 9 d) ≡ 9 = length-take-le 9 d (omega arith) in
    c.loop-i.invariant
    ∙ strip_zero d i (omega arith) (sym (get_or-take 9 d i 0 (omega arith)) ∙ c.if-digit-ne48.false)

pub returns-clause-rest : goal.returns-clause-rest
returns-clause-rest c = let d = c.args.digits in
    let nine : length (take 9 d) ≡ 9 = length-take-le 9 d (omega arith) in
    let last : c.loop-i.i ≡ 9 = omega arith in
    sym (rw last at c.loop-i.invariant ∙ strip_last d 9 (omega arith))
