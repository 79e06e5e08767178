-- Each turn goes by the trial of its number.
use mathlib.Core.Path.{sym, ap, ◌∙◌}
use native.Mathlib.Omega.{arith}
use lib.ListN.{length}
use Rattle.std.proofs.lemmas.Result.{err_from_is_err_and}
use Rattle.checker.specs.Marks.{rising_in}
use Rattle.checker.specs.Checked.{outcome_of}
use Rattle.checker.proofs.Flying.{flight_none, flight-start, flight_end}
use Rattle.checker.proofs.Flying.{turn_passes, turn_spent, turn_crosses, turn_stops, turn_goes_on}
use Rattle.checker.proofs.flights.+flight.Goals as goal

pub returns-then-hops-eq0 : goal.returns-then-hops-eq0
returns-then-hops-eq0 t c = let a = c.args in
    let known = rising_in a.marks.now (length a.changes.now) in
    ap outcome_of (sym (flight_none a.changes.now a.links.now a.q a.address a.hops a.switch known a.budget c.if-hops-eq0.true))

pub loop-number-init : goal.loop-number-init
loop-number-init t c = let a = c.args in
    flight-start a.changes.now a.links.now a.q a.address a.hops a.switch (rising_in a.marks.now (length a.changes.now))
    a.budget c.if-hops-eq0.false

pub returns-in-Spent : goal.returns-in-Spent
returns-in-Spent t c = let a = c.args in
    let at = c.loop-number in
    ap outcome_of (sym (turn_spent a.changes.now a.links.now a.q a.address a.hops a.switch
    (rising_in a.marks.now (length a.changes.now)) _ at.number at.left at.invariant
    c.loop-number-test.true c.tried_at.result c.tried_at.ensures c.in-Spent.is))

pub returns-in-Crosses : goal.returns-in-Crosses
returns-in-Crosses t c = let a = c.args in
    let at = c.loop-number in
    c.failing.ensures
    ∙ ap outcome_of (sym (turn_crosses a.changes.now a.links.now a.q a.address a.hops a.switch
    (rising_in a.marks.now (length a.changes.now)) _ at.number at.left at.invariant
    c.loop-number-test.true c.tried_at.result c.tried_at.ensures
    c.known_at-known.result c.known_at-known.ensures c.in-Crosses.is))

pub loop-number-preserved-in-Passes : goal.loop-number-preserved-in-Passes
loop-number-preserved-in-Passes t c = let a = c.args in
    let at = c.loop-number in
    turn_passes a.changes.now a.links.now a.q a.address a.hops a.switch
    (rising_in a.marks.now (length a.changes.now)) _ at.number at.left at.invariant
    c.loop-number-test.true c.tried_at.result c.tried_at.ensures c.in-Passes.rest c.in-Passes.is

pub returns-in_err-left-in-GoesOn : goal.returns-in_err-left-in-GoesOn
returns-in_err-left-in-GoesOn t c = let a = c.args in
    let at = c.loop-number in
    let p = err_from_is_err_and c.from_residual.result c.from_residual.ensures.1 in
    rw (p.1, p.2)
    (turn_stops a.changes.now a.links.now a.q a.address a.hops a.switch
    (rising_in a.marks.now (length a.changes.now)) _ at.number at.left at.invariant
    c.loop-number-test.true c.tried_at.result c.tried_at.ensures
    c.known_at-known-in-GoesOn.result c.known_at-known-in-GoesOn.ensures c.in-GoesOn.next c.in-GoesOn.rest c.in-GoesOn.is
    _ (sym c.in_err-left-in-GoesOn.was ∙ c.flight.ensures))

pub loop-number-preserved : goal.loop-number-preserved
loop-number-preserved t c = let a = c.args in
    let at = c.loop-number in
    turn_goes_on a.changes.now a.links.now a.q a.address a.hops a.switch
    (rising_in a.marks.now (length a.changes.now)) _ at.number at.left at.invariant
    c.loop-number-test.true c.tried_at.result c.tried_at.ensures
    c.known_at-known-in-GoesOn.result c.known_at-known-in-GoesOn.ensures c.in-GoesOn.next c.in-GoesOn.rest c.in-GoesOn.is
    _ (sym c.in_ok-left-in-GoesOn.was ∙ c.flight.ensures)

pub returns : goal.returns
returns t c = let a = c.args in
    let at = c.loop-number in
    ap outcome_of (sym (at.invariant ∙ flight_end a.changes.now a.links.now a.q a.address a.hops a.switch
    (rising_in a.marks.now (length a.changes.now)) at.number at.left (omega arith)))
