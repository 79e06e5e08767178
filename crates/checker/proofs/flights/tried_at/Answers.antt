-- Each case of a trial.
use mathlib.Core.Path.{sym, ◌∙◌}
use native.Mathlib.Omega.{arith}
use lib.ListN.{length}
use Rattle.isolation.specs.Check.{covering}
use Rattle.checker.specs.Layout.{changes_in, links_in}
use Rattle.checker.specs.Marks.{rising_in}
use Rattle.checker.specs.declared.Onward.TheVariants.{Foreign, Leaves, GoesTo}
use Rattle.checker.proofs.Trying.{finds_all, trial_nothing, trial_onward}
use Rattle.checker.proofs.flights.tried_at.Goals as goal

pub returns-in_default : goal.returns-in_default
returns-in_default c = let a = c.args in
    let us = changes_in a.changes.now in
    trial_nothing us (covering us a.address) a.client (links_in a.links.now) a.switch
    (rising_in a.marks.now (length a.changes.now)) a.number a.budget
    (sym c.can_be_last.ensures ∙ c.if-not-can_be_last.false) c.if-budget-eq0.false
    (c.in_default.ensures
    ∙ finds_all a.changes.now a.number (length a.changes.now) a.switch a.address (omega arith) (omega arith))

pub returns-in-Foreign : goal.returns-in-Foreign
returns-in-Foreign c = let a = c.args in
    let us = changes_in a.changes.now in
    trial_onward us (covering us a.address) a.client (links_in a.links.now) a.switch
    (rising_in a.marks.now (length a.changes.now)) a.number a.budget
    (sym c.can_be_last.ensures ∙ c.if-not-can_be_last.false) c.if-budget-eq0.false c.in-Some.port
    (c.in-Some.ensures
    ∙ finds_all a.changes.now a.number (length a.changes.now) a.switch a.address (omega arith) (omega arith))
    Foreign c.in-Foreign.ensures

pub returns-in-Leaves : goal.returns-in-Leaves
returns-in-Leaves c = let a = c.args in
    let us = changes_in a.changes.now in
    trial_onward us (covering us a.address) a.client (links_in a.links.now) a.switch
    (rising_in a.marks.now (length a.changes.now)) a.number a.budget
    (sym c.can_be_last.ensures ∙ c.if-not-can_be_last.false) c.if-budget-eq0.false c.in-Some.port
    (c.in-Some.ensures
    ∙ finds_all a.changes.now a.number (length a.changes.now) a.switch a.address (omega arith) (omega arith))
    Leaves c.in-Leaves.ensures

pub returns-in-GoesTo : goal.returns-in-GoesTo
returns-in-GoesTo c = let a = c.args in
    let us = changes_in a.changes.now in
    trial_onward us (covering us a.address) a.client (links_in a.links.now) a.switch
    (rising_in a.marks.now (length a.changes.now)) a.number a.budget
    (sym c.can_be_last.ensures ∙ c.if-not-can_be_last.false) c.if-budget-eq0.false c.in-Some.port
    (c.in-Some.ensures
    ∙ finds_all a.changes.now a.number (length a.changes.now) a.switch a.address (omega arith) (omega arith))
    (GoesTo c.in-GoesTo.next) c.in-GoesTo.ensures
