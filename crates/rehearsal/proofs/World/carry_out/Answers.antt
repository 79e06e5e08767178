-- `World::carry_out` meets its contract: a record that passed its questions names what there is.
use mathlib.Core.Path.{◌≡◌, sym, ◌∙◌}
use native.Mathlib.Omega.{arith}
use borrow.Author.Rules.{rules}
use lib.ListN.{length}
use Rattle.lists.proofs.Stores.{length_mapped}
use Rattle.rehearsal.proofs.Turns.{named, refused_turn, carried_turn}
use Rattle.rehearsal.proofs.World.carry_out.Goals as goal

pub returns-then-question-ne-DONE : goal.returns-then-question-ne-DONE
returns-then-question-ne-DONE c = let a = c.args in
    refused_turn a.dropped a.self.now a.r a.bytes.now c.place-place.ensures c.switch_of-to.ensures
    c.question-question.ensures c.if-question-ne-DONE.true c.unbegun.ensures

pub bounds-self-r : goal.bounds-self-r
bounds-self-r c =
    let names = named c.args.self.now.n c.args.r c.place-place.result (sym c.question-question.ensures ∙ omega arith) in
    omega (arith, c.requires.few, names.controller)

pub bounds-self-to : goal.bounds-self-to
bounds-self-to c =
    let names = named c.args.self.now.n c.args.r c.place-place.result (sym c.question-question.ensures ∙ omega arith) in
    omega (arith, c.switch_of-to.ensures, names.switch)

pub bounds-self-r-2 : goal.bounds-self-r-2
bounds-self-r-2 c =
    let names = named c.args.self.now.n c.args.r c.place-place.result (sym c.question-question.ensures ∙ omega arith) in
    omega (arith, c.requires.few, names.controller)

pub bounds-self-to-2 : goal.bounds-self-to-2
bounds-self-to-2 c =
    let names = named c.args.self.now.n c.args.r c.place-place.result (sym c.question-question.ensures ∙ omega arith) in
    omega (arith, c.switch_of-to.ensures, names.switch)

pub bounds-self-r-3 : goal.bounds-self-r-3
bounds-self-r-3 c =
    let names = named c.args.self.now.n c.args.r c.place-place.result (sym c.question-question.ensures ∙ omega arith) in
    omega (arith, names.place)

pub returns : goal.returns
returns c = let a = c.args in
    let switches : length a.self.now.switches ≡ 16 = search (rules, length_mapped) in
    let controllers : length a.self.now.controllers ≡ 16 = search (rules, length_mapped) in
    carried_turn a.dropped a.self.now a.r a.bytes.now c.place-place.ensures c.switch_of-to.ensures
    (sym c.question-question.ensures ∙ omega arith) c.requires.few switches controllers _ _
    c.share_in-made.ensures c.carry_out-moved.ensures c.begun.ensures
