-- `first_awaited` meets its contract: the chain finds the first change that passes the test. Assumes nothing.
use Rattle.std.proofs.Common.{rules, tests, ◌≡◌, ◌∙◌, find, option_map}
use Rattle.std.proofs.lemmas.Iterator.{YieldsList-from_slice}
use Rattle.std.proofs.lemmas.Iterator.Search.{find_from_yields_List}
use denote.Ref.{Bor}
use Rattle.controller.specs.Changes.{undone_in}
use Rattle.controller.specs.Readiness.{waits_for}
use Rattle.controller.specs.declared.Undone.{Undone}
use Rattle.controller.proofs.Chains.{first_or_empty}
use Rattle.controller.proofs.awaiting.first_awaited.Goals as goal

pub returns : goal.returns
returns c =
    let us = undone_in c.args.h in
    let found : option_map (λ (x : Bor Undone). x.now) c.find-first.result ≡ find (waits_for c.args.u) us =
    find_from_yields_List (waits_for c.args.u) _ _ c.find-first.result c.find-first.ensures.ran (YieldsList-from_slice us cc)
    (λ x b q k. search (rules, tests)) in
    c.unwrap_or.ensures ∙ first_or_empty (waits_for c.args.u) us c.find-first.result found c.copied.ensures
