-- `is_ok` meets its contract: the changes in use are asked, and then the chain tests the other places. Assumes nothing.
use Rattle.std.proofs.Common.{rules, tests, ◌≡◌, ◌∙◌, sym, drop, ◌&&◌, true}
use Rattle.std.proofs.lemmas.Iterator.{YieldsList-from_slice}
use Rattle.std.proofs.lemmas.Iterator.Search.{all_from_yields_List}
use Rattle.lists.specs.Arrays.{every}
use Rattle.lists.specs.Rising.{rising_from}
use Rattle.controller.specs.Changes.{undone_empty, undone_in, numbers_of}
use Rattle.controller.specs.States.{undone_ok}
use Rattle.controller.proofs.Chains.{list_all-every}
use Rattle.controller.proofs.Held.is_ok.Goals as goal

pub returns-then-changes_ok : goal.returns-then-changes_ok
returns-then-changes_ok c =
    let h = c.args.self.now in
    let unused : c.all.result ≡ every undone_empty (drop h.count h.changes) =
    all_from_yields_List undone_empty _ _ _ c.all.ensures.ran (YieldsList-from_slice (drop h.count h.changes) cc)
    (λ x b q k. search (rules, tests))
    ∙ list_all-every undone_empty (drop h.count h.changes) in
    let used : (every (undone_ok c.args.acknowledged.now c.args.last) (undone_in h) && rising_from 0 (numbers_of (undone_in h)))
    ≡ true =
    rw (← c.split_at.ensures.front) (sym c.changes_ok.ensures ∙ c.if-changes_ok.true) in
    unused ∙ rw used
