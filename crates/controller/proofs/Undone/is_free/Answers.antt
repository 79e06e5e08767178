-- `is_free` meets its contract: the chain tests every change. Assumes nothing.
use Rattle.std.proofs.Common.{rules, tests, ◌∙◌, not}
use Rattle.std.proofs.lemmas.Iterator.{YieldsList-from_slice}
use Rattle.std.proofs.lemmas.Iterator.Search.{all_from_yields_List}
use Rattle.controller.specs.Readiness.{ties}
use Rattle.controller.specs.declared.Undone.{Undone}
use Rattle.controller.proofs.Chains.{list_all-every}
use Rattle.controller.proofs.Undone.is_free.Goals as goal

pub returns : goal.returns
returns c =
    all_from_yields_List (λ (v : Undone). not (ties c.args.self.now v)) _ _ _ c.all.ensures.ran
    (YieldsList-from_slice c.args.changes.now cc) (λ x b q k. search (rules, tests))
    ∙ list_all-every (λ (v : Undone). not (ties c.args.self.now v)) c.args.changes.now
