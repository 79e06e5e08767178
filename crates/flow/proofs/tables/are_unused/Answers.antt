-- `are_unused` meets its contract: a test of all is one of every entry. Assumes nothing.
use Rattle.std.proofs.Common.{rules, tests, ◌∙◌}
use Rattle.std.proofs.lemmas.Iterator.{YieldsList-from_slice}
use Rattle.std.proofs.lemmas.Iterator.Consumers.{YieldsList-from_copied}
use Rattle.std.proofs.lemmas.Iterator.Search.{all_from_yields_List}
use Rattle.flow.specs.Tables.{is_empty}
use Rattle.flow.proofs.Tests.{all-every}
use Rattle.flow.proofs.tables.are_unused.Goals as goal

pub returns : goal.returns
returns c =
    all_from_yields_List is_empty _ _ _ c.all.ensures.ran
    (YieldsList-from_copied (YieldsList-from_slice c.args.entries.now cc))
    (λ x b q k. search (rules, tests))
    ∙ all-every is_empty c.args.entries.now
