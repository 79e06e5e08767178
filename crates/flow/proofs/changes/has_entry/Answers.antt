-- `has_entry` meets its contract: an entry that passes the test has the key. Assumes nothing.
use Rattle.std.proofs.Common.{rules, tests, ◌∙◌}
use Rattle.std.proofs.lemmas.Iterator.{YieldsList-from_slice}
use Rattle.std.proofs.lemmas.Iterator.Search.{any_from_yields_List}
use Rattle.flow.specs.Rules.{entry_key, same_key}
use Rattle.flow.proofs.Tests.{any-entry}
use Rattle.flow.proofs.changes.has_entry.Goals as goal

pub returns : goal.returns
returns c =
    any_from_yields_List (λ e. same_key (entry_key e) c.args.key) _ _ _ c.any.ensures.ran
    (YieldsList-from_slice c.args.entries.now cc) (λ x b q k. search (rules, tests))
    ∙ any-entry c.args.key c.args.entries.now
