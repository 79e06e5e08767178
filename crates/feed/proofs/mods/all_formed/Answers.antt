-- `all_formed` meets its contract: every rule is tested.
use mathlib.Core.Path.{◌∙◌}
use borrow.Author.Rules.{rules}
use Rattle.std.proofs.Common.{tests}
use Rattle.std.proofs.lemmas.Iterator.{YieldsList-from_slice}
use Rattle.std.proofs.lemmas.Iterator.Search.{all_from_yields_List}
use Rattle.feed.specs.Mods.{is_formed}
use Rattle.feed.proofs.Putting.{list_all-every}
use Rattle.feed.proofs.mods.all_formed.Goals as goal

pub returns : goal.returns
returns c =
    all_from_yields_List is_formed _ _ _ c.all.ensures.ran (YieldsList-from_slice c.args.rules.now cc)
    (λ x b q k. search (rules, tests))
    ∙ list_all-every is_formed c.args.rules.now
