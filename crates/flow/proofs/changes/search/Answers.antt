-- `search` meets its contract: the entries are in the order by which it searches. Assumes nothing.
use Rattle.std.proofs.Common.{rules}
use Rattle.std.proofs.lemmas.List.Sorted.{answers_always}
use Rattle.flow.specs.Rules.{entry_key}
use Rattle.flow.proofs.Searched.{searched_is}
use Rattle.flow.proofs.changes.search.Goals as goal

pub returns : goal.returns
returns c =
    let found = c.binary_search_by_key in
    searched_is c.args.key c.args.entries.now found.result c.requires found.ensures.bound
    (found.ensures.position entry_key (answers_always _ _ _ (λ f a r g called. search rules)))
