-- `are_ordered` meets its contract, by the answers to both tests. Assumes nothing.
use Rattle.std.proofs.Common.{rules, tests, ◌≡◌, ◌∙◌, sym}
use Rattle.std.specs.List.{list_all}
use Rattle.std.proofs.lemmas.Iterator.{YieldsList-from_slice}
use Rattle.std.proofs.lemmas.Iterator.Search.{all_from_yields_List}
use Rattle.std.proofs.lemmas.List.Sorted.{answers_always}
use Rattle.flow.specs.Rules.{entry_key, before}
use Rattle.flow.specs.Tables.{entry_ok}
use Rattle.flow.proofs.Tests.{unfit, ordered_answer}
use Rattle.flow.proofs.tables.are_ordered.Goals as goal

pub returns-then-all : goal.returns-then-all
returns-then-all c =
    let all : c.all.result ≡ list_all entry_ok c.args.entries.now =
    all_from_yields_List entry_ok _ _ _ c.all.ensures.ran (YieldsList-from_slice c.args.entries.now cc)
    (λ x b q k. search (rules, tests)) in
    ordered_answer c.args.entries.now (sym all ∙ c.if-all.true) c.is_sorted_by.result
    (c.is_sorted_by.ensures.cases (λ x y. before (entry_key x) (entry_key y)) (answers_always _ _ _ (λ f a r g called. search rules)))

pub returns-else-all : goal.returns-else-all
returns-else-all c =
    let all : c.all.result ≡ list_all entry_ok c.args.entries.now =
    all_from_yields_List entry_ok _ _ _ c.all.ensures.ran (YieldsList-from_slice c.args.entries.now cc)
    (λ x b q k. search (rules, tests)) in
    c.if-all.false ∙ sym (unfit c.args.entries.now (sym all ∙ c.if-all.false))
