-- `length_of` meets its contract: a set has an instruction behind its match. Assumes nothing.
use mathlib.Core.Path.{sym, ◌∙◌}
use native.Mathlib.Omega.{arith}
use borrow.Author.Rules.{rules}
use Rattle.openflow.proofs.Lengths.{match_short, length_removed, length-set}
use Rattle.openflow.proofs.writing.length_of.Goals as goal

pub overflow_add-result : goal.overflow_add-result
overflow_add-result c = let r = c.args.rule in
    let end = c.match_end-in-Set.ensures in
    let short = (match_short r.prefix r.length).1 in
    search rules

pub returns-in-Remove : goal.returns-in-Remove
returns-in-Remove c = let r = c.args.rule in
    c.match_end.ensures ∙ sym (length_removed r c.in-Remove.is)

pub returns-in-Set : goal.returns-in-Set
returns-in-Set c = let r = c.args.rule in
    omega (arith, c.match_end-in-Set.ensures, length-set r _ c.in-Set.is)
