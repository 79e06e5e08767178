-- `record_at` meets its contract: the branches answer questions 30, 31 and 30.
use mathlib.Core.Path.{sym, ◌∙◌}
use native.Mathlib.Omega.{arith}
use borrow.Author.Tests.{eqb-false}
use Rattle.std.proofs.lemmas.Bool.{eqb-true}
use Rattle.std.proofs.lemmas.Result.{err_from_is_err_and}
use Rattle.rehearsal.proofs.Fields.{none_left, unknown, cut, found}
use Rattle.rehearsal.proofs.records.record_at.Goals as goal

pub returns-then-is_empty : goal.returns-then-is_empty
returns-then-is_empty c =
    none_left c.args.b.now (omega (arith, eqb-true _ _ (sym c.is_empty.ensures ∙ c.if-is_empty.true)))

pub returns-in_err-kind : goal.returns-in_err-kind
returns-in_err-kind c =
    let p = err_from_is_err_and c.from_residual.result c.from_residual.ensures.1 in
    rw (p.1, p.2, c.in_err-kind.ensures.1)
    (unknown c.args.b.now (omega (arith, eqb-false _ _ (sym c.is_empty.ensures ∙ c.if-is_empty.false)))
    c.in_err-kind.ensures.0)

pub returns-then-b-size_of : goal.returns-then-b-size_of
returns-then-b-size_of c =
    cut c.args.b.now (omega (arith, eqb-false _ _ (sym c.is_empty.ensures ∙ c.if-is_empty.false)))
    c.in_ok-kind.ensures.0 c.in_ok-kind.ensures.1 c.size_of.ensures (omega arith)

pub returns : goal.returns
returns c =
    found c.args.b.now (omega (arith, eqb-false _ _ (sym c.is_empty.ensures ∙ c.if-is_empty.false)))
    c.in_ok-kind.ensures.0 c.in_ok-kind.ensures.1 c.size_of.ensures (omega arith) c.of.ensures
