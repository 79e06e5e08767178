-- The number is marked, and all that it needs.
use mathlib.Core.Path.{◌≡◌, ◌∙◌}
use native.Mathlib.Omega.{arith}
use borrow.Author.Rules.{rules}
use lib.ListN.{length}
use Rattle.checker.proofs.Needing.{known_with}
use Rattle.checker.proofs.flights.known_at.Goals as goal

pub returns : goal.returns
returns c = let a = c.args in
    let long : length a.marks.now ≡ 256 = search rules in
    c.with_needs.ensures
    ∙ known_with a.changes.now (length a.changes.now) a.marks.now a.number (omega arith) (omega arith) (omega arith)
