-- The places that are marked are those of the settled numbers.
use mathlib.Core.Path.{◌≡◌, ap, ◌∙◌}
use mathlib.Core.Bool.{true, false}
use native.Mathlib.Omega.{arith}
use lib.ListN.{length, take, replicate, length-take, length-replicate}
use Rattle.checker.proofs.Needing.{settled_all}
use Rattle.checker.proofs.flights.known_first.Goals as goal

pub returns : goal.returns
returns c = let a = c.args in
    let m = c.min.result in
    let long : length (take m (replicate 256 false)) ≡ m = simp (length-take, length-replicate) (omega arith) in
    c.with_needs.ensures
    ∙ settled_all a.changes.now a.settled m c.min.ensures c.fill.new.self
    (c.fill.ensures.after (λ y h. h) ∙ ap (λ k. replicate k true) long)
