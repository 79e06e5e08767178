-- The marks that are told are those of the numbers made.
use mathlib.Core.Path.{sym, ap, ◌∙◌}
use mathlib.Core.Bool.{Bool}
use mathlib.Core.List.{List}
use Rattle.std.specs.Prelude.{Result, Err}
use Rattle.checker.specs.declared.Refusal.{Refusal}
use Rattle.checker.specs.declared.Refusal.TheVariants.{Fails}
use Rattle.checker.proofs.Replying.{marks_back}
use Rattle.checker.proofs.Quest.failing.Goals as goal

pub returns : goal.returns
returns c = let a = c.args in
    let told : List Bool → Result _ Refusal = λ made. Err (Fails (record { line = a.self.now.line; address = a.address; made = made })) in
    ap told (c.first_marks.ensures ∙ sym (marks_back a.marks.now a.count))
