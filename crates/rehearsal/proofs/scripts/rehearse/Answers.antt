-- `rehearse` meets its contract: all lines are stored, and they are printed.
use mathlib.Core.Path.{◌≡◌, ap, ◌∙◌}
use Rattle.rehearsal.specs.Scripts.{lines_of}
use Rattle.rehearsal.specs.Storing.{lines_in}
use Rattle.rehearsal.specs.declared.Lines.{Lines}
use Rattle.rehearsal.proofs.Room.{few_lines, meaning_stored}
use Rattle.rehearsal.proofs.scripts.rehearse.Goals as goal

pub in_use-requires : goal.in_use-requires
in_use-requires c = rw (ap (λ (l : Lines). l.count) c.play.ensures) (few_lines c.args.input.now)

pub returns : goal.returns
returns c = let input = c.args.input.now in
    let told : c.in_use.result.now ≡ lines_of input =
    c.in_use.ensures ∙ ap lines_in c.play.ensures ∙ meaning_stored (lines_of input) (few_lines input) in
    rw told at c.print.ensures
