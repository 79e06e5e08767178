-- `tell` meets its contract: with nobody's shares dropped, the lines that are told are the rehearsal's.
use mathlib.Core.Path.{ap, ◌∙◌}
use Rattle.rehearsal.specs.Deeds.{lines_told}
use Rattle.rehearsal.proofs.Telling.{told_lines}
use Rattle.story.proofs.telling.tell.Goals as goal

pub returns : goal.returns
returns c = let told = c.tell.ensures in
    (told, ap lines_told told ∙ told_lines c.args.input.now)
