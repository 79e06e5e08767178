-- `none` meets its contract: places that are all empty are no undone changes, padded. Assumes nothing.
use mathlib.Core.Path.{sym}
use Rattle.lists.proofs.Padding.{pad_none}
use Rattle.controller.specs.Changes.{empty_undone}
use Rattle.controller.proofs.Held.none.Goals as goal

pub returns : goal.returns
returns c = rw (sym (pad_none 64 empty_undone))
