-- `empty_table` meets its contract: no entries, padded, are the empty entry over and over. Assumes nothing.
use Rattle.lists.proofs.Padding.{pad_none}
use Rattle.flow.proofs.tables.empty_table.Goals as goal

pub returns : goal.returns
returns c = simp pad_none
