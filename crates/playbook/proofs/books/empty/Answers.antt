-- `empty` meets its contract: no plans, padded, are the unused place over and over. Assumes nothing.
use Rattle.lists.proofs.Padding.{pad_none}
use Rattle.playbook.proofs.books.empty.Goals as goal

pub returns : goal.returns
returns c = simp pad_none
