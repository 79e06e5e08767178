-- `u32_at` meets its contract: a field of four bytes is the number of its bytes. Assumes nothing.
use mathlib.Core.Path.{◌∙◌}
use native.Mathlib.Omega.{arith}
use Rattle.lists.proofs.Numbers.{field_four}
use Rattle.message.proofs.fields.u32_at.Goals as goal

pub returns : goal.returns
returns c = c.u32_of.ensures ∙ field_four _ _ (omega arith)
