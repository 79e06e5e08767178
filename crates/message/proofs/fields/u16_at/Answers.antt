-- `u16_at` meets its contract: a field of two bytes is the number of its bytes. Assumes nothing.
use mathlib.Core.Path.{◌∙◌}
use native.Mathlib.Omega.{arith}
use Rattle.lists.proofs.Numbers.{field_two}
use Rattle.message.proofs.fields.u16_at.Goals as goal

pub returns : goal.returns
returns c = c.u16_of.ensures ∙ field_two _ _ (omega arith)
