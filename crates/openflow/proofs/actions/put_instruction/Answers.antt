-- `put_instruction` meets its contract: each field is put behind the one before it, the fields of a structure at once. The part is never too short. Assumes nothing.
use native.Mathlib.Omega.{arith}
use Rattle.openflow.proofs.Putting.{instruction_put}
use Rattle.openflow.proofs.actions.put_instruction.Goals as goal

pub returns-then-part-lt24 : goal.returns-then-part-lt24
returns-then-part-lt24 c = absurd (omega (arith, c.if-part-lt24.true, c.requires))

-- each name is the place after the field of that name is put
pub returns : goal.returns
returns c = instruction_put c.args.part.now _ c.requires c.put_u16.ensures c.put_u16-2.ensures c.put_u32.ensures c.put_output.ensures
