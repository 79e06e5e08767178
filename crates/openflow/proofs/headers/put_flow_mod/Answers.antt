-- `put_flow_mod` meets its contract: each field is put behind the one before it. Assumes nothing.
use mathlib.Core.Path.{ap, ◌∙◌}
use native.Mathlib.Omega.{arith}
use lib.ListN.{length}
use lib.Seq.{length-sets}
use Rattle.openflow.proofs.Putting.{flow-mod-put}
use Rattle.openflow.proofs.headers.put_flow_mod.Goals as goal

-- each name is the place after the field of that name is put
pub returns : goal.returns
returns c = flow-mod-put c.args.part.now _ _ c.requires (omega arith) c.put_u64.ensures c.put_u64-2.ensures c.put_u8.ensures c.put_u8-2.ensures c.put_u16.ensures c.put_u16-2.ensures c.put_u16-3.ensures c.put_u32.ensures c.put_u32-2.ensures c.put_u32-3.ensures c.put_u16-4.ensures c.put_u16-5.ensures

pub shape_of-part : goal.shape_of-part
shape_of-part c = ap length (returns c) ∙ simp length-sets
