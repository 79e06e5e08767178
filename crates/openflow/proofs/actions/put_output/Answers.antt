-- `put_output` meets its contract: each field is put behind the one before it. Assumes nothing.
use Rattle.openflow.proofs.Putting.{output-put}
use Rattle.openflow.proofs.actions.put_output.Goals as goal

-- each name is the place after the field of that name is put
pub returns : goal.returns
returns c = output-put c.args.part.now _ _ c.requires c.put_u16.ensures c.put_u16-2.ensures c.put_u32.ensures c.put_u16-3.ensures c.put_u16-4.ensures c.put_u32-2.ensures
