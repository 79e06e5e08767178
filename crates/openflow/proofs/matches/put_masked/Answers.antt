-- `put_masked` meets its contract: each field is put behind the one before it, the fields of a structure at once. Assumes nothing.
use Rattle.openflow.proofs.Putting.{masked_put}
use Rattle.openflow.proofs.matches.put_masked.Goals as goal

-- each name is the place after the field of that name is put
pub returns : goal.returns
returns c = masked_put c.args.part.now _ _ c.requires c.put_ethernet.ensures c.put_oxm.ensures c.put_u32.ensures c.put_u32-2.ensures c.put_u16.ensures
