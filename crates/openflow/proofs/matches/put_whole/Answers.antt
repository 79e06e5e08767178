-- `put_whole` meets its contract: each field is put behind the one before it, the fields of a structure at once. Assumes nothing.
use Rattle.openflow.proofs.Putting.{whole-put}
use Rattle.openflow.proofs.matches.put_whole.Goals as goal

-- each name is the place after the field of that name is put
pub returns : goal.returns
returns c = whole-put c.args.part.now _ c.requires c.put_ethernet.ensures c.put_oxm.ensures c.put_u32.ensures c.put_u16.ensures c.put_u32-2.ensures
