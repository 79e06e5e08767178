-- `put_ethernet` meets its contract: each field is put behind the one before it, the fields of a structure at once. Assumes nothing.
use Rattle.openflow.proofs.Putting.{ethernet_put}
use Rattle.openflow.proofs.matches.put_ethernet.Goals as goal

-- each name is the place after the field of that name is put
pub returns : goal.returns
returns c = ethernet_put c.args.part.now _ c.requires c.put_u16.ensures c.put_u16-2.ensures c.put_oxm.ensures c.put_u16-3.ensures
