-- `put_all` meets its contract: each field is put behind the one before it, the fields of a structure at once. Assumes nothing.
use Rattle.openflow.proofs.Putting.{all_put}
use Rattle.openflow.proofs.matches.put_all.Goals as goal

-- each name is the place after the field of that name is put
pub returns : goal.returns
returns c = all_put c.args.part.now c.requires c.put_ethernet.ensures c.put_u16.ensures c.put_u32.ensures
