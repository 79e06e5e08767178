-- `put_header` meets its contract: the fields before the xid are put behind each other. Assumes nothing.
use Rattle.openflow.proofs.Putting.{header-put}
use Rattle.openflow.proofs.headers.put_header.Goals as goal

-- each name is the place after the field of that name is put
pub returns : goal.returns
returns c = header-put c.args.part.now _ _ c.requires c.put_u32.ensures c.put_u8.ensures
    c.put_u8-2.ensures c.put_u16.ensures
