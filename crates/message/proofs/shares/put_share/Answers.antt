-- `put_share` meets its contract: each field is stored after the one before it. Assumes nothing.
use Rattle.message.proofs.Frames.{share-put}
use Rattle.message.proofs.shares.put_share.Goals as goal

-- each name is the place after the field of that name is put
pub returns : goal.returns
returns c = let a = c.args in
    share-put a.part.now _ _ _ a.rule c.requires c.port_of.ensures c.put_u8.ensures
    c.put_u8-2.ensures c.put_u8-3.ensures c.put_u32.ensures c.put_u32-2.ensures
    c.put_u8-4.ensures c.put_u16.ensures
