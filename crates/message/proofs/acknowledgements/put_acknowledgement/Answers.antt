-- `put_acknowledgement` meets its contract: each field is stored after the one before it. Assumes nothing.
use Rattle.message.proofs.Frames.{acknowledgement-put}
use Rattle.message.proofs.acknowledgements.put_acknowledgement.Goals as goal

-- each name is the place after the field of that name is put
pub returns : goal.returns
returns c = let start = c.args.part.now in
    acknowledgement-put start _ _ _ c.requires c.put_u8.ensures c.put_u8-2.ensures c.put_u8-3.ensures
    c.put_u32.ensures
