-- `put_oxm` meets its contract: each field is put behind the one before it. Assumes nothing.
use native.Mathlib.Omega.{arith}
use Rattle.openflow.proofs.Putting.{oxm-put}
use Rattle.openflow.proofs.matches.put_oxm.Goals as goal

-- each name is the place after the field of that name is put
pub returns : goal.returns
returns c = oxm-put c.args.part.now _ _ _ _ c.requires.0 c.requires.1 (omega arith) c.put_u16.ensures c.put_u8.ensures c.put_u8-2.ensures
