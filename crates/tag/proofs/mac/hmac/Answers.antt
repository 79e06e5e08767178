-- The two hashes, one within the other.
use Rattle.tag.proofs.Macs.{hmac_law}
use Rattle.tag.proofs.mac.hmac.Goals as goal

pub returns : goal.returns
returns c = hmac_law _ _ c.key_block-k.ensures
    c.xored.ensures c.keyed-inner.ensures
    c.xored-2.ensures c.keyed.ensures
