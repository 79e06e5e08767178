-- `read_share` meets its contract: each field is read where the definition reads it. Assumes nothing.
use Rattle.message.proofs.shares.read_share.Goals as goal

pub returns : goal.returns
returns c = rw (c.u32_at.ensures, c.rule_of.ensures, c.u32_at-2.ensures, c.u16_at.ensures)
