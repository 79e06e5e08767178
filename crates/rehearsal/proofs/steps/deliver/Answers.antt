-- `deliver` meets its contract: n keys are lent of sixteen.
use Rattle.rehearsal.specs.Worlds.{bytes_of}
use Rattle.rehearsal.proofs.Making.{delivered_by}
use Rattle.rehearsal.proofs.steps.deliver.Goals as goal

pub returns : goal.returns
returns c = let a = c.args in
    delivered_by a.n a.switch a.s (bytes_of a.share.now) c.requires c.switch_keys-keys.ensures
    (rw c.in_use.ensures at c.receive.ensures)
