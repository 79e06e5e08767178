-- `current_share` meets its contract: the numbers of a controller within its limits rise. Assumes nothing.
use Rattle.controller.proofs.Within.{within}
use Rattle.controller.proofs.Controller.current_share.Goals as goal

pub ready-requires : goal.ready-requires
ready-requires c = rw c.in_use.ensures (within c.args.self.now c.requires).rising
