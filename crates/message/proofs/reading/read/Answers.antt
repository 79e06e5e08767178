-- `read` meets its contract, by the end. Assumes nothing.
use Rattle.message.proofs.reading.read.Goals as goal

pub returns-in-Switch : goal.returns-in-Switch
returns-in-Switch c = rw c.in-Switch.is c.read_at_switch.ensures

pub returns-in-Controller : goal.returns-in-Controller
returns-in-Controller c = rw c.in-Controller.is c.read_at_controller.ensures
