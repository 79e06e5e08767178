-- Where there is room, the traffic decides.
use mathlib.Core.Path.{◌∙◌}
use Rattle.checker.proofs.Replying.{has_room}
use Rattle.checker.proofs.checks.is_network.Goals as goal

pub returns-then-traffic-le-LINES : goal.returns-then-traffic-le-LINES
returns-then-traffic-le-LINES c = let a = c.args in
    let room = c.if-traffic-le-LINES.true in
    c.are_formed.ensures ∙ has_room a.changes.now a.links.now a.traffic.now room.0 room.1 room.2
