-- What functions inside this crate hand to each other; no contract of a public one cites it.
use Rattle.std.specs.Prelude.{◌+◌, set}
use Rattle.controller.specs.declared.Controller.{Controller}
use Rattle.controller.specs.declared.Held.{Held}
use Rattle.controller.specs.declared.Outcome.{Outcome}
use Rattle.controller.specs.declared.Reply.{Reply}
use Rattle.controller.specs.declared.Undone.{Undone}

-- the reply of a call: its outcome, and the state as it is afterwards
abbrev pub replied : Controller → Outcome → Reply
replied c o = record { answer = o.answer; offer = o.offer; state = c }

-- the undone changes with one more in the next place, if there is one left
abbrev pub with_change : Held → Undone → Held
with_change h u = record { changes = set h.changes h.count u; count = h.count + 1 }
