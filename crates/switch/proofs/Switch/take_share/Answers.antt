-- `take_share` meets its contract: a switch within its limits and a share that passes are what storing needs. Assumes
-- nothing.
use native.Mathlib.Omega.{arith}
use mathlib.Core.Path.{sym, ◌∙◌}
use Rattle.switch.specs.Shares.{slot_of}
use Rattle.switch.proofs.Passing.{passes}
use Rattle.switch.proofs.Within.{within}
use Rattle.switch.proofs.Switch.take_share.Goals as goal

pub bounds-self-c : goal.bounds-self-c
bounds-self-c c = omega (arith, (within c.args.self c.requires.0).few)

pub store-requires : goal.store-requires
store-requires c =
    let a = c.args in
    let w = within a.self c.requires.0 in
    let p = passes a.self (slot_of a.self a.controller) a.share (sym c.share_question-k.ensures ∙ omega arith) in
    (omega (arith, w.few), w.table, p.formed, p.room)
