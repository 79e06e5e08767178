-- `tell` meets its contract: an input that was refused has no deeds, any other its script's.
use mathlib.Core.Path.{sym, ap, ◌∙◌}
use lib.ListN.{replicate}
use Rattle.lists.proofs.Stores.{lent_rest}
use Rattle.rehearsal.specs.Worlds.{world_of}
use Rattle.rehearsal.proofs.Inputs.{ready, fault_told}
use Rattle.rehearsal.proofs.scripts.tell.Goals as goal

pub returns-in-Err : goal.returns-in-Err
returns-in-Err c = let a = c.args in
    fault_told a.dropped a.input.now (sym c.in-Err.ensures) (ap (replicate 4096) c.broken.ensures)
    (c.new.ensures ∙ ap (world_of 0) c.empty.ensures)

pub slice_bounds-follow-count : goal.slice_bounds-follow-count
slice_bounds-follow-count c = (ready c.args.dropped c.args.input.now (sym c.in-Ok.ensures)).within

pub slice_bounds-follow-start : goal.slice_bounds-follow-start
slice_bounds-follow-start c = (ready c.args.dropped c.args.input.now (sym c.in-Ok.ensures)).within

pub follow-requires-clause-few : goal.follow-requires-clause-few
follow-requires-clause-few c = (ready c.args.dropped c.args.input.now (sym c.in-Ok.ensures)).few

pub follow-requires-clause-short : goal.follow-requires-clause-short
follow-requires-clause-short c =
    rw (lent_rest c.args.input.now c.in-Ok.start.script)
    (ready c.args.dropped c.args.input.now (sym c.in-Ok.ensures)).short

pub returns-in-Ok : goal.returns-in-Ok
returns-in-Ok c =
    rw (lent_rest c.args.input.now c.in-Ok.start.script) at c.follow.ensures
    ∙ (ready c.args.dropped c.args.input.now (sym c.in-Ok.ensures)).told
