-- `flow_mods` meets its contract: each question has its own answer.
use mathlib.Core.Path.{sym, ap, ◌∙◌}
use mathlib.Core.List.{List}
use native.Mathlib.Omega.{arith}
use Rattle.switch.specs.declared.Slot.{Slot}
use Rattle.feed.specs.Mods.{mods_written}
use Rattle.feed.proofs.Putting.{mods_malformed, mods_long, mods_done}
use Rattle.feed.proofs.mods.flow_mods.Goals as goal

pub returns-then-not-all_formed : goal.returns-then-not-all_formed
returns-then-not-all_formed c = let out = c.args.out.now in
    sym (mods_malformed _ out (sym c.all_formed.ensures ∙ c.if-not-all_formed.true))
    ∙ ap (λ (xs : List Slot). mods_written xs out) c.in_use-rules.ensures

pub returns-then-out-size : goal.returns-then-out-size
returns-then-out-size c = let out = c.args.out.now in
    sym (mods_long _ out (sym c.all_formed.ensures ∙ c.if-not-all_formed.false)
    (omega (arith, c.measure-size.ensures)))
    ∙ ap (λ (xs : List Slot). mods_written xs out) c.in_use-rules.ensures

pub returns : goal.returns
returns c = let out = c.args.out.now in
    mods_done _ out (sym c.all_formed.ensures ∙ c.if-not-all_formed.false)
    (omega (arith, c.measure-size.ensures)) c.measure-size.ensures c.put_all.ensures
    ∙ ap (λ (xs : List Slot). mods_written xs out) c.in_use-rules.ensures
