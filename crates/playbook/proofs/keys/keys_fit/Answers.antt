-- `keys_fit` meets its contract. The loop's invariant: the keys gathered are the different ones of the changes from i on.
-- Assumes nothing.
use mathlib.Core.Path.{◌≡◌, sym, ◌∙◌}
use mathlib.Core.Bool.{false}
use mathlib.Core.List.{List, ◌∷◌}
use Prim.Native.Nat.{◌+◌, ◌-◌}
use native.Mathlib.Omega.{arith}
use lib.Dec.{leb}
use lib.ListN.{length, take, drop, get_or, drop_of_length-le}
use Rattle.lists.proofs.Stores.{rest}
use Rattle.flow.specs.Rules.{Key, rule_key}
use Rattle.playbook.specs.Limits.{max_keys}
use Rattle.playbook.specs.Books.{empty_change, keys_on}
use Rattle.playbook.specs.Gathering.{with_key}
use Rattle.playbook.specs.declared.Change.{Change}
use Rattle.playbook.proofs.Gathered.{gathered_none, own_before, other_before, gathered_fits, kinds-over}
use Rattle.playbook.proofs.keys.keys_fit.Goals as goal
use Rattle.playbook.proofs.keys.keys_fit.Goals.{else-change-switch-via-then-change-switch+else-not-insert, else-change-switch-via-else-change-switch}

pub loop-i-init : goal.loop-i-init
unfolding keys_on
loop-i-init c =
    let cs = c.args.changes.now in
    rw (c.new-keys.ensures, drop_of_length-le cs {i = length cs} (omega arith)) gathered_none

pub returns-then-not-insert : goal.returns-then-not-insert
returns-then-not-insert c =
    let s = c.args.switch in
    let cs = c.args.changes.now in
    let i = c.loop-i.i - 1 in
    let change : Change = get_or cs i empty_change in
    let ms : List Key = take c.loop-i.keys.count c.loop-i.keys.held in
    let turn : i + 1 ≡ c.loop-i.i = omega arith in
    let here : drop i cs ≡ change ∷ drop (i + 1) cs = rest cs i empty_change (omega arith) in
    let next : drop i cs ≡ change ∷ drop c.loop-i.i cs = rw turn at here in
    let more = own_before ms s (drop c.loop-i.i cs) change c.loop-i.invariant c.if-change-switch.true in
    let told : leb (length (with_key (rule_key change.rule) ms)) max_keys ≡ false =
    rw c.rule_key.ensures at (sym c.insert.ensures.told ∙ c.if-not-insert.true) in
    let over = sym (gathered_fits _ s (change ∷ drop c.loop-i.i cs) more) ∙ told in
    sym (kinds-over s cs i (rw next over))

pub loop-i-preserved : goal.loop-i-preserved
loop-i-preserved c =
    let s = c.args.switch in
    let cs = c.args.changes.now in
    let i = c.loop-i.i - 1 in
    let change : Change = get_or cs i empty_change in
    let ms : List Key = take c.loop-i.keys.count c.loop-i.keys.held in
    let turn : i + 1 ≡ c.loop-i.i = omega arith in
    let here : drop i cs ≡ change ∷ drop (i + 1) cs = rest cs i empty_change (omega arith) in
    let next : drop i cs ≡ change ∷ drop c.loop-i.i cs = rw turn at here in
    elim c.else-change-switch.branch [
      | else-change-switch-via-then-change-switch+else-not-insert w ↦
          rw (w.keys-is, w.insert.ensures.added, w.if-not-insert.false, w.rule_key.ensures, next)
          (own_before ms s (drop c.loop-i.i cs) change c.loop-i.invariant w.if-change-switch.true)
      | else-change-switch-via-else-change-switch w ↦
          rw (w.keys-is, next)
          (other_before ms s (drop c.loop-i.i cs) change c.loop-i.invariant w.if-change-switch.false)
    ]
