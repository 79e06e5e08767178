-- `changes_ok` meets its contract: the loops' tests are those of the definitions. Assumes nothing.
use mathlib.Core.Path.{◌≡◌, refl, sym, ap, ◌∙◌}
use mathlib.Core.Bool.{true, false, and-false}
use mathlib.Core.List.{◌∷◌, [], ◌++◌}
use Prim.Native.Nat.{ℕ, ◌+◌, ◌≤◌}
use native.Mathlib.Omega.{arith}
use borrow.Author.Rules.{rules}
use borrow.Author.Tests.{tests, ltb-true, leb-true}
use lib.Dec.{ltb}
use lib.ListN.{take, get_or, length-take}
use lib.Seq.{take_all}
use Rattle.std.specs.List.{list_all}
use Rattle.std.proofs.lemmas.Iterator.{YieldsList-from_slice}
use Rattle.std.proofs.lemmas.Iterator.Search.{all_from_yields_List}
use Rattle.answer.specs.Limits.{switch_count}
use Rattle.answer.proofs.Bools.{by_bool, tf, and_join, and_parts}
use Rattle.lists.specs.Arrays.{every}
use Rattle.lists.proofs.Stores.{take_next}
use Rattle.lists.proofs.Tails.{every_at, every_snoc}
use Rattle.playbook.specs.Limits.{max_keys}
use Rattle.playbook.specs.Books.{empty_change, kinds_on}
use Rattle.playbook.specs.Storing.{change_ok, change_empty, few_keys_below}
use Rattle.playbook.specs.declared.Change.{Change}
use Rattle.playbook.proofs.Gathered.{Tally, tally_none, tally_room, tally_on, tally_few, few-next, few-fails}
use Rattle.playbook.proofs.Held.{list_all-every}
use Rattle.playbook.proofs.storing.changes_ok.Goals as goal
use Rattle.playbook.proofs.storing.changes_ok.Goals.{else-on-from-gt-KEYS-via-then-on-from-gt-KEYS+else-not-keys_fit, else-on-from-gt-KEYS-via-else-on-from-gt-KEYS}

pub loop-change-init : goal.loop-change-init
unfolding every
loop-change-init c = (refl, tally_none [] refl)

pub returns-then-not-is_ok : goal.returns-then-not-is_ok
returns-then-not-is_ok c =
    let cs = c.args.changes.now in
    let i = c.loop-change.change-index in
    let wrong : change_ok (get_or cs i empty_change) ≡ false = sym c.is_ok.ensures ∙ c.if-not-is_ok.true in
    let some : every change_ok cs ≡ false =
    by_bool (every change_ok cs) (λ e. tf (every_at change_ok cs i empty_change e c.loop-change-test.true) wrong)
    (λ e. e) in
    rw some

pub overflow_add-on : goal.overflow_add-on
overflow_add-on c =
    let cs = c.args.changes.now in
    let i = c.loop-change.change-index in
    let change : Change = get_or cs i empty_change in
    let right : change_ok change ≡ true = sym c.is_ok.ensures ∙ c.if-not-is_ok.false in
    let known = ltb-true change.switch switch_count (and_parts (ltb change.switch switch_count) _ right).0 in
    let few = tally_room c.loop-change.invariant.1 change.switch known in
    let own : get_or c.loop-change.on c.from.result 0 ≡ get_or c.loop-change.on change.switch 0 =
    ap (λ (j : ℕ). get_or c.loop-change.on j 0) c.from.ensures in
    let cut = length-take i cs in
    omega (arith, few, own, cut, c.requires)

pub loop-change-preserved : goal.loop-change-preserved
loop-change-preserved c =
    let cs = c.args.changes.now in
    let i = c.loop-change.change-index in
    let change : Change = get_or cs i empty_change in
    let right : change_ok change ≡ true = sym c.is_ok.ensures ∙ c.if-not-is_ok.false in
    let known = ltb-true change.switch switch_count (and_parts (ltb change.switch switch_count) _ right).0 in
    let next : take (i + 1) cs ≡ take i cs ++ change ∷ [] = take_next cs i empty_change c.loop-change-test.true in
    rw (next, c.from.ensures) (
      every_snoc change_ok (take i cs) change ∙ and_join _ _ c.loop-change.invariant.0 right,
      tally_on c.loop-change.invariant.1 change known refl,
    )

pub returns-then-not-all : goal.returns-then-not-all
returns-then-not-all c =
    let tested : c.all.result ≡ list_all change_empty c.args.unused.now =
    all_from_yields_List change_empty _ _ c.all.result c.all.ensures.ran (YieldsList-from_slice c.args.unused.now cc)
    (λ x b q k. search (rules, tests)) in
    let used = sym (tested ∙ list_all-every change_empty c.args.unused.now) ∙ c.if-not-all.true in
    rw (used, and-false)

pub loop-switch-init : goal.loop-switch-init
unfolding few_keys_below
loop-switch-init c = refl

pub returns-then-not-keys_fit : goal.returns-then-not-keys_fit
returns-then-not-keys_fit c =
    let cs = c.args.changes.now in
    let many = few-fails switch_count c.loop-switch.switch cs c.loop-switch-test.true
    (sym c.keys_fit.ensures ∙ c.if-not-keys_fit.true) in
    rw (many, and-false)

pub loop-switch-preserved : goal.loop-switch-preserved
loop-switch-preserved c =
    let cs = c.args.changes.now in
    let s = c.loop-switch.switch in
    let whole : take c.loop-change.change-index cs ≡ cs = take_all c.loop-change.change-index cs c.loop-change-test.false in
    elim c.else-on-from-gt-KEYS.branch [
      | else-on-from-gt-KEYS-via-then-on-from-gt-KEYS+else-not-keys_fit w ↦
          few-next s cs c.loop-switch.invariant
          (leb-true (kinds_on s cs) max_keys (sym w.keys_fit.ensures ∙ w.if-not-keys_fit.false))
      | else-on-from-gt-KEYS-via-else-on-from-gt-KEYS w ↦
          let tally : Tally c.loop-change.on cs = rw whole at c.loop-change.invariant.1 in
          let few : get_or c.loop-change.on s 0 ≤ max_keys = rw c.from-in-loop-switch.ensures at w.if-on-from-gt-KEYS.false in
          few-next s cs c.loop-switch.invariant (tally_few tally s c.loop-switch-test.true few)
    ]

pub returns : goal.returns
returns c =
    let cs = c.args.changes.now in
    let end : c.loop-switch.switch ≡ switch_count = omega arith in
    let whole : take c.loop-change.change-index cs ≡ cs = take_all c.loop-change.change-index cs c.loop-change-test.false in
    let right : every change_ok cs ≡ true = rw whole at c.loop-change.invariant.0 in
    let tested : c.all.result ≡ list_all change_empty c.args.unused.now =
    all_from_yields_List change_empty _ _ c.all.result c.all.ensures.ran (YieldsList-from_slice c.args.unused.now cc)
    (λ x b q k. search (rules, tests)) in
    let unused = sym (tested ∙ list_all-every change_empty c.args.unused.now) ∙ c.if-not-all.false in
    let few = ap (λ (s : ℕ). few_keys_below s cs) (sym end) ∙ c.loop-switch.invariant in
    rw (right, unused, few)
