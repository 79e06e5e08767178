-- `slots_ok` meets its contract: each chain tests every slot of its part. Assumes nothing.
use Rattle.std.proofs.Common.{rules, tests, ◌≡◌, ◌∙◌, sym, take, drop}
use Rattle.std.proofs.lemmas.Iterator.{YieldsList-from_slice}
use Rattle.std.proofs.lemmas.Iterator.Search.{all_from_yields_List}
use Rattle.lists.specs.Arrays.{every}
use Rattle.switch.specs.Slots.{slot_empty, slot_ok}
use Rattle.switch.proofs.Chains.{list_all-every}
use Rattle.switch.proofs.slots.slots_ok.Goals as goal

pub returns-then-all : goal.returns-then-all
returns-then-all c =
    let a = c.args in
    let held : c.all.result ≡ every (slot_ok a.last) (take a.n a.slots.now) =
    all_from_yields_List (slot_ok a.last) _ _ _ c.all.ensures.ran (YieldsList-from_slice (take a.n a.slots.now) cc)
    (λ x b q k. search (rules, tests))
    ∙ list_all-every (slot_ok a.last) (take a.n a.slots.now) in
    let unused : c.all-then-all.result ≡ every slot_empty (drop a.n a.slots.now) =
    all_from_yields_List slot_empty _ _ _ c.all-then-all.ensures.ran (YieldsList-from_slice (drop a.n a.slots.now) cc)
    (λ x b q k. search (rules, tests))
    ∙ list_all-every slot_empty (drop a.n a.slots.now) in
    unused ∙ rw (sym held ∙ c.if-all.true)

pub returns-else-all : goal.returns-else-all
returns-else-all c =
    let a = c.args in
    let held : c.all.result ≡ every (slot_ok a.last) (take a.n a.slots.now) =
    all_from_yields_List (slot_ok a.last) _ _ _ c.all.ensures.ran (YieldsList-from_slice (take a.n a.slots.now) cc)
    (λ x b q k. search (rules, tests))
    ∙ list_all-every (slot_ok a.last) (take a.n a.slots.now) in
    c.if-all.false ∙ rw (sym held ∙ c.if-all.false)
