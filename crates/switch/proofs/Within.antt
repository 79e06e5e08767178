-- A switch within its limits: the parts of question 20, and the whole from its parts. Assumes nothing.
use mathlib.Core.Path.{◌≡◌}
use mathlib.Core.Bool.{true, ◌&&◌}
use Prim.Native.Nat.{◌≤◌, ◌<◌}
use lib.Dec.{ltb, leb}
use lib.ListN.{take, drop}
use borrow.Author.Tests.{ltb-true, leb-true, lt-ltb, le-leb}
use Rattle.answer.proofs.Bools.{and_parts}
use Rattle.lists.specs.Arrays.{every}
use Rattle.flow.specs.Tables.{table_ok}
use Rattle.switch.specs.Slots.{slot_empty, slot_ok}
use Rattle.switch.specs.States.{in_range, switch_ok}
use Rattle.switch.specs.declared.Switch.{Switch}

pub record Within (s : Switch) : Type 0 where
  pub known : s.id < 16
  pub some : 1 ≤ s.n
  pub few : s.n ≤ 16
  pub table : table_ok s.table ≡ true
  pub held : every (slot_ok s.last) (take s.n s.slots) ≡ true
  pub unused : every slot_empty (drop s.n s.slots) ≡ true

pub within : (s : Switch) → switch_ok s ≡ true → Within s
unfolding switch_ok
within s h =
    let a = and_parts _ (every slot_empty (drop s.n s.slots)) h in
    let b = and_parts _ (every (slot_ok s.last) (take s.n s.slots)) a.0 in
    let c = and_parts (in_range s.id s.n) (table_ok s.table) b.0 in
    let d = and_parts (ltb s.id 16 && leb 1 s.n) (leb s.n 16) c.0 in
    let e = and_parts (ltb s.id 16) (leb 1 s.n) d.0 in
    record {
      known = ltb-true _ _ e.0;
      some = leb-true _ _ e.1;
      few = leb-true _ _ d.1;
      table = c.1;
      held = b.1;
      unused = a.1;
    }

pub obeys : (s : Switch) → Within s → switch_ok s ≡ true
unfolding switch_ok
obeys s w =
    rw (lt-ltb _ _ w.known, le-leb _ _ w.some, le-leb _ _ w.few, w.table, w.held, w.unused)
