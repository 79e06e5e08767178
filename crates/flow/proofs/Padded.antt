-- Tables that are zero past their entries: what the code makes of one is such a table again, and a table that obeys its
-- limits is one. Assumes nothing.
use mathlib.Core.Path.{◌≡◌, sym, ap, ◌∙◌}
use mathlib.Core.List.{List, ◌∷◌, ◌++◌}
use mathlib.Core.Bool.{true, false, ◌&&◌}
use Prim.Native.Nat.{ℕ, suc, ◌+◌, ◌-◌, ◌≤◌, ◌<◌}
use native.Mathlib.Omega.{arith}
use borrow.Author.Tests.{leb-true, eqb-true}
use lib.Dec.{eqb, leb}
use lib.ListN.{length, drop, set, replicate, length-take, length-drop, length-set, take-append-drop}
use lib.Seq.{drop_at, drop-drop, set-append_left}
use Rattle.answer.proofs.Bools.{and_parts}
use Rattle.lists.specs.Arrays.{every_tail, every}
use Rattle.lists.proofs.Stores.{put-length, del-length}
use Rattle.lists.proofs.Padding.{pad_split}
use Rattle.lists.proofs.Tails.{every-replicate}
use Rattle.flow.specs.Rules.{Key, entry_key}
use Rattle.flow.specs.Tables.{empty_entry, is_empty, entries_of, table_of, head_ok, table_ok}
use Rattle.flow.specs.Changes.{set_entry, drop_entry}
use Rattle.flow.specs.Places.{place_of, present_at}
use Rattle.lists.specs.Places.{put, del}
use Rattle.flow.specs.declared.Entry.{Entry}
use Rattle.flow.specs.declared.Table.{Table}
use Rattle.flow.proofs.Places.{present_lt, set_law, drop_law}

-- a table is given by its entries
table_is : (array es : List Entry) (count : ℕ) → count ≡ length es → length es ≤ 64
    → array ≡ es ++ replicate (64 - length es) empty_entry
    → ◌≡◌ {A = Table} (record { entries = array; count = count }) (table_of es)
table_is array es count c few a = rw (c, a, pad_split 64 empty_entry es few)

module _ (t : Table) (long : length t.entries ≡ 64) (padded : t ≡ table_of (entries_of t)) where
  pub count_is : length (entries_of t) ≡ t.count
  count_is = sym (ap (λ (x : Table). x.count) padded)

  pub count-le : t.count ≤ 64
  count-le = omega (arith, simp length-take at count_is)

  array_is : t.entries ≡ entries_of t ++ replicate (64 - t.count) empty_entry
  array_is =
      ap (λ (x : Table). x.entries) padded
      ∙ pad_split 64 empty_entry (entries_of t) (omega (arith, count_is, count-le))
      ∙ rw count_is

  unused : drop t.count t.entries ≡ replicate (64 - t.count) empty_entry
  unused = ap (drop t.count) array_is ∙ drop_at (entries_of t) _ t.count count_is

  -- the entry at the place of its key taken out
  pub removed_table : (k : Key) (at : ℕ) (out : List Entry) → at ≡ place_of k (entries_of t)
      → present_at at k (entries_of t) ≡ true
      → out ≡ del at (entries_of t) ++ empty_entry ∷ drop t.count t.entries
      → ◌≡◌ {A = Table} (record { entries = out; count = t.count - 1 }) (table_of (drop_entry k (entries_of t)))
  removed_table k at out place here o =
      let es = del at (entries_of t) in
      let dropped : drop_entry k (entries_of t) ≡ es = rw (drop_law k (entries_of t), ← place, here) in
      let less : suc (length es) ≡ t.count =
      del-length (entries_of t) at (present_lt k at (entries_of t) here) ∙ count_is in
      let free : 64 - length es ≡ suc (64 - t.count) = omega (arith, count-le) in
      rw dropped (table_is out es (t.count - 1) (omega arith) (omega (arith, count-le)) (rw (o, unused, free)))

  -- no entry to take out
  pub kept_table : (k : Key) (at : ℕ) → at ≡ place_of k (entries_of t) → present_at at k (entries_of t) ≡ false
      → t ≡ table_of (drop_entry k (entries_of t))
  kept_table k at place absent =
      let kept : drop_entry k (entries_of t) ≡ entries_of t = rw (drop_law k (entries_of t), ← place, absent) in
      rw kept padded

  -- an entry set over the one with its key
  pub set-table : (e : Entry) (at : ℕ) → at ≡ place_of (entry_key e) (entries_of t)
      → present_at at (entry_key e) (entries_of t) ≡ true
      → ◌≡◌ {A = Table} (record { entries = set t.entries at e; count = t.count })
      (table_of (set_entry e (entries_of t)))
  set-table e at place here =
      let es = set (entries_of t) at e in
      let over : set_entry e (entries_of t) ≡ es = rw (set_law e (entries_of t), ← place, here) in
      let equal : length es ≡ t.count = length-set (entries_of t) at e ∙ count_is in
      let stored = set-append_left (entries_of t) (replicate (64 - t.count) empty_entry) at e
      (present_lt (entry_key e) at (entries_of t) here) in
      rw over (table_is (set t.entries at e) es t.count (sym equal) (omega (arith, count-le))
      (rw equal (ap (λ (l : List Entry). set l at e) array_is ∙ stored)))

  -- an entry put in
  pub set-length : (e : Entry) (at : ℕ) → at ≡ place_of (entry_key e) (entries_of t)
      → present_at at (entry_key e) (entries_of t) ≡ false → length (set_entry e (entries_of t)) ≡ suc t.count
  set-length e at place absent =
      rw (set_law e (entries_of t), ← place, absent) (put-length (entries_of t) at e ∙ ap suc count_is)

  pub inserted_table : (e : Entry) (at : ℕ) (out : List Entry) → at ≡ place_of (entry_key e) (entries_of t)
      → present_at at (entry_key e) (entries_of t) ≡ false → t.count < 64
      → out ≡ put at e (entries_of t) ++ drop (t.count + 1) t.entries
      → ◌≡◌ {A = Table} (record { entries = out; count = t.count + 1 }) (table_of (set_entry e (entries_of t)))
  inserted_table e at out place absent room o =
      let es = put at e (entries_of t) in
      let new : set_entry e (entries_of t) ≡ es = rw (set_law e (entries_of t), ← place, absent) in
      let more : length es ≡ t.count + 1 = put-length (entries_of t) at e ∙ omega (arith, count_is) in
      let free : 64 - t.count ≡ suc (64 - (t.count + 1)) = omega arith in
      rw new (table_is out es (t.count + 1) (sym more) (omega arith)
      (rw (o, more, ← drop-drop 1 t.count t.entries, unused, free)))

-- the three limits of a table
pub ok_parts : (t : Table) → table_ok t ≡ true
    → (t.count ≤ 64) × (every_tail head_ok (entries_of t) ≡ true)
    × (every is_empty (drop t.count t.entries) ≡ true)
unfolding table_ok
ok_parts t ok =
    let both = and_parts (leb t.count 64 && every_tail head_ok (entries_of t)) _ ok in
    let inner = and_parts (leb t.count 64) _ both.0 in
    (leb-true _ _ inner.0, inner.1, both.1)

only_empty : (e : Entry) → is_empty e ≡ true → e ≡ empty_entry
only_empty e empty =
    let both = and_parts (eqb e.prefix 0 && eqb e.length 0) _ empty in
    let inner = and_parts (eqb e.prefix 0) _ both.0 in
    let prefix = eqb-true _ _ inner.0 in
    let len = eqb-true _ _ inner.1 in
    let port = eqb-true _ _ both.1 in
    λ i. record { prefix = prefix i; length = len i; port = port i }

-- a table that obeys its limits is zero past its entries
pub ok_padded : (t : Table) → length t.entries ≡ 64 → table_ok t ≡ true → t ≡ table_of (entries_of t)
ok_padded t long ok =
    let limits = ok_parts t ok in
    let few = limits.0 in
    let rest = drop t.count t.entries in
    let count : length (entries_of t) ≡ t.count = simp length-take (omega arith) in
    let free : length rest ≡ 64 - length (entries_of t) = simp length-drop (omega arith) in
    let zeros = every-replicate is_empty empty_entry only_empty rest limits.2
    ∙ ap (λ (n : ℕ). replicate n empty_entry) free in
    table_is t.entries (entries_of t) t.count (sym count) (omega arith)
    (sym (take-append-drop t.count t.entries) ∙ ap (λ (l : List Entry). entries_of t ++ l) zeros)
