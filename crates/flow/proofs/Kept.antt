-- Applying a rule keeps a table within its limits: the entries stay in order, and are at most 64 exactly if the rule
-- has room. Assumes nothing.
use mathlib.Core.Path.{◌≡◌, refl, ap, subst, ◌∙◌}
use mathlib.Core.List.{List, [], ◌∷◌, ◌++◌}
use mathlib.Core.Bool.{Bool, true, false, ◌&&◌, ◌||◌}
use Prim.Native.Nat.{ℕ, suc, ◌+◌, ◌-◌, ◌≤◌}
use native.Mathlib.Omega.{arith}
use lib.Dec.{ltb, leb}
use borrow.Author.Tests.{le-leb, lt-ltb, ltb-true}
use lib.ListN.{length, drop, length-take, length-append}
use lib.Seq.{drop-append_seam}
use Rattle.answer.specs.Ask.{pick, reply}
use Rattle.answer.proofs.Asked.{answered, reply-keeps}
use Rattle.answer.proofs.Bools.{and_join, and_parts, or_join, or_right}
use Rattle.lists.specs.Arrays.{pad, every_tail, every}
use Rattle.lists.specs.Kinds.{among}
use Rattle.lists.proofs.Padding.{pad-take, pad_split}
use Rattle.lists.proofs.Tails.{replicate-every}
use Rattle.flow.specs.Rules.{Key, entry_key, rule_key, before, same_key, prefix_ok, port_ok, well_formed}
use Rattle.flow.specs.Tables.{head_ok, entry_ok, is_empty, empty_entry, table_ok, table_of, entries_of}
use Rattle.flow.specs.Changes.{set_entry, drop_entry, apply_rule, changed, removes, has_entry, room_for, apply_to}
use Rattle.flow.specs.declared.Action.{Action}
use Rattle.flow.specs.declared.Action.TheVariants.{Remove, Set}
use Rattle.flow.specs.declared.Entry.{Entry}
use Rattle.flow.specs.declared.Rule.{Rule}
use Rattle.flow.specs.declared.Table.{Table}
use Rattle.flow.specs.declared.Applied.{Applied}
use Rattle.flow.proofs.Order.{before_trans, before_apart, after_apart, key_sound}
use Rattle.flow.proofs.Padded.{ok_parts}
use Rattle.flow.proofs.Acts.{first, fresh, Acts, past, over, own, acts}

-- the entries may stand in a table, each before the next
abbrev pub Ordered : List Entry → Type 0
Ordered es = every_tail head_ok es ≡ true

-- the parts of an ordered list
pub record Parts (e : Entry) (es : List Entry) : Type 0 where
  pub fit : entry_ok e ≡ true
  pub next : first (entry_key e) es ≡ true
  pub rest : Ordered es

pub parts : (e : Entry) (es : List Entry) → Ordered (e ∷ es) → Parts e es
unfolding every_tail
parts e es h =
    let t = and_parts (head_ok (e ∷ es)) (every_tail head_ok es) h in
    let u = and_parts (entry_ok e) (first (entry_key e) es) t.0 in
    record { fit = u.0; next = u.1; rest = t.1 }

pub whole : (e : Entry) (es : List Entry) → Parts e es → Ordered (e ∷ es)
unfolding every_tail
whole e es p = and_join (head_ok (e ∷ es)) _ (and_join (entry_ok e) _ p.fit p.next) p.rest

first_trans : (j k : Key) (es : List Entry) → before j k ≡ true → first k es ≡ true → first j es ≡ true
first_trans j k [] b h = refl
first_trans j k (e ∷ es) b h = before_trans j k (entry_key e) b h

-- a key before the first entry is no entry's
pub none_first : (k : Key) (es : List Entry) → Ordered es → first k es ≡ true → has_entry k es ≡ false
unfolding among
none_first k [] h b = refl
none_first k (e ∷ es) h b =
    let t = parts e es h in
    or_join (same_key (entry_key e) k) _ (after_apart k (entry_key e) b)
    (none_first k es t.rest (first_trans k (entry_key e) es b t.next))

-- the entries after the first come after its key
pub first-after : (k : Key) (e : Entry) (es : List Entry) → same_key (entry_key e) k ≡ true → Ordered (e ∷ es)
    → first k es ≡ true
first-after k e es s h = subst (λ (j : Key). first j es ≡ true) (key_sound (entry_key e) k s) (parts e es h).next

-- whether what an action puts in may stand in a table
abbrev fits : Action → Key → Bool
fits a k = removes a || prefix_ok k && port_ok a

fresh-first : (a : Action) (j k : Key) (es : List Entry) → before j k ≡ true → first j es ≡ true
    → first j (fresh a k ++ es) ≡ true
fresh-first Remove j k es b h = h
fresh-first (Set port) j k es b h = b

fresh_ordered : (a : Action) (k : Key) (es : List Entry) → fits a k ≡ true → first k es ≡ true → Ordered es
    → Ordered (fresh a k ++ es)
fresh_ordered Remove k es w b h = h
fresh_ordered (Set port) k es w b h = whole _ es (record { fit = w; next = b; rest = h })

module _ (a : Action) (k : Key) where
  acts_first : (j : Key) {es fs : List Entry} → Acts a k es fs → Ordered es → before j k ≡ true → first j es ≡ true
      → first j fs ≡ true
  acts_first j (past b s) h c d = d
  acts_first j (over {e} {es} s) h c d = fresh-first a j k es c (first_trans j (entry_key e) es d (parts e es h).next)
  acts_first j (own {es} b) h c d = fresh-first a j k es c d

  acts_ordered : {es fs : List Entry} → Acts a k es fs → fits a k ≡ true → Ordered es → Ordered fs
  acts_ordered (past {e} {es} {fs} b s) w h =
      let t = parts e es h in
      let next = acts_first (entry_key e) s t.rest b t.next in
      whole e fs (record { fit = t.fit; next = next; rest = acts_ordered s w t.rest })
  acts_ordered (over {e} {es} s) w h = fresh_ordered a k es w (first-after k e es s h) (parts e es h).rest
  acts_ordered (own {es} b) w h = fresh_ordered a k es w b h

  -- as many entries as before and put in, less one where the key had its entry
  acts_count : {es fs : List Entry} → Acts a k es fs → Ordered es
      → length fs + pick (has_entry k es) 1 0 ≡ length es + length (fresh a k)
  unfolding among
  acts_count (past {e} {es} b s) h =
      rw (before_apart (entry_key e) k b) (omega (arith, acts_count s (parts e es h).rest))
  acts_count (over {e} {es} s) h = rw (s, length-append) (omega arith)
  acts_count (own {es} b) h = rw (none_first k es h b, length-append) (omega arith)

-- the entry set: one more, or as many where its key was there
pub set-count : (e : Entry) (es : List Entry) → Ordered es
    → length (set_entry e es) ≡ pick (has_entry (entry_key e) es) (length es) (suc (length es))
set-count e es h = go (has_entry (entry_key e) es) (acts_count (Set e.port) (entry_key e) (acts _ _ es) h)
  where
    go : (b : Bool) → length (set_entry e es) + pick b 1 0 ≡ length es + 1
        → length (set_entry e es) ≡ pick b (length es) (suc (length es))
    go true c = omega arith
    go false c = omega arith

-- a rule that has room keeps the entries to 64, and a rule that keeps them to 64 has room
pub room_law : (r : Rule) (es : List Entry) → Ordered es → length es ≤ 64 → room_for r es ≡ true
    → length (apply_rule r es) ≤ 64
room_law r es h n m = go r.action (has_entry (rule_key r) es) _ m (acts_count _ _ (acts r.action (rule_key r) es) h)
  where
    go : (a : Action) (b : Bool) (after : ℕ) → (removes a || b || ltb (length es) 64) ≡ true
        → after + pick b 1 0 ≡ length es + length (fresh a (rule_key r)) → after ≤ 64
    go Remove b after m c = omega arith
    go (Set port) true after m c = omega arith
    go (Set port) false after m c = omega (arith, ltb-true (length es) 64 m)

pub room_back : (r : Rule) (es : List Entry) → Ordered es → length (apply_rule r es) ≤ 64 → room_for r es ≡ true
room_back r es h n = go r.action (has_entry (rule_key r) es) _ n (acts_count _ _ (acts r.action (rule_key r) es) h)
  where
    go : (a : Action) (b : Bool) (after : ℕ) → after ≤ 64
        → after + pick b 1 0 ≡ length es + length (fresh a (rule_key r)) → (removes a || b || ltb (length es) 64) ≡ true
    go Remove b after n c = refl
    go (Set port) true after n c = refl
    go (Set port) false after n c = lt-ltb (length es) 64 (omega arith)

-- an entry set, an entry removed, and so a rule applied keep the order
pub set_ordered : (e : Entry) (es : List Entry) → entry_ok e ≡ true → Ordered es → Ordered (set_entry e es)
set_ordered e es w h = acts_ordered (Set e.port) (entry_key e) (acts _ _ es) w h

pub drop_ordered : (k : Key) (es : List Entry) → Ordered es → Ordered (drop_entry k es)
drop_ordered k es h = acts_ordered Remove k (acts _ _ es) refl h

pub apply_ordered : (r : Rule) (es : List Entry) → well_formed r ≡ true → Ordered es → Ordered (apply_rule r es)
apply_ordered r es w h =
    acts_ordered r.action (rule_key r) (acts _ _ es) (or_right (removes r.action) (well_formed r) w) h

-- the table made of a list has its entries, and is a good table if they are ordered
pub table_meaning : (es : List Entry) → length es ≤ 64 → entries_of (table_of es) ≡ es
table_meaning es n = pad-take 64 empty_entry es n

pub table_ok_lem : (es : List Entry) → length es ≤ 64 → Ordered es → table_ok (table_of es) ≡ true
unfolding table_ok
table_ok_lem es n h =
    let few = leb (length es) 64 in
    let ordered = ap (every_tail head_ok) (table_meaning es n) ∙ h in
    let unused : every is_empty (drop (length es) (pad 64 empty_entry es)) ≡ true =
    rw (pad_split 64 empty_entry es n, drop-append_seam) (replicate-every is_empty empty_entry (64 - length es) refl) in
    and_join (few && every_tail head_ok (entries_of (table_of es))) _ (and_join few _ (le-leb _ _ n) ordered) unused

-- the entries of a good table are ordered, and at most 64
pub ok_ordered : (t : Table) → table_ok t ≡ true → Ordered (entries_of t)
ok_ordered t h = (ok_parts t h).1

pub ok_few : (t : Table) → table_ok t ≡ true → length (entries_of t) ≤ 64
ok_few t h = simp length-take (omega (arith, (ok_parts t h).0))

-- a rule that has room makes a good table of a good table
pub apply_table : (r : Rule) (t : Table) → well_formed r ≡ true → table_ok t ≡ true → room_for r (entries_of t) ≡ true
    → table_ok (changed r t) ≡ true
apply_table r t w h m =
    let o = ok_ordered t h in
    table_ok_lem (apply_rule r (entries_of t)) (room_law r (entries_of t) o (ok_few t h) m) (apply_ordered r (entries_of t) w o)

-- such a rule is applied, and so every call of apply keeps a good table: a refused one leaves it
pub apply_done : (t : Table) (r : Rule) → table_ok t ≡ true → well_formed r ≡ true → room_for r (entries_of t) ≡ true
    → apply_to t r ≡ record { answer = 1; table = changed r t }
unfolding reply
apply_done t r h w m = rw (h, w, m)

pub apply_keeps : (t : Table) (r : Rule) → table_ok t ≡ true → table_ok (apply_to t r).table ≡ true
apply_keeps t r h =
    reply-keeps (λ (x : Applied). table_ok x.table ≡ true) _ _ _ (λ k. h)
    (λ pass. let yes = answered _ refl pass in apply_table r t (yes 15) h (yes 19))
