-- The keys of a table's entries: they are different, an entry is found by its key exactly if it is there, and a rule
-- brings no key but its own, so that the pigeonhole bounds a table by the keys of its rules. Assumes nothing.
use mathlib.Core.Path.{◌≡◌, refl, sym, ap, ◌∙◌}
use mathlib.Core.List.{List, [], ◌∷◌, ◌++◌, map}
use mathlib.Core.Bool.{Bool, true, false, not, ◌||◌}
use Prim.Native.Nat.{ℕ, zero, suc, ◌≤◌, ◌<◌}
use native.Mathlib.Omega.{arith}
use lib.ListN.{length, get_or, length-map}
use Rattle.answer.proofs.Bools.{by_bool, by_or, tf, and_join, or_left, or_right}
use Rattle.lists.specs.Kinds.{among, different, kinds}
use Rattle.lists.proofs.Pigeonhole.{pigeonhole}
use Rattle.flow.specs.Rules.{Key, entry_key, rule_key, before, same_key, well_formed}
use Rattle.flow.specs.Tables.{empty_entry, table_ok, table_of}
use Rattle.flow.specs.Changes.{apply_rule, has_entry, room_for}
use Rattle.flow.specs.Places.{place_of, present_at}
use Rattle.flow.specs.declared.Action.{Action}
use Rattle.flow.specs.declared.Action.TheVariants.{Remove, Set}
use Rattle.flow.specs.declared.Entry.{Entry}
use Rattle.flow.specs.declared.Rule.{Rule}
use Rattle.flow.proofs.Order.{key_sound, key_mine, before_apart, before_other}
use Rattle.flow.proofs.Kept.{Ordered, parts, none_first, apply_ordered, table_ok_lem, room_back}
use Rattle.flow.proofs.Acts.{fresh, Acts, past, over, own, acts}

-- the entry at a place
abbrev pub entry_at : List Entry → ℕ → Entry
entry_at es i = get_or es i empty_entry

-- no two entries have one key
pub keys-different : (es : List Entry) → Ordered es → different same_key (map entry_key es) ≡ true
unfolding different
keys-different [] h = refl
keys-different (e ∷ es) h =
    let t = parts e es h in
    and_join (not (has_entry (entry_key e) es)) _ (ap not (none_first (entry_key e) es t.rest t.next))
    (keys-different es t.rest)

-- some entry has this key
pub record Placed (k : Key) (es : List Entry) : Type 0 where
  pub place : ℕ
  pub inside : place < length es
  pub key : entry_key (entry_at es place) ≡ k

-- an entry is found exactly if some entry has this prefix and length
pub has-entry : (k : Key) (es : List Entry) → has_entry k es ≡ true → Placed k es
unfolding among
has-entry k [] h = tf h refl
has-entry k (e ∷ es) h =
    by_or (same_key (entry_key e) k) _ h
    (λ s. record { place = 0; inside = omega arith; key = key_sound (entry_key e) k s })
    (λ m. let p = has-entry k es m in
    record { place = suc p.place; inside = omega (arith, p.inside); key = p.key })

entry_at_lem : (es : List Entry) (i : ℕ) → i < length es → has_entry (entry_key (entry_at es i)) es ≡ true
unfolding among
entry_at_lem [] i h = absurd (omega arith)
entry_at_lem (e ∷ es) zero h = or_left _ _ (key_mine (entry_key e))
entry_at_lem (e ∷ es) (suc i) h = or_right (same_key (entry_key e) _) _ (entry_at_lem es i (omega arith))

pub entry_has : (k : Key) (es : List Entry) → Placed k es → has_entry k es ≡ true
entry_has k es p = ap (λ (j : Key). has_entry j es) (sym p.key) ∙ entry_at_lem es p.place p.inside

-- in an ordered list the search for the key's place finds its entry exactly if it is there
pub has_place : (k : Key) (es : List Entry) → Ordered es → has_entry k es ≡ present_at (place_of k es) k es
unfolding among place_of
has_place k [] h = refl
has_place k (e ∷ es) h =
    let t = parts e es h in
    by_bool (before (entry_key e) k) (λ b. rw (b, before_apart (entry_key e) k b) (has_place k es t.rest))
    (λ b. by_bool (same_key (entry_key e) k) (λ s. rw (b, s))
    (λ s. rw b (none_first k (e ∷ es) h (before_other (entry_key e) k b s) ∙ sym s)))

or_more : (a b c : Bool) → (a || c) ≡ true → (a || (b || c)) ≡ true
or_more true b c h = refl
or_more false b c h = or_right b c h

fresh-keys : (a : Action) (j k : Key) (es : List Entry) → has_entry j (fresh a k ++ es) ≡ true
    → (same_key k j || has_entry j es) ≡ true
unfolding among
fresh-keys Remove j k es h = or_right (same_key k j) _ h
fresh-keys (Set port) j k es h = h

acts_keys : (a : Action) (j k : Key) {es fs : List Entry} → Acts a k es fs → has_entry j fs ≡ true
    → (same_key k j || has_entry j es) ≡ true
unfolding among
acts_keys a j k (past {e} b s) h =
    by_or (same_key (entry_key e) j) _ h (λ q. or_right (same_key k j) _ (or_left _ _ q))
    (λ q. or_more (same_key k j) (same_key (entry_key e) j) _ (acts_keys a j k s q))
acts_keys a j k (over {e} {es} s) h = or_more (same_key k j) (same_key (entry_key e) j) _ (fresh-keys a j k es h)
acts_keys a j k (own {es} b) h = fresh-keys a j k es h

-- a rule brings no key but its own
pub apply_keys : (k : Key) (r : Rule) (es : List Entry) → has_entry k (apply_rule r es) ≡ true
    → (same_key (rule_key r) k || has_entry k es) ≡ true
apply_keys k r es h = acts_keys r.action k (rule_key r) (acts _ _ es) h

-- the entries' keys are all in a list
abbrev pub Within : List Key → List Entry → Type 0
Within ks es = (k : Key) → has_entry k es ≡ true → among same_key k ks ≡ true

pub apply_within : (ks : List Key) (r : Rule) (es : List Entry) → among same_key (rule_key r) ks ≡ true → Within ks es
    → Within ks (apply_rule r es)
apply_within ks r es m w k h =
    by_or (same_key (rule_key r) k) _ (apply_keys k r es h)
    (λ s. ap (λ (j : Key). among same_key j ks) (sym (key_sound (rule_key r) k s)) ∙ m) (w k)

-- a table whose keys are in a list has at most as many entries as the list has different keys
pub table-few : (ks : List Key) (es : List Entry) → Ordered es → Within ks es → length es ≤ kinds same_key ks
table-few ks es h w =
    let n = pigeonhole same_key key_sound key_mine (map entry_key es) ks (keys-different es h) w in
    omega (arith, length-map es entry_key)

-- a table whose keys are in a list of at most 64 different keys has room for each rule whose key is, and stays so
pub record Takes (ks : List Key) (r : Rule) (es : List Entry) : Type 0 where
  pub room : room_for r es ≡ true
  pub ordered : Ordered (apply_rule r es)
  pub ok : table_ok (table_of (apply_rule r es)) ≡ true
  pub within : Within ks (apply_rule r es)

pub takes : (ks : List Key) (r : Rule) (es : List Entry) → kinds same_key ks ≤ 64 → well_formed r ≡ true
    → among same_key (rule_key r) ks ≡ true → Ordered es → Within ks es → Takes ks r es
takes ks r es n f m h w =
    let o = apply_ordered r es f h in
    let v = apply_within ks r es m w in
    let few : length (apply_rule r es) ≤ 64 = omega (arith, table-few ks (apply_rule r es) o v) in
    record { room = room_back r es h few; ordered = o; ok = table_ok_lem (apply_rule r es) few o; within = v }
