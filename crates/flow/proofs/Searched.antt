-- What a search among ordered entries finds: the place of a key, and whether its entry stands there. Assumes nothing.
use mathlib.Core.Path.{◌≡◌, refl, sym, ap, ◌∙◌}
use mathlib.Core.List.{List, [], ◌∷◌}
use mathlib.Core.Bool.{true, false}
use Prim.Native.Nat.{ℕ, zero, suc, ◌≤◌, ◌<◌, zero-le}
use native.Mathlib.Omega.{arith}
use borrow.Author.Tests.{lt-ltb, le-ltb, eq-eqb, ne_eqb}
use lib.ListN.{length, get_or}
use Rattle.std.specs.Prelude.{Result, Ok, Err}
use Rattle.std.specs.declared.cmp.Ordering.{Ordering}
use Rattle.std.specs.declared.cmp.Ordering.TheVariants.{Less, Equal, Greater}
use Rattle.std.specs.Ordering.{nat_cmp, ordering_then, ordering_index}
use Rattle.std.specs.List.Sorted.{IsBinarySearchResult, IsSearchInRange, IsNonDecreasingBy}
use Rattle.std.proofs.lemmas.List.Sorted.{IsNonDecreasingBy-from_default}
use native.Mathlib.Nat.{le_refl}
use Rattle.answer.proofs.Bools.{by_bool, by_eq, by_le, is_false}
use Rattle.flow.specs.Rules.{Key, entry_key, before, same_key}
use Rattle.flow.specs.Tables.{empty_entry}
use Rattle.flow.specs.Places.{place_of, present_at, searched}
use Rattle.flow.specs.declared.Entry.{Entry}
use Rattle.flow.proofs.Order.{key_sound, key_is, apart, before_trans, after_apart, before_other, by_before}
use Rattle.flow.proofs.Kept.{Ordered, parts}
use Rattle.flow.proofs.Acts.{first}

-- what the search knows of a place
abbrev pub order : Key → Key → Ordering
order j k = ordering_then (nat_cmp j.0 k.0) (nat_cmp j.1 k.1)

order_less : (j k : Key) → before j k ≡ true → order j k ≡ Less
order_less j k h =
    by_before j k h (λ l. rw (lt-ltb j.0 k.0 l))
    (λ e l. rw (e, le-ltb k.0 k.0 (omega arith), eq-eqb k.0 k.0 refl, lt-ltb j.1 k.1 l))

order_greater : (j k : Key) → before k j ≡ true → order j k ≡ Greater
order_greater j k h =
    by_before k j h (λ l. rw (le-ltb j.0 k.0 (omega arith), ne_eqb j.0 k.0 (λ e. omega arith)))
    (λ e l. rw (sym e, le-ltb k.0 k.0 (omega arith), eq-eqb k.0 k.0 refl, le-ltb j.1 k.1 (omega arith), ne_eqb j.1 k.1 (λ e. omega arith)))

order_equal : (k : Key) → order k k ≡ Equal
order_equal k = rw (le-ltb k.0 k.0 (omega arith), eq-eqb k.0 k.0 refl, le-ltb k.1 k.1 (omega arith), eq-eqb k.1 k.1 refl)

-- each of the three, by the order
pub by_order : {C : Type 0} (j k : Key) → (before j k ≡ true → C) → (j ≡ k → C) → (before k j ≡ true → C) → C
by_order j k less equal greater =
    by_bool (before j k) less
    (λ b. by_bool (same_key j k) (λ s. equal (key_sound j k s)) (λ s. greater (before_other j k b s)))

less_order : (j k : Key) → order j k ≡ Less → before j k ≡ true
less_order j k h =
    by_order j k (λ b. b) (λ e. let o : order j k ≡ Equal = rw e (order_equal k) in cc)
    (λ b. let o = order_greater j k b in cc)

equal_order : (j k : Key) → order j k ≡ Equal → j ≡ k
equal_order j k h =
    by_order j k (λ b. let o = order_less j k b in cc) (λ e. e) (λ b. let o = order_greater j k b in cc)

greater_order : (j k : Key) → order j k ≡ Greater → before k j ≡ true
greater_order j k h =
    by_order j k (λ b. let o = order_less j k b in cc)
    (λ e. let o : order j k ≡ Equal = rw e (order_equal k) in cc) (λ b. b)

-- the key of the entry at a place
abbrev pub key_at : List Entry → ℕ → Key
key_at es i = entry_key (get_or es i empty_entry)

-- an earlier entry of an ordered list comes before
first-all : (k : Key) (es : List Entry) → Ordered es → first k es ≡ true → (i : ℕ) → i < length es
    → before k (key_at es i) ≡ true
first-all k [] h f i l = absurd (omega arith)
first-all k (e ∷ es) h f zero l = f
first-all k (e ∷ es) h f (suc i) l =
    let t = parts e es h in
    before_trans k (entry_key e) (key_at es i) f (first-all (entry_key e) es t.rest t.next i (omega arith))

pub rises : (es : List Entry) → Ordered es → (i j : ℕ) → i < j → j < length es → before (key_at es i) (key_at es j) ≡ true
rises [] h i j l m = absurd (omega arith)
rises (e ∷ es) h i zero l m = absurd (omega arith)
rises (e ∷ es) h zero (suc j) l m = let t = parts e es h in first-all (entry_key e) es t.rest t.next j (omega arith)
rises (e ∷ es) h (suc i) (suc j) l m = rises es (parts e es h).rest i j (omega arith) (omega arith)

-- the place of a key, told by what stands before it and at it
place_is : (k : Key) (es : List Entry) (i : ℕ) → i ≤ length es → ((j : ℕ) → j < i → before (key_at es j) k ≡ true)
    → (i < length es → before (key_at es i) k ≡ false) → place_of k es ≡ i
unfolding place_of
place_is k [] i m b n = omega arith
place_is k (e ∷ es) zero m b n = rw (n (omega arith))
place_is k (e ∷ es) (suc i) m b n =
    rw (b 0 (omega arith))
    (ap suc (place_is k es i (omega arith) (λ j l. b (suc j) (omega arith)) (λ l. n (omega arith))))

present_is : (k : Key) (es : List Entry) (i : ℕ) → i < length es → present_at i k es ≡ same_key (key_at es i) k
present_is k [] i h = absurd (omega arith)
present_is k (e ∷ es) zero h = refl
present_is k (e ∷ es) (suc i) h = present_is k es i (omega arith)

present_end : (k : Key) (es : List Entry) (i : ℕ) → length es ≤ i → present_at i k es ≡ false
present_end k [] zero h = refl
present_end k [] (suc i) h = refl
present_end k (e ∷ es) zero h = absurd (omega arith)
present_end k (e ∷ es) (suc i) h = present_end k es i (omega arith)

-- of two entries in order the earlier is not above a key where the later is below it
rank : (a b k : Key) → before a b ≡ true → ordering_index (order a k) ≤ ordering_index (order b k)
rank a b k h =
    by_order a k (λ l. rw (order_less a k l) zero-le)
    (λ e. let o = order_greater b k (rw (sym e) h) in let p : order a k ≡ Equal = rw e (order_equal k) in rw (o, p) (omega arith))
    (λ g. rw (order_greater a k g, order_greater b k (before_trans k a b g h)) (omega arith))

ranks : (k : Key) (es : List Entry) → Ordered es → IsNonDecreasingBy (λ e. ordering_index (order (entry_key e) k)) es
ranks k es h =
    IsNonDecreasingBy-from_default (λ e. ordering_index (order (entry_key e) k)) es empty_entry
    (λ i j l m. by_eq i j (λ e. rw e (le_refl _)) (λ n. rank (key_at es i) (key_at es j) k (rises es h i j (omega arith) m)))

-- what a binary search by key answers
pub searched_is : (k : Key) (es : List Entry) (r : Result ℕ ℕ) → Ordered es → IsSearchInRange r (length es)
    → IsBinarySearchResult (λ e. order (entry_key e) k) es r → r ≡ searched k es
searched_is k es (Ok i) h m p =
    let e : key_at es i ≡ k = equal_order (key_at es i) k (p empty_entry) in
    let place : place_of k es ≡ i =
    place_is k es i (omega arith) (λ j l. rw (sym e) (rises es h j i l m)) (λ l. is_false _ (λ b. apart (key_at es i) k b e)) in
    let present : present_at i k es ≡ true = present_is k es i m ∙ key_is (key_at es i) k e in
    rw (place, present)
searched_is k es (Err i) h m p =
    let t = p (ranks k es h) in
    let after : i < length es → before k (key_at es i) ≡ true =
    λ l. greater_order (key_at es i) k (t.1 i empty_entry (omega arith) l) in
    let place : place_of k es ≡ i =
    place_is k es i m (λ j l. less_order (key_at es j) k (t.0 j empty_entry zero-le l))
    (λ l. is_false _ (λ b. apart (key_at es i) (key_at es i) (before_trans (key_at es i) k (key_at es i) b (after l)) refl)) in
    let absent : present_at i k es ≡ false =
    by_le (length es) i (present_end k es i) (λ l. present_is k es i l ∙ after_apart k (key_at es i) (after l)) in
    rw (place, absent)

-- what the answer says of the place
pub found_at : (k : Key) (es : List Entry) (i : ℕ) → searched k es ≡ Ok i
    → (i ≡ place_of k es) × (present_at i k es ≡ true)
found_at k es i =
    by_bool (present_at (place_of k es) k es)
    (λ p. rw p (λ h. let e : i ≡ place_of k es = cc in (e, rw e p))) (λ p. rw p (λ h. cc))

pub missing_at : (k : Key) (es : List Entry) (i : ℕ) → searched k es ≡ Err i
    → (i ≡ place_of k es) × (present_at i k es ≡ false)
missing_at k es i =
    by_bool (present_at (place_of k es) k es)
    (λ p. rw p (λ h. cc)) (λ p. rw p (λ h. let e : i ≡ place_of k es = cc in (e, rw e p)))
