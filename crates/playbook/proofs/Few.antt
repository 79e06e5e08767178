-- The different prefixes with lengths of the changes on a switch: they grow with the changes, and a stored playbook has
-- few on each switch, so that a table that its changes make has room. Assumes nothing.
use mathlib.Core.Path.{◌≡◌, refl}
use mathlib.Core.List.{List, [], ◌∷◌, ◌++◌, append-nil}
use mathlib.Core.Bool.{true, and-false}
use Prim.Native.Nat.{ℕ, zero, suc, ◌≤◌, ◌<◌}
use native.Mathlib.Omega.{arith}
use lib.Dec.{leb, eqb}
use lib.ListN.{length, get_or}
use borrow.Author.Tests.{leb-true, le-leb, eq-eqb, ne_eqb}
use Rattle.answer.specs.Limits.{switch_count}
use Rattle.answer.proofs.Bools.{by_bool, by_eq, tf, and_join, and_parts, or_left, or_right}
use Rattle.lists.specs.Kinds.{among, different}
use Rattle.lists.proofs.Pigeonhole.{pigeonhole, kinds-append}
use Rattle.flow.specs.Rules.{Key, rule_key, same_key, well_formed}
use Rattle.flow.specs.declared.Entry.{Entry}
use Rattle.flow.specs.declared.Rule.{Rule}
use Rattle.flow.proofs.Order.{key_sound, key_mine}
use Rattle.flow.proofs.Kept.{Ordered}
use Rattle.flow.proofs.Keys.{Within, Takes, takes}
use Rattle.playbook.specs.Limits.{max_keys}
use Rattle.playbook.specs.Books.{Book, book_of, is_on, keys_on, kinds_on}
use Rattle.playbook.specs.Storing.{few_keys_below, book_ok, stored_ok}
use Rattle.playbook.specs.declared.Change.{Change}
use Rattle.playbook.specs.declared.Playbook.{Playbook}

keys-append : (s : ℕ) (cs ds : List Change) → keys_on s (cs ++ ds) ≡ keys_on s cs ++ keys_on s ds
unfolding keys_on
keys-append s [] ds = refl
keys-append s (c ∷ cs) ds =
    let ih = keys-append s cs ds in
    by_bool (is_on s c) (λ e. rw (e, ih)) (λ e. rw (e, ih))

pub kinds_grow : (s : ℕ) (cs ds : List Change) → kinds_on s cs ≤ kinds_on s (cs ++ ds)
kinds_grow s cs ds = rw keys-append (kinds-append same_key key_sound key_mine (keys_on s cs) (keys_on s ds))

-- a change more on the switch, and on another
pub keys_on_lem : (s : ℕ) (cs : List Change) (c : Change) → c.switch ≡ s
    → keys_on s (cs ++ c ∷ []) ≡ keys_on s cs ++ rule_key c.rule ∷ []
unfolding keys_on
keys_on_lem s cs c e = rw (keys-append s cs (c ∷ []), eq-eqb c.switch s e)

pub keys_off : (s : ℕ) (cs : List Change) (c : Change) → (c.switch ≡ s → ⊥) → keys_on s (cs ++ c ∷ []) ≡ keys_on s cs
unfolding keys_on
keys_off s cs c ne = rw (keys-append s cs (c ∷ []), ne_eqb c.switch s ne, append-nil)

-- each switch below n
pub few_below : (n s : ℕ) (cs : List Change) → few_keys_below n cs ≡ true → s < n → kinds_on s cs ≤ max_keys
unfolding few_keys_below
few_below zero s cs h l = absurd (omega arith)
few_below (suc n) s cs h l =
    let t = and_parts (leb (kinds_on n cs) max_keys) _ h in
    by_eq s n (λ e. rw e (leb-true _ _ t.0)) (λ ne. few_below n s cs t.1 (omega arith))

pub few_all : (n : ℕ) (cs : List Change) → ((s : ℕ) → s < n → kinds_on s cs ≤ max_keys) → few_keys_below n cs ≡ true
unfolding few_keys_below
few_all zero cs f = refl
few_all (suc n) cs f = and_join _ _ (le-leb _ _ (f n (omega arith))) (few_all n cs (λ s l. f s (omega arith)))

-- a change more
pub few-change : (n : ℕ) (cs : List Change) (c : Change) → few_keys_below n cs ≡ true
    → kinds_on c.switch (cs ++ c ∷ []) ≤ max_keys → few_keys_below n (cs ++ c ∷ []) ≡ true
few-change n cs c h k =
    few_all n (cs ++ c ∷ [])
    (λ s l. by_eq c.switch s (λ e. rw (← e) k) (λ ne. rw (keys_off s cs c ne) (few_below n s cs h l)))

-- the bound in a book within its limits, and in a stored playbook
book-few : (b : Book) → book_ok b ≡ true → few_keys_below switch_count b.changes ≡ true
unfolding book_ok
book-few b h = by_bool _ (λ e. e) (λ e. tf h (rw (e, and-false)))

book-kinds : (b : Book) (s : ℕ) → book_ok b ≡ true → s < switch_count → kinds_on s b.changes ≤ max_keys
book-kinds b s h l = few_below switch_count s b.changes (book-few b h) l

pub stored-kinds : (p : Playbook) (s : ℕ) → stored_ok p ≡ true → s < switch_count
    → kinds_on s (book_of p).changes ≤ max_keys
unfolding stored_ok
stored-kinds p s h l = book-kinds (book_of p) s (by_bool _ (λ e. e) (λ e. tf h (rw (e, and-false)))) l

-- different keys drawn from the changes on a switch are few
pub stored-few : (p : Playbook) (s : ℕ) → stored_ok p ≡ true → s < switch_count → (ks : List Key)
    → different same_key ks ≡ true
    → ((k : Key) → among same_key k ks ≡ true → among same_key k (keys_on s (book_of p).changes) ≡ true)
    → length ks ≤ max_keys
stored-few p s h l ks d m =
    let n = pigeonhole same_key key_sound key_mine ks (keys_on s (book_of p).changes) d m in
    omega (arith, stored-kinds p s h l)

-- so a table whose keys are among those takes the rule of each of these changes, and stays such a table
pub stored_takes : (p : Playbook) (s : ℕ) (r : Rule) (es : List Entry) → stored_ok p ≡ true → s < switch_count
    → well_formed r ≡ true → among same_key (rule_key r) (keys_on s (book_of p).changes) ≡ true → Ordered es
    → Within (keys_on s (book_of p).changes) es → Takes (keys_on s (book_of p).changes) r es
stored_takes p s r es h l w m o v = takes (keys_on s (book_of p).changes) r es (stored-kinds p s h l) w m o v

-- the key of a change is among those of its switch
pub change-among : (cs : List Change) (i : ℕ) (z : Change) → i < length cs
    → among same_key (rule_key (get_or cs i z).rule) (keys_on (get_or cs i z).switch cs) ≡ true
unfolding keys_on among
change-among [] i z h = absurd (omega arith)
change-among (c ∷ cs) zero z h = rw (eq-eqb c.switch c.switch refl) (or_left _ _ (key_mine (rule_key c.rule)))
change-among (c ∷ cs) (suc i) z h =
    let k = rule_key (get_or cs i z).rule in
    let ih = change-among cs i z (omega arith) in
    by_bool (eqb c.switch (get_or cs i z).switch) (λ e. rw e (or_right (same_key (rule_key c.rule) k) _ ih))
    (λ e. rw e ih)
