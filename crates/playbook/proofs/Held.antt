-- A set of keys in an array with hints: whether a key is among them, and a key more; and a test of every element as an
-- iterator asks it. Assumes nothing.
use mathlib.Core.Path.{◌≡◌, refl, sym, ap, ◌∙◌}
use mathlib.Core.Bool.{Bool, true, false}
use mathlib.Core.List.{List, [], ◌∷◌, ◌++◌}
use Prim.Native.Nat.{ℕ, ◌+◌, ◌≤◌, ◌<◌}
use native.Mathlib.Numerals.{add-one}
use native.Mathlib.Omega.{arith}
use lib.ListN.{length, take, set, get_or}
use lib.Seq.{get_or-set_same, get_or-set_other, get_or-take, length-take-le, take-suc-set}
use Rattle.std.specs.List.{list_any, list_all}
use Rattle.answer.proofs.Bools.{by_bool, by_eq}
use Rattle.lists.specs.Arrays.{every}
use Rattle.lists.specs.Kinds.{among}
use Rattle.lists.proofs.Members.{among_snoc, among_at}
use Rattle.flow.specs.Rules.{Key, same_key}
use Rattle.flow.proofs.Order.{key_sound, key_mine}
use Rattle.playbook.specs.Gathering.{mark_of}

pub list_all-every : {A : Type 0} (f : A → Bool) (l : List A) → list_all f l ≡ every f l
unfolding every
list_all-every f [] = refl
list_all-every f (x ∷ l) = rw (list_all-every f l)

-- a search of all of them
pub list_any-among : (k : Key) (ks : List Key) → list_any (λ j. same_key j k) ks ≡ among same_key k ks
unfolding among
list_any-among k [] = refl
list_any-among k (j ∷ ks) = rw (list_any-among k ks)

-- one that is found at a place
pub found_at : (held : List Key) (n i : ℕ) (z k : Key) → n ≤ length held → i < n → same_key (get_or held i z) k ≡ true
    → among same_key k (take n held) ≡ true
found_at held n i z k long low e =
    let l = take n held in
    let inside : i < length l = rw (length-take-le n held long) low in
    let here : get_or l i z ≡ k = get_or-take n held i z low ∙ key_sound _ _ e in
    ap (λ (j : Key). among same_key j l) (sym here) ∙ among_at same_key key_mine l i z inside

module _ (held : List Key) (n : ℕ) (k : Key) (room : n < length held) where
  -- a key more, behind the others
  pub held_more : take (n + 1) (set held n k) ≡ take n held ++ k ∷ []
  held_more = rw (add-one, take-suc-set held n k room)

  module _ (hints : List ℕ) (wide : mark_of k < length hints) where
    pub within_more : (m : ℕ) → get_or hints m 0 ≤ n → get_or (set hints (mark_of k) (n + 1)) m 0 ≤ n + 1
    within_more m h =
        by_eq m (mark_of k)
        (λ e. rw (e, get_or-set_same hints (mark_of k) (n + 1) 0 wide) (omega arith))
        (λ ne. rw (get_or-set_other hints (mark_of k) m (n + 1) 0 ne) (omega arith))

    pub hinted_more : (j : Key) → (get_or hints (mark_of j) 0 ≡ 0 → among same_key j (take n held) ≡ false)
        → get_or (set hints (mark_of k) (n + 1)) (mark_of j) 0 ≡ 0
        → among same_key j (take (n + 1) (set held n k)) ≡ false
    hinted_more j h z =
        by_eq (mark_of j) (mark_of k)
        (λ e. let one = get_or-set_same hints (mark_of k) (n + 1) 0 wide in
        let none = ap (λ (i : ℕ). get_or (set hints (mark_of k) (n + 1)) i 0) (sym e) ∙ z in
        absurd (omega arith))
        (λ ne. let old = sym (get_or-set_other hints (mark_of k) (mark_of j) (n + 1) 0 ne) ∙ z in
        let other : same_key k j ≡ false =
        by_bool (same_key k j) (λ e. absurd (ne (ap mark_of (sym (key_sound k j e))))) (λ e. e) in
        ap (among same_key j) held_more ∙ among_snoc same_key j k (take n held) ∙ rw (other, h old))
