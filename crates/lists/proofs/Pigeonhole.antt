-- Different members of a list are no more than its kinds: the pigeonhole, over any type with a test of equality. The
-- last of each kind are such members, so that a longer list has no fewer kinds. Assumes nothing.
use mathlib.Core.Path.{◌≡◌, refl, sym, ap, ◌∙◌}
use mathlib.Core.List.{List, [], ◌∷◌, ◌++◌}
use mathlib.Core.Bool.{Bool, true, false, not}
use Prim.Native.Nat.{suc, ◌≤◌}
use native.Mathlib.Omega.{arith}
use borrow.Author.Tests.{not-true}
use lib.ListN.{length}
use Rattle.answer.specs.Ask.{pick}
use Rattle.answer.proofs.Bools.{by_bool, by_or, tf, and_join, and_parts, or_left, or_right, is_false}
use Rattle.lists.specs.Kinds.{among, different, kinds}
use Rattle.lists.proofs.Members.{among-append}

module _ {A : Type 0} (eq : A → A → Bool) where
  -- the last of each kind
  unfoldable lasts : List A → List A
  lasts [] = []
  lasts (x ∷ xs) = pick (among eq x xs) (lasts xs) (x ∷ lasts xs)

  -- one member taken out
  unfoldable without : A → List A → List A
  without k [] = []
  without k (x ∷ xs) = pick (eq x k) xs (x ∷ without k xs)

  length-lasts : (l : List A) → length (lasts l) ≡ kinds eq l
  unfolding lasts kinds
  length-lasts [] = refl
  length-lasts (x ∷ xs) = go (among eq x xs) (length-lasts xs)
    where
      go : (b : Bool) → length (lasts xs) ≡ kinds eq xs
          → length (pick b (lasts xs) (x ∷ lasts xs)) ≡ pick b (kinds eq xs) (suc (kinds eq xs))
      go true h = h
      go false h = ap suc h

  lasts-among : (k : A) (l : List A) → among eq k (lasts l) ≡ true → among eq k l ≡ true
  unfolding among lasts
  lasts-among k [] h = h
  lasts-among k (x ∷ l) h =
      by_bool (among eq x l) (λ b. or_right (eq x k) _ (lasts-among k l (rw b at h)))
      (λ b. by_or (eq x k) (among eq k (lasts l)) (rw b at h) (or_left (eq x k) _)
      (λ e. or_right (eq x k) _ (lasts-among k l e)))

  lasts-different : (l : List A) → different eq (lasts l) ≡ true
  unfolding different lasts
  lasts-different [] = refl
  lasts-different (x ∷ l) =
      by_bool (among eq x l) (λ b. rw b (lasts-different l))
      (λ b. rw b (and_join (not (among eq x (lasts l))) _ (ap not (is_false _ (λ e. tf (lasts-among x l e) b)))
      (lasts-different l)))

  length_without : (k : A) (l : List A) → among eq k l ≡ true → length l ≡ suc (length (without k l))
  unfolding among without
  length_without k [] h = tf h refl
  length_without k (x ∷ xs) h =
      by_bool (eq x k) (λ q. rw q) (λ q. rw q (ap suc (length_without k xs (rw q at h))))

  module _ (sound : (x y : A) → eq x y ≡ true → x ≡ y) (mine : (x : A) → eq x x ≡ true) where
    among-lasts : (k : A) (l : List A) → among eq k l ≡ true → among eq k (lasts l) ≡ true
    unfolding among lasts
    among-lasts k [] h = h
    among-lasts k (x ∷ xs) h =
        by_bool (among eq x xs)
        (λ b. rw b (among-lasts k xs (by_or (eq x k) (among eq k xs) h
        (λ q. ap (λ (y : A). among eq y xs) (sym (sound x k q)) ∙ b) (λ q. q))))
        (λ b. rw b (by_or (eq x k) (among eq k xs) h (λ q. or_left (eq x k) _ q)
        (λ q. or_right (eq x k) _ (among-lasts k xs q))))

    among_without : (k j : A) (l : List A) → (k ≡ j → ⊥) → among eq j l ≡ true → among eq j (without k l) ≡ true
    unfolding among without
    among_without k j [] ne h = h
    among_without k j (x ∷ xs) ne h =
        by_bool (eq x k)
        (λ q. rw q (by_or (eq x j) (among eq j xs) h (λ y. absurd (ne (sym (sound x k q) ∙ sound x j y))) (λ y. y)))
        (λ q. rw q (by_or (eq x j) (among eq j xs) h (λ y. or_left (eq x j) _ y)
        (λ y. or_right (eq x j) _ (among_without k j xs ne y))))

    -- different members of a list are no more than its members
    pub members : (ks l : List A) → different eq ks ≡ true → ((k : A) → among eq k ks ≡ true → among eq k l ≡ true)
        → length ks ≤ length l
    unfolding among different
    members [] l d h = omega arith
    members (x ∷ xs) l d h =
        let t = and_parts (not (among eq x xs)) (different eq xs) d in
        let fresh : among eq x xs ≡ false = not-true (among eq x xs) t.0 in
        let here : among eq x l ≡ true = h x (or_left (eq x x) _ (mine x)) in
        let ih = members xs (without x l) t.1
        (λ k e. among_without x k l (λ q. tf e (ap (λ (y : A). among eq y xs) (sym q) ∙ fresh))
        (h k (or_right (eq x k) (among eq k xs) e))) in
        omega (arith, length_without x l here)

    -- and no more than the kinds of its members
    pub pigeonhole : (ks l : List A) → different eq ks ≡ true → ((k : A) → among eq k ks ≡ true → among eq k l ≡ true)
        → length ks ≤ kinds eq l
    pigeonhole ks l d h =
        let m = members ks (lasts l) d (λ k e. among-lasts k l (h k e)) in
        omega (arith, length-lasts l)

    -- so a list whose members are all in another has no more kinds, and more members are no fewer kinds
    pub kinds-within : (l m : List A) → ((k : A) → among eq k l ≡ true → among eq k m ≡ true) → kinds eq l ≤ kinds eq m
    kinds-within l m h =
        let n = pigeonhole (lasts l) m (lasts-different l) (λ k e. h k (lasts-among k l e)) in
        omega (arith, length-lasts l)

    pub kinds-append : (l m : List A) → kinds eq l ≤ kinds eq (l ++ m)
    kinds-append l m = kinds-within l (l ++ m) (λ k e. among-append eq k l m ∙ or_left _ _ e)
