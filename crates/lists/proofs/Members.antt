-- Members of a list and its kinds, over any type with a test of equality: one more in front or behind, and that an
-- element is a member. Assumes nothing.
use mathlib.Core.Path.{◌≡◌, refl, sym, ap, ◌∙◌}
use mathlib.Core.List.{List, [], ◌∷◌, ◌++◌}
use mathlib.Core.Bool.{Bool, true, false, not, ◌&&◌, ◌||◌, or-false, or_assoc, or_comm}
use Prim.Native.Nat.{ℕ, zero, suc, ◌≤◌, ◌<◌}
use native.Mathlib.Omega.{arith}
use lib.ListN.{length, get_or}
use Rattle.answer.proofs.Bools.{by_bool, or_left, or_right, same_test}
use Rattle.lists.specs.Kinds.{among, different, kinds}

module _ {A : Type 0} (eq : A → A → Bool) where
  pub among-append : (x : A) (l m : List A) → among eq x (l ++ m) ≡ (among eq x l || among eq x m)
  unfolding among
  among-append x [] m = refl
  among-append x (y ∷ l) m = rw (among-append x l m) (sym (or_assoc (eq y x) (among eq x l) (among eq x m)))

  -- behind a list a member counts as in front of it
  pub among_snoc : (x y : A) (l : List A) → among eq x (l ++ y ∷ []) ≡ (eq y x || among eq x l)
  unfolding among
  among_snoc x y l = among-append x l (y ∷ []) ∙ rw (or-false (eq y x)) (or_comm (among eq x l) (eq y x))

  -- one more in front: of a kind that was there, of a new kind, and of either
  pub kinds-known : (x : A) (l : List A) → among eq x l ≡ true → kinds eq (x ∷ l) ≡ kinds eq l
  unfolding kinds
  kinds-known x l e = rw e

  pub kinds_new : (x : A) (l : List A) → among eq x l ≡ false → kinds eq (x ∷ l) ≡ suc (kinds eq l)
  unfolding kinds
  kinds_new x l e = rw e

  pub kinds_more : (x : A) (l : List A) → kinds eq l ≤ kinds eq (x ∷ l)
  kinds_more x l =
      by_bool (among eq x l) (λ e. rw (kinds-known x l e) (omega arith)) (λ e. rw (kinds_new x l e) (omega arith))

  -- no more kinds than members
  pub kinds-few : (l : List A) → kinds eq l ≤ length l
  unfolding kinds
  kinds-few [] = omega arith
  kinds-few (x ∷ xs) =
      let h = kinds-few xs in
      by_bool (among eq x xs) (λ e. rw e (omega arith)) (λ e. rw e (omega arith))

  module _ (mine : (x : A) → eq x x ≡ true) where
    pub among_at : (l : List A) (i : ℕ) (z : A) → i < length l → among eq (get_or l i z) l ≡ true
    unfolding among
    among_at [] i z h = absurd (omega arith)
    among_at (x ∷ l) zero z h = or_left _ _ (mine x)
    among_at (x ∷ l) (suc i) z h = or_right (eq x (get_or l i z)) _ (among_at l i z (omega arith))

    module _ (sound : (x y : A) → eq x y ≡ true → x ≡ y) where
      turned : (x y : A) → eq x y ≡ true → eq y x ≡ true
      turned x y h = ap (λ (z : A). eq z x) (sym (sound x y h)) ∙ mine x

      -- one more behind is different from the others where it is none of them
      pub different_snoc : (l : List A) (x : A) → different eq (l ++ x ∷ []) ≡ (different eq l && not (among eq x l))
      unfolding different among
      different_snoc [] x = refl
      different_snoc (y ∷ l) x =
          rw (among_snoc y x l, different_snoc l x, same_test (eq x y) (eq y x) (turned x y) (turned y x))
          (go (among eq y l) (eq y x) (different eq l) (among eq x l))
        where
          go : (a b c d : Bool) → (not (b || a) && (c && not d)) ≡ (not a && c && not (b || d))
          go true true c d = refl
          go true false c d = refl
          go false true true d = refl
          go false true false d = refl
          go false false c d = refl
