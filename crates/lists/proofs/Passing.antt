-- The elements of a list that pass a test f: all of them pass, what held of every element holds of them, those of two
-- lists are those of each, a weaker test before f changes nothing, and rising numbers go on rising. Assumes nothing.
use mathlib.Core.Path.{◌≡◌, refl, ap, ◌∙◌}
use mathlib.Core.Bool.{Bool, true}
use mathlib.Core.List.{List, [], ◌∷◌, ◌++◌, map, append-nil}
use Prim.Native.Nat.{ℕ, suc, ◌≤◌, ◌<◌}
use native.Mathlib.Omega.{arith}
use lib.Dec.{ltb}
use lib.ListN.{length, get_or}
use borrow.Author.Tests.{ltb-true}
use Rattle.answer.specs.Ask.{pick}
use Rattle.answer.proofs.Bools.{by_bool, and_join, and_parts}
use Rattle.lists.specs.Arrays.{every}
use Rattle.lists.specs.Counts.{count, passing}
use Rattle.lists.specs.Rising.{rising_from}
use Rattle.lists.proofs.Counts.{count-few}
use Rattle.lists.proofs.Rising.{rising_lower}

module _ {A : Type 0} (f : A → Bool) where
  pub passing_none : passing f [] ≡ []
  unfolding passing
  passing_none = refl

  pub length-passing : (l : List A) → length (passing f l) ≡ count f l
  unfolding passing count
  length-passing [] = refl
  length-passing (x ∷ l) =
      by_bool (f x) (λ e. rw e (ap suc (length-passing l))) (λ e. rw e (length-passing l))

  pub passing-few : (l : List A) → length (passing f l) ≤ length l
  passing-few l = omega (arith, length-passing l, count-few f l)

  pub passing-append : (l m : List A) → passing f (l ++ m) ≡ passing f l ++ passing f m
  unfolding passing
  passing-append [] m = refl
  passing-append (x ∷ l) m = by_bool (f x) (λ e. rw (e, passing-append l m)) (λ e. rw (e, passing-append l m))

  -- one more at the end
  pub passing_snoc : (l : List A) (x : A) → passing f (l ++ x ∷ []) ≡ pick (f x) (passing f l ++ x ∷ []) (passing f l)
  unfolding passing
  passing_snoc l x =
      passing-append l (x ∷ []) ∙ by_bool (f x) (λ e. rw e) (λ e. rw e (append-nil (passing f l)))

  -- they pass; and what every element passes, they pass
  pub passing_pass : (l : List A) → every f (passing f l) ≡ true
  unfolding passing every
  passing_pass [] = refl
  passing_pass (x ∷ l) =
      by_bool (f x) (λ e. rw e (and_join (f x) _ e (passing_pass l))) (λ e. rw e (passing_pass l))

  pub every-passing : (g : A → Bool) (l : List A) → every g l ≡ true → every g (passing f l) ≡ true
  unfolding passing every
  every-passing g [] h = refl
  every-passing g (x ∷ l) h =
      let t = and_parts (g x) (every g l) h in
      let rest = every-passing g l t.1 in
      by_bool (f x) (λ e. rw e (and_join (g x) _ t.0 rest)) (λ e. rw e rest)

  -- numbers of the elements that rise, rise among those that pass
  pub rising_passing : (number : A → ℕ) (last : ℕ) (l : List A) → rising_from last (map number l) ≡ true
      → rising_from last (map number (passing f l)) ≡ true
  unfolding passing rising_from
  rising_passing number last [] h = refl
  rising_passing number last (x ∷ l) h =
      let t = and_parts (ltb last (number x)) (rising_from (number x) (map number l)) h in
      by_bool (f x)
      (λ e. rw e (and_join (ltb last (number x)) _ t.0 (rising_passing number (number x) l t.1)))
      (λ e. rw e (rising_passing number last l
      (rising_lower last (number x) (map number l) (omega (arith, ltb-true last (number x) t.0)) t.1)))

-- two tests that agree on every element let the same ones pass
pub passing-same : {A : Type 0} (f g : A → Bool) (l : List A) (z : A)
    → ((i : ℕ) → i < length l → f (get_or l i z) ≡ g (get_or l i z)) → passing f l ≡ passing g l
unfolding passing
passing-same f g [] z h = refl
passing-same f g (x ∷ l) z h =
    rw (h 0 (omega arith), passing-same f g l z (λ i n. h (suc i) (omega arith)))

-- what passes f passes g, so g first changes nothing
pub passing_twice : {A : Type 0} (f g : A → Bool) → ((x : A) → f x ≡ true → g x ≡ true) → (l : List A)
    → passing f (passing g l) ≡ passing f l
unfolding passing
passing_twice f g weaker [] = refl
passing_twice f g weaker (x ∷ l) =
    let rest = passing_twice f g weaker l in
    by_bool (f x)
    (λ e. rw (weaker x e, e, rest))
    (λ e. by_bool (g x) (λ q. rw (q, e, rest)) (λ q. rw (q, e, rest)))
