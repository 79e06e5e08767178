-- What a list of questions replies.
use mathlib.Core.Path.{◌≡◌, refl, sym, ap, ◌∙◌}
use mathlib.Core.Bool.{Bool, true, false, not, ◌&&◌}
use mathlib.Core.List.{List, [], ◌∷◌, ◌++◌}
use Prim.Native.Nat.{ℕ, ◌≤◌}
use native.Mathlib.Omega.{arith}
use lib.Dec.{leb, eqb, leb-zero}
use lib.ListN.{drop}
use borrow.Author.Tests.{leb-true, eq-eqb, not-true}
use Rattle.answer.specs.Ask.{Question, pick, reply, first_no}
use Rattle.answer.proofs.Bools.{by_bool, tf, and_join, and_parts}

module _ {A : Type 0} (refusal : ℕ → A) (next : A) where
  pub none_asked : reply [] refusal next ≡ next
  unfolding reply
  none_asked = refl

  -- the first answer is no, and it is yes
  pub refused : (k : ℕ) (b : Bool) (qs : List Question) → b ≡ false → reply ((k, b) ∷ qs) refusal next ≡ refusal k
  unfolding reply
  refused k b qs e = rw e

  pub asked : (k : ℕ) (b : Bool) (qs : List Question) → b ≡ true
      → reply ((k, b) ∷ qs) refusal next ≡ reply qs refusal next
  unfolding reply
  asked k b qs e = rw e

-- a function of a reply
pub reply_ap : {A B : Type 0} (f : A → B) (qs : List Question) (refusal : ℕ → A) (next : A)
    → f (reply qs refusal next) ≡ reply qs (λ k. f (refusal k)) (f next)
unfolding reply
reply_ap f [] refusal next = refl
reply_ap f ((k, true) ∷ qs) refusal next = reply_ap f qs refusal next
reply_ap f ((k, false) ∷ qs) refusal next = refl

-- two replies that differ at most in what follows, where every answer is yes
pub reply-same : {A : Type 0} (qs : List Question) (refusal : ℕ → A) (x y : A) → (first_no qs ≡ 0 → x ≡ y)
    → reply qs refusal x ≡ reply qs refusal y
unfolding reply
reply-same [] refusal x y h = h refl
reply-same ((k, true) ∷ qs) refusal x y h = reply-same qs refusal x y h
reply-same ((k, false) ∷ qs) refusal x y h = refl

-- one list of questions before another
pub reply-append : {A : Type 0} (qs rs : List Question) (refusal : ℕ → A) (next : A)
    → reply (qs ++ rs) refusal next ≡ reply qs refusal (reply rs refusal next)
unfolding reply
reply-append [] rs refusal next = refl
reply-append ((k, true) ∷ qs) rs refusal next = reply-append qs rs refusal next
reply-append ((k, false) ∷ qs) rs refusal next = refl

-- no question has a number below l, and none has number j
abbrev pub From : ℕ → List Question → Bool
From l [] = true
From l ((k, b) ∷ qs) = leb l k && From l qs

abbrev pub Without : ℕ → List Question → Bool
Without j [] = true
Without j ((k, b) ∷ qs) = not (eqb k j) && Without j qs

from_0 : (qs : List Question) → From 0 qs ≡ true
from_0 [] = refl
from_0 ((k, b) ∷ qs) = and_join (leb 0 k) _ (leb-zero k) (from_0 qs)

-- the reply by the first number: every answer is yes, or it is a refusal with that number
pub by_reply : {A C : Type 0} (l : ℕ) (qs : List Question) (refusal : ℕ → A) (next : A) → From l qs ≡ true
    → (l ≤ first_no qs → reply qs refusal next ≡ refusal (first_no qs) → C)
    → (first_no qs ≡ 0 → reply qs refusal next ≡ next → C) → C
unfolding reply
by_reply l [] refusal next n refuses passes = passes refl refl
by_reply l ((k, true) ∷ qs) refusal next n refuses passes =
    by_reply l qs refusal next (and_parts (leb l k) _ n).1 refuses passes
by_reply l ((k, false) ∷ qs) refusal next n refuses passes =
    refuses (leb-true l k (and_parts (leb l k) _ n).0) refl

-- two replies by one list of questions: refused by the same one, whose number is neither 0 nor j, or both pass
pub by_replies : {A B C : Type 0} (j : ℕ) (qs : List Question) (f : ℕ → A) (x : A) (g : ℕ → B) (y : B)
    → From 1 qs ≡ true → Without j qs ≡ true
    → ((q : ℕ) → (q ≡ 0 → ⊥) → (q ≡ j → ⊥) → reply qs f x ≡ f q → reply qs g y ≡ g q → C)
    → (reply qs f x ≡ x → reply qs g y ≡ y → C) → C
unfolding reply
by_replies j [] f x g y n w refuses passes = passes refl refl
by_replies j ((k, true) ∷ qs) f x g y n w refuses passes =
    by_replies j qs f x g y (and_parts (leb 1 k) _ n).1 (and_parts (not (eqb k j)) _ w).1 refuses passes
by_replies j ((k, false) ∷ qs) f x g y n w refuses passes =
    refuses k (λ e. omega (arith, leb-true 1 k (and_parts (leb 1 k) _ n).0))
    (λ e. tf (eq-eqb k j e) (not-true _ (and_parts (not (eqb k j)) _ w).0)) refl refl

-- so it is what follows where no number is given, since no question has number 0
pub all_yes : {A : Type 0} (qs : List Question) (refusal : ℕ → A) (next : A) → From 1 qs ≡ true → first_no qs ≡ 0
    → reply qs refusal next ≡ next
all_yes qs refusal next n e = by_reply 1 qs refusal next n (λ h f. absurd (omega arith)) (λ y f. f)

pub some_no : {A : Type 0} (qs : List Question) (refusal : ℕ → A) (next : A) → (first_no qs ≡ 0 → ⊥)
    → reply qs refusal next ≡ refusal (first_no qs)
some_no qs refusal next n = by_reply 0 qs refusal next (from_0 qs) (λ h f. f) (λ y f. absurd (n y))

-- the first n questions have been answered yes
abbrev pub Past : List Question → ℕ → Type 0
Past qs n = first_no qs ≡ first_no (drop n qs)

-- the first number, where it is not 0, is what a call refuses with
pub stopped : {A : Type 0} (qs : List Question) (refusal : ℕ → A) (next : A) {k : ℕ} → k ≡ first_no qs → (k ≡ 0 → ⊥)
    → refusal k ≡ reply qs refusal next
stopped qs refusal next e n = ap refusal e ∙ sym (some_no qs refusal next (λ z. n (e ∙ z)))

-- the answer to the question with a number, and that it is yes where no number is given
abbrev pub answer_to : ℕ → List Question → Bool
answer_to j [] = true
answer_to j ((k, b) ∷ qs) = pick (eqb k j) b (answer_to j qs)

pub answered : (qs : List Question) → From 1 qs ≡ true → first_no qs ≡ 0 → (j : ℕ) → answer_to j qs ≡ true
unfolding reply
answered [] n e j = refl
answered ((k, true) ∷ qs) n e j =
    by_bool (eqb k j) (λ q. rw q) (λ q. rw q (answered qs (and_parts (leb 1 k) _ n).1 e j))
answered ((k, false) ∷ qs) n e j = absurd (omega (arith, leb-true 1 k (and_parts (leb 1 k) _ n).0))

-- what holds of the refusals from l on, or of all of them, and of what follows where every answer is yes, holds of the
-- reply
pub reply-from : {A : Type 0} (P : A → Type 0) (l : ℕ) (qs : List Question) (refuse : ℕ → A) (next : A)
    → From l qs ≡ true → ((k : ℕ) → l ≤ k → P (refuse k)) → (first_no qs ≡ 0 → P next) → P (reply qs refuse next)
reply-from P l qs refuse next n refused asked =
    by_reply l qs refuse next n (λ h f. rw f (refused _ h)) (λ y f. rw f (asked y))

pub reply-keeps : {A : Type 0} (P : A → Type 0) (qs : List Question) (refuse : ℕ → A) (next : A)
    → ((k : ℕ) → P (refuse k)) → (first_no qs ≡ 0 → P next) → P (reply qs refuse next)
reply-keeps P qs refuse next refused asked = reply-from P 0 qs refuse next (from_0 qs) (λ k h. refused k) asked
