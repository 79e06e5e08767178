-- Marks and the numbers that they make. Assumes nothing.
use mathlib.Core.Path.{◌≡◌, refl, sym, ap, ◌∙◌}
use mathlib.Core.Bool.{Bool, true, false}
use mathlib.Core.List.{List, ◌∷◌}
use Prim.Native.Nat.{ℕ, zero, suc, ◌-◌, ◌≤◌, ◌<◌}
use native.Mathlib.Omega.{arith}
use lib.ListN.{length, get_or, set}
use lib.Seq.{get_or-set_same, get_or-set_other}
use borrow.Author.Tests.{eq-eqb, ne_eqb}
use Rattle.answer.specs.Ask.{pick}
use Rattle.answer.proofs.Bools.{by_bool, by_eq}
use Rattle.lists.specs.Counts.{passing}
use Rattle.lists.specs.Kinds.{among, is_among}
use Rattle.protocol.specs.Orders.{up_to}
use Rattle.checker.specs.Marks.{marked, made_in}

-- one number more
pub made-next : (marks : List Bool) (k : ℕ)
    → made_in marks (suc k) ≡ pick (get_or marks k false) (suc k ∷ made_in marks k) (made_in marks k)
unfolding passing up_to
made-next marks k = let e : suc k - 1 ≡ k = omega arith in rw e

-- a number above all of them is not among them
pub made_above : (marks : List Bool) (n k : ℕ) → n < k → is_among k (made_in marks n) ≡ false
unfolding among
made_above marks zero k l = unfold passing up_to in refl
made_above marks (suc n) k l =
    ap (is_among k) (made-next marks n)
    ∙ by_bool (get_or marks n false)
    (λ e. rw (e, ne_eqb (suc n) k (λ q. omega arith)) (made_above marks n k (omega arith)))
    (λ e. rw e (made_above marks n k (omega arith)))

-- a number is made exactly if it is marked
pub among-made : (marks : List Bool) (n k : ℕ) → 1 ≤ k → k ≤ n → is_among k (made_in marks n) ≡ marked marks k
unfolding among
among-made marks zero k low high = absurd (omega arith)
among-made marks (suc n) k low high =
    ap (is_among k) (made-next marks n)
    ∙ by_eq k (suc n)
    (λ q.
    let z : k - 1 ≡ n = omega arith in
    by_bool (get_or marks n false)
    (λ e. rw (z, e, eq-eqb (suc n) k (sym q)))
    (λ e. rw (z, e) (made_above marks n k (omega arith))))
    (λ q. by_bool (get_or marks n false)
    (λ e. rw (e, ne_eqb (suc n) k (λ p. q (sym p))) (among-made marks n k low (omega arith)))
    (λ e. rw e (among-made marks n k low (omega arith))))

-- marks that agree below a place make the same numbers up to there
pub made-same : (marks others : List Bool) (n : ℕ) → ((i : ℕ) → i < n → get_or marks i false ≡ get_or others i false)
    → made_in marks n ≡ made_in others n
made-same marks others zero h = unfold passing up_to in refl
made-same marks others (suc n) h =
    made-next marks n
    ∙ (λ i. pick (h n (omega arith) i) (suc n ∷ made-same marks others n (λ j l. h j (omega arith)) i)
    (made-same marks others n (λ j l. h j (omega arith)) i))
    ∙ sym (made-next others n)

-- the change at a place marked, and not marked
pub made_with : (marks : List Bool) (k : ℕ) → k < length marks → made_in (set marks k true) (suc k) ≡ suc k ∷ made_in marks k
made_with marks k l =
    made-next (set marks k true) k
    ∙ rw (get_or-set_same marks k true false l) (ap (λ (ms : List ℕ). suc k ∷ ms)
    (made-same (set marks k true) marks k (λ i m. get_or-set_other marks k i true false (λ e. omega arith))))

pub made_without : (marks : List Bool) (k : ℕ) → k < length marks → made_in (set marks k false) (suc k) ≡ made_in marks k
made_without marks k l =
    made-next (set marks k false) k
    ∙ rw (get_or-set_same marks k false false l)
    (made-same (set marks k false) marks k (λ i m. get_or-set_other marks k i false false (λ e. omega arith)))
