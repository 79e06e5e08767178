-- Laws of families: what holds of the new value and of the others holds of an update; counting below a bound, and the
-- pigeonhole. Assumes nothing.
use mathlib.Core.Path.{◌≡◌, refl, sym, ap, ◌∙◌, subst}
use mathlib.Core.Bool.{Bool, true, false, not, ◌&&◌}
use mathlib.Core.List.{List, [], ◌∷◌}
use Prim.Native.Nat.{ℕ, zero, suc, ◌+◌, ◌≤◌, ◌<◌}
use native.Mathlib.Omega.{arith}
use lib.Dec.{eqb}
use lib.ListN.{length, get_or}
use borrow.Author.Tests.{eq-eqb, ne_eqb}
use Rattle.answer.specs.Ask.{pick}
use Rattle.answer.proofs.Bools.{by_bool, by_eq}
use Rattle.lists.specs.Counts.{count}
use Rattle.protocol.specs.Families.{upd, count_below}

module _ {A : Type 0} where
  pub upd_same : (f : ℕ → A) (i : ℕ) (v : A) → upd f i v i ≡ v
  unfolding upd
  upd_same f i v = rw (eq-eqb i i refl)

  pub upd_other : (f : ℕ → A) (i : ℕ) (v : A) (j : ℕ) → (i ≡ j → ⊥) → upd f i v j ≡ f j
  unfolding upd
  upd_other f i v j h = rw (ne_eqb i j h)

  -- what holds of v at i, and of f elsewhere, holds of the update
  pub upd_at : (P : ℕ → A → Type 0) (f : ℕ → A) (i : ℕ) (v : A) (j : ℕ) → P i v → ((i ≡ j → ⊥) → P j (f j))
      → P j (upd f i v j)
  upd_at P f i v j new old =
      by_eq i j (λ e. subst (λ (x : ℕ). P x (upd f i v x)) e (rw upd_same new)) (λ h. rw (upd_other f i v j h) (old h))

  -- an update by the value that is there already
  pub upd_self : (f : ℕ → A) (i j : ℕ) → upd f i (f i) j ≡ f j
  upd_self f i j = upd_at (λ (j : ℕ) (x : A). x ≡ f j) f i (f i) j refl (λ h. refl)

-- a function of an update is the update of its values
pub upd_ap : {A B : Type 0} (g : A → B) (f : ℕ → A) (i : ℕ) (v : A) (j : ℕ)
    → g (upd f i v j) ≡ upd (λ k. g (f k)) i (g v) j
unfolding upd
upd_ap g f i v j = by_bool (eqb i j) (λ e. rw e) (λ e. rw e)

pub upd_grows : (f : ℕ → ℕ) (i v : ℕ) → f i ≤ v → (j : ℕ) → f j ≤ upd f i v j
upd_grows f i v h j = upd_at (λ j x. f j ≤ x) f i v j h (λ n. omega arith)

-- one of the indexes counted by p is not counted by q, where p counts more
pub pigeon : (n : ℕ) (p q : ℕ → Bool) → count_below n q < count_below n p
    → (i : ℕ) × (i < n) × (p i ≡ true) × (q i ≡ false)
unfolding count_below
pigeon zero p q h = absurd (omega arith)
pigeon (suc n) p q h =
    let up : (i : ℕ) × (i < n) × (p i ≡ true) × (q i ≡ false)
    → (i : ℕ) × (i < suc n) × (p i ≡ true) × (q i ≡ false) = λ r. (r.0, omega (arith, r.1), r.2, r.3) in
    by_bool (p n)
    (λ e. by_bool (q n) (λ f. up (pigeon n p q (omega (arith, rw (e, f) at h)))) (λ f. (n, omega arith, e, f)))
    (λ e. by_bool (q n) (λ f. up (pigeon n p q (omega (arith, rw (e, f) at h))))
    (λ f. up (pigeon n p q (omega (arith, rw (e, f) at h)))))

pub count_mono : (n : ℕ) (p q : ℕ → Bool) → ((i : ℕ) → i < n → p i ≡ true → q i ≡ true)
    → count_below n p ≤ count_below n q
unfolding count_below
count_mono zero p q h = omega arith
count_mono (suc n) p q h =
    let less : count_below n p ≤ count_below n q = count_mono n p q (λ i l. h i (omega arith)) in
    by_bool (p n) (λ e. rw (e, h n (omega arith) e) (omega arith))
    (λ e. rw e (by_bool (q n) (λ f. rw f (omega arith)) (λ f. rw f less)))

pub count-not : (n : ℕ) (p : ℕ → Bool) → count_below n p + count_below n (λ i. not (p i)) ≡ n
unfolding count_below
count-not zero p = refl
count-not (suc n) p =
    let less = count-not n p in
    by_bool (p n) (λ e. rw e (omega arith)) (λ e. rw e (omega arith))

-- those that pass p, by q
pub count_both : (n : ℕ) (p q : ℕ → Bool)
    → count_below n (λ i. p i && q i) + count_below n (λ i. p i && not (q i)) ≡ count_below n p
unfolding count_below
count_both zero p q = refl
count_both (suc n) p q =
    let less = count_both n p q in
    by_bool (p n) (λ e. by_bool (q n) (λ f. rw (e, f) (omega arith)) (λ f. rw (e, f) (omega arith))) (λ e. rw e less)

pub count-every : (n : ℕ) (p : ℕ → Bool) → ((i : ℕ) → i < n → p i ≡ true) → count_below n p ≡ n
unfolding count_below
count-every zero p h = refl
count-every (suc n) p h = rw (h n (omega arith)) (ap suc (count-every n p (λ i l. h i (omega arith))))

pub count_none : (n : ℕ) (p : ℕ → Bool) → ((i : ℕ) → i < n → p i ≡ false) → count_below n p ≡ 0
unfolding count_below
count_none zero p h = refl
count_none (suc n) p h = rw (h n (omega arith)) (count_none n p (λ i l. h i (omega arith)))

pub count-zero : (n : ℕ) (p : ℕ → Bool) → count_below n p ≡ 0 → (i : ℕ) → i < n → p i ≡ false
unfolding count_below
count-zero zero p h i l = absurd (omega arith)
count-zero (suc n) p h i l =
    by_bool (p n) (λ e. absurd (omega (arith, rw e at h)))
    (λ e. by_eq i n (λ q. rw q e) (λ ne. count-zero n p (rw e at h) i (omega arith)))

-- the lowest index that passes
pub lowest : (n : ℕ) (p : ℕ → Bool) → 0 < count_below n p
    → (i : ℕ) × (i < n) × (p i ≡ true) × ((j : ℕ) → j < i → p j ≡ false)
unfolding count_below
lowest zero p h = absurd (omega arith)
lowest (suc n) p h =
    by_eq (count_below n p) 0
    (λ z. by_bool (p n) (λ e. (n, omega arith, e, count-zero n p z)) (λ e. absurd (omega (arith, rw e at h))))
    (λ nz. let r = lowest n p (omega arith) in (r.0, omega (arith, r.1), r.2, r.3))

-- fewer pass where one that passed does no more
pub count_less : (n : ℕ) (p q : ℕ → Bool) → ((i : ℕ) → i < n → p i ≡ true → q i ≡ true) → (i : ℕ) → i < n
    → q i ≡ true → p i ≡ false → count_below n p < count_below n q
unfolding count_below
count_less zero p q h i l a b = absurd (omega arith)
count_less (suc n) p q h i l a b =
    by_eq i n
    (λ e. let few = count_mono n p q (λ j u. h j (omega arith)) in rw (rw e at a, rw e at b) (omega arith))
    (λ ne.
    let less = count_less n p q (λ j u. h j (omega arith)) i (omega arith) a b in
    by_bool (p n) (λ e. rw (e, h n (omega arith) e) (omega arith))
    (λ e. rw e (by_bool (q n) (λ f. rw f (omega arith)) (λ f. rw f less))))

-- counting from the first index on, and fewer indexes where the others fail
count-first : (n : ℕ) (p : ℕ → Bool)
    → count_below (suc n) p ≡ pick (p 0) (suc (count_below n (λ i. p (suc i)))) (count_below n (λ i. p (suc i)))
unfolding count_below
count-first zero p = refl
count-first (suc n) p =
    let less = count-first n p in
    by_bool (p 0) (λ e. by_bool (p (suc n)) (λ f. rw (f, less, e)) (λ f. rw (f, less, e)))
    (λ e. by_bool (p (suc n)) (λ f. rw (f, less, e)) (λ f. rw (f, less, e)))

pub count_fewer : (n m : ℕ) (p : ℕ → Bool) → n ≤ m → ((i : ℕ) → n ≤ i → i < m → p i ≡ false)
    → count_below m p ≡ count_below n p
unfolding count_below
count_fewer n zero p h none = let e : n ≡ 0 = omega arith in rw e
count_fewer n (suc m) p h none =
    by_eq n (suc m) (λ e. rw e)
    (λ other. rw (none m (omega arith) (omega arith))
    (count_fewer n m p (omega arith) (λ i l u. none i l (omega arith))))

-- the elements of a list that pass, counted by their places
pub count-places : {A : Type 0} (f : A → Bool) (l : List A) (z : A)
    → count f l ≡ count_below (length l) (λ i. f (get_or l i z))
unfolding count count_below
count-places f [] z = refl
count-places f (x ∷ l) z =
    sym (count-first (length l) (λ i. f (get_or (x ∷ l) i z)) ∙ rw (← count-places f l z))
