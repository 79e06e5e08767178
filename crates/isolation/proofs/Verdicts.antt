-- Laws of verdicts. A check that takes one thing after another is fine if each of them was fine with some budget, and
-- fails if one of them failed so. Assumes nothing.
use mathlib.Core.Path.{◌≡◌, refl, ap, ◌∙◌}
use mathlib.Core.Bool.{Bool, true, false}
use mathlib.Core.List.Memᴰ
use mathlib.Core.List.{List, [], ◌∷◌, Memᴰ}
use mathlib.Core.Logic.{◌⊎◌, inl, inr, ⊎_elim}
use Prim.Native.Nat.{ℕ, zero, suc}
use native.Mathlib.Omega.{arith}
use Rattle.answer.specs.Ask.{pick}
use Rattle.answer.proofs.Bools.{tf}
use Rattle.isolation.specs.Check.{Failure, Verdict, fine, fails, undecided, and_then, in_turn, tested}

-- the three kinds of verdict are different
pub undecided-fine : {C : Type 0} (b : ℕ) → undecided ≡ fine b → C
undecided-fine b e = let z : ◌≡◌ {A = ℕ} 0 1 = cc in absurd (omega arith)

pub fails-fine : {C : Type 0} (f : Failure) (b : ℕ) → fails f ≡ fine b → C
fails-fine f b e = let z : ◌≡◌ {A = ℕ} 0 1 = cc in absurd (omega arith)

pub fine-fails : {C : Type 0} (b : ℕ) (f : Failure) → fine b ≡ fails f → C
fine-fails b f e = let z : ◌≡◌ {A = ℕ} 0 1 = cc in absurd (omega arith)

undecided-fails : {C : Type 0} (f : Failure) → undecided ≡ fails f → C
undecided-fails f e = let z : ◌≡◌ {A = ℕ} 0 1 = cc in absurd (omega arith)

-- the verdict chosen by a test
pub chosen : (b : Bool) (x y : Verdict) {z : Verdict} → b ≡ true → pick b x y ≡ z → x ≡ z
chosen true x y e h = h
chosen false x y e h = tf e refl

pub other : (b : Bool) (x y : Verdict) {z : Verdict} → b ≡ false → pick b x y ≡ z → y ≡ z
other true x y e h = tf refl e
other false x y e h = h

-- one state tested
pub tested-fine : (good : Bool) (f : Failure) (b c : ℕ) → tested good f b ≡ fine c → good ≡ true
tested-fine good f zero c e = undecided-fine c e
tested-fine true f (suc b) c e = refl
tested-fine false f (suc b) c e = fails-fine f c e

pub tested-fails : (good : Bool) (f found : Failure) (b : ℕ) → tested good f b ≡ fails found
    → (good ≡ false) × (f ≡ found)
tested-fails good f found zero e = undecided-fails found e
tested-fails true f found (suc b) e = fine-fails b found e
tested-fails false f found (suc b) e = (refl, cc)

-- two, one after the other
pub then_fine : (v : Verdict) (next : ℕ → Verdict) (c : ℕ) → and_then v next ≡ fine c
    → (b : ℕ) × (v ≡ fine b) × (next b ≡ fine c)
then_fine (fine b) next c e = (b, refl, e)
then_fine (fails f) next c e = fails-fine f c e
then_fine undecided next c e = undecided-fine c e

pub then_fails : (v : Verdict) (next : ℕ → Verdict) (found : Failure) → and_then v next ≡ fails found
    → (v ≡ fails found) ⊎ ((b : ℕ) × (next b ≡ fails found))
then_fails (fine b) next found e = inr (b, e)
then_fails (fails f) next found e = inl e
then_fails undecided next found e = undecided-fails found e

module _ {A : Type 0} (f : A → ℕ → Verdict) where
  -- every member was fine with some budget
  pub turn_fine : (l : List A) (b c : ℕ) → in_turn f l b ≡ fine c → (x : A) → Memᴰ x l
      → (y : ℕ) × (z : ℕ) × (f x y ≡ fine z)
  unfolding in_turn
  turn_fine [] b c e x m = absurd (Memᴰ.not-nil m)
  turn_fine (a ∷ l) b c e x m =
      let both = then_fine (f a b) _ c e in
      ⊎_elim
      (λ q. (b, both.0, ap (λ (w : A). f w b) q ∙ both.1))
      (λ q. turn_fine l both.0 c both.2 x q)
      (Memᴰ.cases_cons m)

  -- some member failed so
  pub turn_fails : (l : List A) (b : ℕ) (found : Failure) → in_turn f l b ≡ fails found
      → (x : A) × Memᴰ x l × ((y : ℕ) × (f x y ≡ fails found))
  unfolding in_turn
  turn_fails [] b found e = fine-fails b found e
  turn_fails (a ∷ l) b found e =
      ⊎_elim
      (λ q. (a, Memᴰ.head refl, (b, q)))
      (λ q. let r = turn_fails l q.0 found q.1 in (r.0, Memᴰ.tail r.1, r.2))
      (then_fails (f a b) _ found e)
