-- The key stores made of the pairs' keys: how long they are, and which key lies where. Assumes nothing.
use mathlib.Core.Path.{◌≡◌, refl, sym, ap, ◌∙◌}
use mathlib.Core.List.{List}
use Prim.Native.Nat.{ℕ, zero, suc, ◌*◌, ◌≤◌, ◌<◌}
use native.Mathlib.Omega.{arith}
use lib.ListN.{length, take, drop, length-append, length-drop}
use lib.Seq.{take_all, take-append-le, drop-append-le, drop_at}
use Rattle.answer.proofs.Bools.{by_eq}
use Rattle.message.specs.Keys.{key_length, key_at, joined}

module _ (key : ℕ → List ℕ) where
  -- the first n of them have the length of a key
  abbrev pub Long : ℕ → Type 0
  Long n = (i : ℕ) → i < n → length (key i) ≡ key_length

  before : (n : ℕ) → Long (suc n) → Long n
  before n long i l = long i (omega arith)

  pub joined_length : (n : ℕ) → Long n → length (joined key n) ≡ key_length * n
  unfolding joined
  joined_length zero long = refl
  joined_length (suc n) long =
      length-append (joined key n) (key n) ∙ omega (arith, joined_length n (before n long), long n (omega arith))

  pub joined_at : (n : ℕ) → Long n → (i : ℕ) → i < n → key_at (joined key n) i ≡ key i
  unfolding joined
  joined_at zero long i l = absurd (omega arith)
  joined_at (suc n) long i l =
      let all = joined_length n (before n long) in
      by_eq i n
      (λ e.
      ap (take key_length) (drop_at (joined key n) (key n) (key_length * i) (omega arith))
      ∙ take_all key_length (key n) (omega (arith, long n (omega arith))) ∙ ap key (sym e))
      (λ other.
      let inside : key_length * i ≤ length (joined key n) = omega arith in
      let left : key_length ≤ length (drop (key_length * i) (joined key n)) = rw length-drop (omega arith) in
      ap (take key_length) (drop-append-le (key_length * i) (joined key n) (key n) inside)
      ∙ take-append-le key_length (drop (key_length * i) (joined key n)) (key n) left
      ∙ joined_at n (before n long) i (omega arith))
