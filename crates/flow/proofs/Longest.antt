-- What a lookup finds, over all entries: nothing where no entry covers the address, else the port of a covering entry,
-- and no covering entry is longer. By induction from the last entry, as the lookup goes. Assumes nothing.
use mathlib.Core.Path.{◌≡◌, refl, sym, ap, ◌∙◌}
use mathlib.Core.List.{List, [], ◌∷◌}
use mathlib.Core.Bool.{true, false}
use Prim.Native.Nat.{ℕ, zero, suc, ◌≤◌, ◌<◌}
use native.Mathlib.Omega.{arith}
use lib.Dec.{leb}
use borrow.Author.Tests.{leb-true, leb-false, le-leb}
use lib.ListN.{length}
use Rattle.answer.proofs.Bools.{by_bool, tf}
use Rattle.flow.specs.Rules.{entry_key}
use Rattle.flow.specs.Lookups.{covers, Best, better, best_of, lookup_of}
use Rattle.flow.specs.declared.Entry.{Entry}
use Rattle.std.specs.Prelude.{Option, Some, None}
use Rattle.flow.proofs.Keys.{entry_at}

-- a port is not nothing
pub some-port : {p : ℕ} → Some p ≡ None → ⊥
some-port h = let z : ◌≡◌ {A = ℕ} 0 1 = cc in omega arith

-- a statement of every entry
abbrev pub Each : (Entry → Type 0) → List Entry → Type 0
Each P es = (i : ℕ) → i < length es → P (entry_at es i)

-- no entry covers the address
abbrev pub Uncovered : ℕ → List Entry → Type 0
Uncovered address es = Each (λ e. covers (entry_key e) address ≡ false) es

-- no entry that covers the address is longer than n
abbrev pub NoLonger : ℕ → ℕ → List Entry → Type 0
NoLonger address n es = Each (λ e. covers (entry_key e) address ≡ true → e.length ≤ n) es

-- the port of an entry that covers the address, and no covering entry is longer
pub record Longest (address : ℕ) (es : List Entry) (f : Option ℕ) : Type 0 where
  pub place : ℕ
  pub inside : place < length es
  pub covering : covers (entry_key (entry_at es place)) address ≡ true
  pub port : f ≡ Some (entry_at es place).port
  pub longest : NoLonger address (entry_at es place).length es

-- the one or the other, of what was found with its length
pub data Looked (address : ℕ) (es : List Entry) (b : Best) : Type 0 where
  uncovered : b ≡ (None, 0) → Uncovered address es → Looked address es b
  covered : (w : Longest address es b.0) → b.1 ≡ (entry_at es w.place).length → Looked address es b

module _ (address : ℕ) (e : Entry) (es : List Entry) where
  uncovered_more : covers (entry_key e) address ≡ false → Uncovered address es → Uncovered address (e ∷ es)
  uncovered_more c u zero h = c
  uncovered_more c u (suc i) h = u i (omega arith)

  no_longer_more : (n : ℕ) → (covers (entry_key e) address ≡ true → e.length ≤ n) → NoLonger address n es
      → NoLonger address n (e ∷ es)
  no_longer_more n l u zero h = l
  no_longer_more n l u (suc i) h = u i (omega arith)

  -- the longest is the first entry, or another
  here : covers (entry_key e) address ≡ true → NoLonger address e.length es
      → Looked address (e ∷ es) (Some e.port, e.length)
  here c l =
      covered (record {
        place = 0;
        inside = omega arith;
        covering = c;
        port = refl;
        longest = no_longer_more e.length (λ d. omega arith) l;
      }) refl

  there : (b : Best) → (covers (entry_key e) address ≡ true → e.length ≤ b.1)
      → (w : Longest address es b.0) → b.1 ≡ (entry_at es w.place).length → Looked address (e ∷ es) b
  there b l w n =
      covered (record {
        place = suc w.place;
        inside = omega (arith, w.inside);
        covering = w.covering;
        port = w.port;
        longest = no_longer_more _ (λ d. omega (arith, l d)) w.longest;
      }) n

  past_first : (b : Best) → covers (entry_key e) address ≡ false → Looked address es b → Looked address (e ∷ es) b
  past_first b c (uncovered n u) = uncovered n (uncovered_more c u)
  past_first b c (covered w n) = there b (λ d. tf d c) w n

  at_first : (b : Best) → covers (entry_key e) address ≡ true → Looked address es b
      → Looked address (e ∷ es) (better true e b)
  at_first b c (uncovered n u) =
      rw (le-leb b.1 e.length (omega (arith, ap (λ (x : Best). x.1) n))) (here c (λ i h d. tf d (u i h)))
  at_first b c (covered w n) =
      by_bool (leb b.1 e.length)
      (λ l. rw l (here c (λ i h d. omega (arith, leb-true b.1 e.length l, w.longest i h d))))
      (λ l. rw l (there b (λ d. omega (arith, leb-false b.1 e.length l)) w n))

pub looked : (address : ℕ) (es : List Entry) → Looked address es (best_of address es)
unfolding best_of
looked address [] = uncovered refl (λ i h. absurd (omega arith))
looked address (e ∷ es) =
    by_bool (covers (entry_key e) address)
    (λ c. rw c (at_first address e es (best_of address es) c (looked address es)))
    (λ c. rw c (past_first address e es (best_of address es) c (looked address es)))

-- nothing is found exactly if no entry covers the address
pub lookup_nothing : (address : ℕ) (es : List Entry) → lookup_of address es ≡ None → Uncovered address es
lookup_nothing address es = go (looked address es)
  where
    go : {b : Best} → Looked address es b → b.0 ≡ None → Uncovered address es
    go (uncovered n u) h = u
    go (covered w n) h = absurd (some-port (sym w.port ∙ h))

pub nothing_lookup : (address : ℕ) (es : List Entry) → Uncovered address es → lookup_of address es ≡ None
nothing_lookup address es u = go (looked address es)
  where
    go : {b : Best} → Looked address es b → b.0 ≡ None
    go (uncovered n v) = ap (λ (x : Best). x.0) n
    go (covered w n) = tf w.covering (u w.place w.inside)

-- else the port of an entry that covers it, and no covering entry is longer
pub lookup_port : (address : ℕ) (es : List Entry) → (lookup_of address es ≡ None → ⊥)
    → Longest address es (lookup_of address es)
lookup_port address es = go (looked address es)
  where
    go : {b : Best} → Looked address es b → (b.0 ≡ None → ⊥) → Longest address es b.0
    go (uncovered n u) h = absurd (h (ap (λ (x : Best). x.0) n))
    go (covered w n) h = w
