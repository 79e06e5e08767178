-- What a lookup finds when one entry more stands before the others. Assumes nothing.
use mathlib.Core.Path.{◌≡◌}
use mathlib.Core.List.{List, [], ◌∷◌, ◌++◌, map, reverse}
use mathlib.Core.Bool.{Bool, true, false}
use Prim.Native.Nat.{ℕ}
use native.Mathlib.Omega.{arith}
use borrow.Author.Tests.{le-leb}
use lib.Dec.{leb}
use Rattle.std.specs.Prelude.{Option, Some, None}
use Rattle.std.proofs.Common.{Bor}
use Rattle.std.proofs.lemmas.List.{map-append, reverse-append}
use Rattle.flow.specs.Rules.{entry_key}
use Rattle.flow.specs.Lookups.{covers, Best, best_of}
use Rattle.flow.specs.declared.Entry.{Entry}

-- what an entry gives, and none
abbrev pub held : Option Entry → Best
held None = (None, 0)
held (Some e) = (Some e.port, e.length)

-- whether an entry beats the one held
abbrev pub beats : Entry → Option Entry → Bool
beats e None = true
beats e (Some b) = leb b.length e.length

module _ (address : ℕ) (e : Entry) (es : List Entry) where
  pub taken : (o : Option Entry) → best_of address es ≡ held o → covers (entry_key e) address ≡ true → beats e o ≡ true
      → best_of address (e ∷ es) ≡ held (Some e)
  unfolding best_of
  taken None h c l = rw (c, h, le-leb 0 e.length (omega arith))
  taken (Some b) h c l = rw (c, h, l)

  pub left : (o : Option Entry) → best_of address es ≡ held o → covers (entry_key e) address ≡ true → beats e o ≡ false
      → best_of address (e ∷ es) ≡ held o
  unfolding best_of
  left None h c l = absurd (let z : ◌≡◌ {A = Bool} true false = l in cc)
  left (Some b) h c l = rw (c, h, l)

  pub passed : (o : Option Entry) → best_of address es ≡ held o → covers (entry_key e) address ≡ false
      → best_of address (e ∷ es) ≡ held o
  unfolding best_of
  passed o h c = rw (c, h)

-- what goes from the last to the first: the next stands before those so far
pub turned : (xs : List (Bor Entry)) (x : Bor Entry)
    → reverse (map (λ (y : Bor Entry). y.now) (xs ++ x ∷ [])) ≡ x.now ∷ reverse (map (λ (y : Bor Entry). y.now) xs)
turned xs x = rw (map-append, reverse-append)
