-- Which change waits for which, by the fields of both; and the test that a change waits for none that is not marked, one
-- turn at a time. Assumes nothing.
use mathlib.Core.Path.{◌≡◌, ap, ◌∙◌}
use mathlib.Core.Bool.{Bool, true, false, not, ◌&&◌, ◌||◌}
use mathlib.Core.List.{List}
use Prim.Native.Nat.{ℕ, ◌+◌, ◌-◌, ◌≤◌, ◌<◌}
use native.Mathlib.Omega.{arith}
use lib.Dec.{eqb}
use lib.ListN.{get_or}
use borrow.Author.Tests.{lt-ltb, le-ltb, eq-eqb, ne_eqb}
use Rattle.lists.specs.Arrays.{every}
use Rattle.lists.specs.Kinds.{is_among}
use Rattle.controller.specs.Readiness.{ties, related, waits_for}
use Rattle.controller.specs.declared.Undone.{Undone}
use Rattle.checker.specs.Layout.{listed_from, no_change, change_at, first_changes}
use Rattle.checker.specs.declared.AgreedChange.{AgreedChange}
use Rattle.checker.specs.Marks.{made_in}
use Rattle.checker.proofs.Marking.{among-made}
use Rattle.checker.proofs.Turns.{listed_next, listed_done, listed_begin}

module _ (laid : List AgreedChange) (i j : ℕ) where
  pub waits_not : i ≤ j → waits_for (change_at laid i) (change_at laid j) ≡ false
  waits_not l = rw (le-ltb (j + 1) (i + 1) (omega arith))

  waits_lower : j < i → waits_for (change_at laid i) (change_at laid j) ≡ related (change_at laid i) (change_at laid j)
  waits_lower l = rw (lt-ltb (j + 1) (i + 1) (omega arith))

  pub waits_there : j < i → (get_or laid j no_change).switch ≡ (get_or laid i no_change).switch
      → waits_for (change_at laid i) (change_at laid j) ≡ true
  waits_there l e = waits_lower l ∙ rw (eq-eqb ((get_or laid j no_change).switch) ((get_or laid i no_change).switch) e)

  module _ (l : j < i) (apart : (get_or laid j no_change).switch ≡ (get_or laid i no_change).switch → ⊥) where
    pub waits_first : (get_or laid j no_change).first ≡ (get_or laid i no_change).first
        → waits_for (change_at laid i) (change_at laid j) ≡ eqb ((get_or laid j no_change).flow) ((get_or laid i no_change).flow)
    unfolding ties
    waits_first e =
        waits_lower l
        ∙ rw (
          ne_eqb ((get_or laid j no_change).switch) ((get_or laid i no_change).switch) apart,
          eq-eqb ((get_or laid j no_change).first) ((get_or laid i no_change).first) e,
        )

    pub waits_apart : ((get_or laid j no_change).first ≡ (get_or laid i no_change).first → ⊥)
        → waits_for (change_at laid i) (change_at laid j) ≡ false
    unfolding ties
    waits_apart d =
        waits_lower l
        ∙ rw (
          ne_eqb ((get_or laid j no_change).switch) ((get_or laid i no_change).switch) apart,
          ne_eqb ((get_or laid j no_change).first) ((get_or laid i no_change).first) d,
        )

module _ (laid : List AgreedChange) (marks : List Bool) (k : ℕ) where
  -- the change at place k does not wait for one that is not marked
  abbrev pub is_clear : Undone → Bool
  is_clear v = not (waits_for (change_at laid k) v) || is_among v.number (made_in marks k)

  -- this holds of all changes from a place on
  abbrev pub clear_from : ℕ → Bool
  clear_from j = every is_clear (listed_from (change_at laid) j (k - j))

  pub clear_begin : every is_clear (first_changes laid k) ≡ clear_from 0
  clear_begin = ap (every is_clear) (listed_begin (change_at laid) k)

  clear_next : (j : ℕ) → j < k
      → clear_from j ≡ ((not (waits_for (change_at laid k) (change_at laid j)) || get_or marks j false) && clear_from (j + 1))
  unfolding every
  clear_next j l =
      let e : j + 1 - 1 ≡ j = omega arith in
      ap (every is_clear) (listed_next (change_at laid) j k l)
      ∙ ap (λ (b : Bool). (not (waits_for (change_at laid k) (change_at laid j)) || b) && clear_from (j + 1))
      (among-made marks k (j + 1) (omega arith) (omega arith) ∙ ap (λ (n : ℕ). get_or marks n false) e)

  pub clear_free : (j : ℕ) → j < k → waits_for (change_at laid k) (change_at laid j) ≡ false
      → clear_from j ≡ clear_from (j + 1)
  clear_free j l w = clear_next j l ∙ ap (λ (b : Bool). (not b || get_or marks j false) && clear_from (j + 1)) w

  pub clear_marked : (j : ℕ) → j < k → waits_for (change_at laid k) (change_at laid j) ≡ true → get_or marks j false ≡ true
      → clear_from j ≡ clear_from (j + 1)
  clear_marked j l w m = clear_next j l ∙ (λ i. (not (w i) || m i) && clear_from (j + 1))

  pub clear_missed : (j : ℕ) → j < k → waits_for (change_at laid k) (change_at laid j) ≡ true → get_or marks j false ≡ false
      → clear_from j ≡ false
  clear_missed j l w m = clear_next j l ∙ (λ i. (not (w i) || m i) && clear_from (j + 1))

  pub clear_done : (j : ℕ) → k ≤ j → clear_from j ≡ true
  unfolding every
  clear_done j l = ap (every is_clear) (listed_done (change_at laid) j k l)
