-- The numbers that a decision gives: as many as the plan has changes, one after another from the next one on, so they
-- rise and stay within the last; and the places of a list of undone changes. Assumes nothing.
use mathlib.Core.Path.{◌≡◌, refl, ap, ◌∙◌}
use mathlib.Core.Bool.{true}
use mathlib.Core.List.{List, [], ◌∷◌, ◌++◌, map-append}
use Prim.Native.Nat.{ℕ, zero, suc, ◌+◌, ◌≤◌, ◌<◌}
use native.Mathlib.Omega.{arith}
use lib.Dec.{ltb}
use lib.ListN.{length, get_or, drop, length-take}
use borrow.Author.Tests.{ltb-true, lt-ltb}
use Rattle.answer.proofs.Bools.{and_join, and_parts}
use Rattle.lists.specs.Arrays.{every}
use Rattle.lists.specs.Rising.{rising_from}
use Rattle.lists.specs.Places.{last_of}
use Rattle.lists.proofs.Padding.{pad-take, pad_unused}
use Rattle.lists.proofs.Passing.{passing-few, passing_pass, every-passing, passing_twice}
use Rattle.lists.proofs.Rising.{rising_lower, rising_append}
use Rattle.lists.proofs.Tails.{every_both}
use Rattle.flow.specs.Rules.{well_formed}
use Rattle.playbook.specs.Storing.{change_ok}
use Rattle.playbook.specs.declared.Change.{Change}
use Rattle.controller.specs.Changes.{empty_undone, undone_empty, undone_in, held_of, numbers_of, is_undone, still_undone}
use Rattle.controller.specs.Changes.{numbered, numbered_from}
use Rattle.controller.specs.States.{undone_ok}
use Rattle.controller.specs.declared.Held.{Held}
use Rattle.controller.specs.declared.Undone.{Undone}
use Rattle.controller.proofs.Within.{fits, fitting}

-- a list of at most 64 in its places: read back, and zero past it
module _ (us : List Undone) (few : length us ≤ 64) where
  pub held_meaning : undone_in (held_of us) ≡ us
  held_meaning = pad-take 64 empty_undone us few

  pub held_unused : every undone_empty (drop (length us) (held_of us).changes) ≡ true
  held_unused = pad_unused undone_empty empty_undone 64 us refl few

pub still_few : (acknowledged : List ℕ) (h : Held) → h.count ≤ 64
    → length (still_undone acknowledged (undone_in h)) ≤ 64
still_few acknowledged h few =
    omega (arith, passing-few (is_undone acknowledged) (undone_in h), length-take h.count h.changes)

-- the changes of a plan that are numbered from one number on
module _ (first : ℕ) where
  pub given-length : (number : ℕ) (cs : List Change) → length (numbered_from first number cs) ≡ length cs
  unfolding numbered_from
  given-length number [] = refl
  given-length number (c ∷ cs) = ap suc (given-length (number + 1) cs)

  -- the change at a place has the number that is so far from the first, and what the plan says of it
  pub given_at : (number : ℕ) (cs : List Change) (i : ℕ) (z : Undone) (y : Change) → i < length cs
      → get_or (numbered_from first number cs) i z ≡ numbered first (number + i) (get_or cs i y)
  unfolding numbered_from
  given_at number [] i z y h = absurd (omega arith)
  given_at number (c ∷ cs) zero z y h = let e : number + 0 ≡ number = omega arith in rw e
  given_at number (c ∷ cs) (suc i) z y h =
      let e : number + suc i ≡ number + 1 + i = omega arith in
      rw e (given_at (number + 1) cs i z y (omega arith))

  -- the numbers rise from the one before the first, and the last of them is that with all counted
  pub given_rising : (last : ℕ) (cs : List Change)
      → rising_from last (numbers_of (numbered_from first (last + 1) cs)) ≡ true
  unfolding numbered_from rising_from
  given_rising last [] = refl
  given_rising last (c ∷ cs) =
      and_join (ltb last (last + 1)) _ (lt-ltb last (last + 1) (omega arith)) (given_rising (last + 1) cs)

  pub given_last : (last : ℕ) (cs : List Change)
      → last_of last (numbers_of (numbered_from first (last + 1) cs)) ≡ last + length cs
  unfolding numbered_from last_of
  given_last last [] = omega arith
  given_last last (c ∷ cs) = given_last (last + 1) cs ∙ omega arith

  -- they fit while nothing is acknowledged yet
  pub given_fits : (number last : ℕ) (cs : List Change) → 1 ≤ first → first ≤ number → number + length cs ≤ last + 1
      → every change_ok cs ≡ true → every (undone_ok [] last) (numbered_from first number cs) ≡ true
  unfolding numbered_from every
  given_fits number last [] one low high h = refl
  given_fits number last (c ∷ cs) one low high h =
      let t = and_parts (change_ok c) (every change_ok cs) h in
      let ok = and_parts (ltb c.switch 16) (well_formed c.rule) t.0 in
      let u = numbered first number c in
      and_join (undone_ok [] last u) _
      (fitting [] last u (record {
        known = ltb-true _ _ ok.0;
        above = omega arith;
        given = omega arith;
        from_1 = one;
        first = low;
        formed = ok.1;
      }))
      (given_fits (number + 1) last cs one (omega arith) (omega arith) t.1)

module _ (acknowledged : List ℕ) (last : ℕ) where
  -- an undone change fits under a higher last number, and under other acknowledged numbers while it is undone
  fits_on : (next : List ℕ) (higher : ℕ) (u : Undone) → last ≤ higher → is_undone next u ≡ true
      → undone_ok acknowledged last u ≡ true → undone_ok next higher u ≡ true
  fits_on next higher u h e ok =
      let f = fits acknowledged last u ok in
      fitting next higher u (record {
        known = f.known;
        above = ltb-true _ _ e;
        given = omega (arith, f.given);
        from_1 = f.from_1;
        first = f.first;
        formed = f.formed;
      })

  pub fits_higher : (higher : ℕ) (us : List Undone) → last ≤ higher → every (undone_ok acknowledged last) us ≡ true
      → every (undone_ok acknowledged higher) us ≡ true
  fits_higher higher us h each =
      every_both (undone_ok acknowledged last) (undone_ok acknowledged last) _
      (λ u ok also. fits_on acknowledged higher u h (lt-ltb _ _ (fits acknowledged last u ok).above) ok) us each each

  pub fits_still : (next : List ℕ) (us : List Undone) → every (undone_ok acknowledged last) us ≡ true
      → every (undone_ok next last) (still_undone next us) ≡ true
  fits_still next us each =
      every_both (is_undone next) (undone_ok acknowledged last) _ (λ u e ok. fits_on next last u (omega arith) e ok) _
      (passing_pass (is_undone next) us) (every-passing (is_undone next) (undone_ok acknowledged last) us each)

  -- the last of their numbers is at most the last given, so numbers that rise from that one may follow
  fits_last : (from : ℕ) (us : List Undone) → from ≤ last → every (undone_ok acknowledged last) us ≡ true
      → last_of from (numbers_of us) ≤ last
  unfolding every last_of
  fits_last from [] h each = h
  fits_last from (u ∷ us) h each =
      let t = and_parts (undone_ok acknowledged last u) (every (undone_ok acknowledged last) us) each in
      fits_last u.number us (fits acknowledged last u t.0).given t.1

  pub rising_on : (us vs : List Undone) → every (undone_ok acknowledged last) us ≡ true
      → rising_from 0 (numbers_of us) ≡ true → rising_from last (numbers_of vs) ≡ true
      → rising_from 0 (numbers_of (us ++ vs)) ≡ true
  rising_on us vs each r s =
      ap (rising_from 0) (map-append _ us vs)
      ∙ rising_append 0 (numbers_of us) (numbers_of vs)
      ∙ and_join (rising_from 0 (numbers_of us)) _ r
      (rising_lower _ last (numbers_of vs) (fits_last 0 us (omega arith) each) s)

-- what is acknowledged next leaves of the changes still undone what it leaves of all
pub still_again : (acknowledged next : List ℕ) (us : List Undone)
    → ((s : ℕ) → get_or acknowledged s 0 ≤ get_or next s 0)
    → still_undone next (still_undone acknowledged us) ≡ still_undone next us
still_again acknowledged next us grows =
    passing_twice (is_undone next) (is_undone acknowledged)
    (λ u e. let above = ltb-true (get_or next u.switch 0) u.number e in
    lt-ltb (get_or acknowledged u.switch 0) u.number (omega (arith, grows u.switch))) us
