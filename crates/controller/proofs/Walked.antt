-- The walk over the undone changes that asks of each whether it is within its limits and its number above the one
-- before: a turn, the end, and what the walk decides of question 20. Assumes nothing.
use mathlib.Core.Path.{◌≡◌, ap, ◌∙◌}
use mathlib.Core.Bool.{Bool, true, ◌&&◌, and-false}
use mathlib.Core.List.{List}
use Prim.Native.Nat.{ℕ, ◌+◌, ◌≤◌, ◌<◌}
use lib.Dec.{ltb}
use lib.ListN.{length, drop, get_or, drop_of_length-le}
use Rattle.answer.proofs.Bools.{by_bool}
use Rattle.lists.specs.Arrays.{every}
use Rattle.lists.specs.Rising.{rising_from}
use Rattle.lists.proofs.Stores.{rest}
use Rattle.controller.specs.Changes.{numbers_of}
use Rattle.controller.specs.States.{undone_ok}
use Rattle.controller.specs.declared.Undone.{Undone}

-- both tests taken at one turn, of the change there and of the rest
swap : (e es r rs : Bool) → ((e && es) && (r && rs)) ≡ ((e && r) && (es && rs))
swap e es r rs =
    by_bool e (λ y. by_bool r (λ z. rw (y, z)) (λ z. rw (y, z, and-false))) (λ y. rw y)

module _ (acknowledged : List ℕ) (last : ℕ) where
  -- whether undone changes are within their limits, and their numbers rise from one on
  abbrev pub walked : ℕ → List Undone → Bool
  walked before us = every (undone_ok acknowledged last) us && rising_from before (numbers_of us)

  module _ (us : List Undone) (i before : ℕ) where
    pub walk_turn : (z : Undone) → i < length us
        → let u = get_or us i z in
        walked before (drop i us) ≡ ((undone_ok acknowledged last u && ltb before u.number) && walked u.number (drop (i + 1) us))
    unfolding every rising_from
    walk_turn z h =
        let u = get_or us i z in
        let later = drop (i + 1) us in
        ap (walked before) (rest us i z h)
        ∙ swap (undone_ok acknowledged last u) (every (undone_ok acknowledged last) later) (ltb before u.number)
        (rising_from u.number (numbers_of later))

    pub walk_end : length us ≤ i → walked before (drop i us) ≡ true
    unfolding every rising_from
    walk_end h = ap (walked before) (drop_of_length-le us {i = i} h)
