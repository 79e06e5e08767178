-- No turn leaves what it finds, and one more turn is taken after those before it: in general, and for each turn over
-- lent bytes, by what its calls left.
use Rattle.std.proofs.Common.{◌≡◌, ℕ, ◌+◌, ◌%◌, List, set, refl, add-one}
use Rattle.lists.specs.Bytes.{byte_at}
use Rattle.playbook.specs.Reading.{read_whole}
use Rattle.rehearsal.specs.Scripts.{rehearsed}
use Rattle.rehearsal.specs.declared.Printed.{Printed}
use Rattle.timed.specs.Turns.{mixed, turned}
use Rattle.timed.specs.Bytes.{Summed, front, digested, read_mixed, read_once, print_mixed, rehearsed_once}

module _ {A : Type 0} (turn : ℕ → A → A) where
  pub none : (a : A) → a ≡ turned turn 0 a
  unfolding turned
  none a = refl

  pub one_more : (i : ℕ) (a b c : A) → b ≡ turned turn i a → c ≡ turn i b → c ≡ turned turn (i + 1) a
  unfolding turned
  one_more i a b c h e = rw (add-one, e, h)

module _ (start : Summed) (i sum r : ℕ) (m after : List ℕ) where
  pub digest_more : (digest : List ℕ → List ℕ) (d : List ℕ) (f : ℕ) → (m, sum) ≡ turned (digested digest) i start
      → d ≡ digest m → after ≡ set m 0 (byte_at d 0) → f ≡ front d → r ≡ mixed sum f
      → (after, r) ≡ turned (digested digest) (i + 1) start
  digest_more digest d f h is stirred of is-mixed =
      one_more (digested digest) i start (m, sum) (after, r) h (rw (is-mixed, of, stirred, is))

  pub read_more : (place : ℕ) → (m, sum) ≡ turned (read_once place) i start
      → after ≡ set m place (i % 256) → r ≡ read_mixed (read_whole after) sum
      → (after, r) ≡ turned (read_once place) (i + 1) start
  read_more place h stirred is-mixed =
      one_more (read_once place) i start (m, sum) (after, r) h (rw (is-mixed, stirred))

  pub rehearse_more : (input : List ℕ) (p : Printed) → (m, sum) ≡ turned (rehearsed_once input) i start
      → (p, after) ≡ rehearsed input m → r ≡ print_mixed p sum
      → (after, r) ≡ turned (rehearsed_once input) (i + 1) start
  rehearse_more input p h is is-mixed =
      one_more (rehearsed_once input) i start (m, sum) (after, r) h (rw (is-mixed, ← is))
