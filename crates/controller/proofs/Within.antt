-- A controller within its limits: the parts of question 20 and of an undone change's own test, and each whole from its
-- parts. Assumes nothing.
use mathlib.Core.Path.{◌≡◌}
use mathlib.Core.Bool.{Bool, true, false, and-false}
use mathlib.Core.List.{List}
use Prim.Native.Nat.{ℕ, ◌≤◌, ◌<◌}
use lib.Dec.{ltb, leb}
use lib.ListN.{length, get_or, drop}
use borrow.Author.Tests.{ltb-true, leb-true, lt-ltb, le-leb}
use Rattle.answer.proofs.Bools.{by_bool, tf}
use Rattle.lists.specs.Arrays.{every}
use Rattle.lists.specs.Rising.{rising_from}
use Rattle.lists.proofs.Tails.{every_at}
use Rattle.flow.specs.Rules.{well_formed}
use Rattle.playbook.specs.Storing.{stored_ok}
use Rattle.controller.specs.Changes.{undone_empty, undone_of, numbers_of}
use Rattle.controller.specs.States.{undone_ok, controller_ok}
use Rattle.controller.specs.declared.Controller.{Controller}
use Rattle.controller.specs.declared.Undone.{Undone}

pub record Within (c : Controller) : Type 0 where
  pub some : 1 ≤ c.n
  pub few : c.n ≤ 16
  pub known : c.id < c.n
  pub count : c.progress.undone.count ≤ 64
  pub each : every (undone_ok c.progress.acknowledged c.progress.last) (undone_of c) ≡ true
  pub rising : rising_from 0 (numbers_of (undone_of c)) ≡ true
  pub unused : every undone_empty (drop c.progress.undone.count c.progress.undone.changes) ≡ true
  pub stored : stored_ok c.playbook ≡ true

pub within : (c : Controller) → controller_ok c ≡ true → Within c
unfolding controller_ok
within c h =
    let part : (t : Bool) → (t ≡ false → controller_ok c ≡ false) → t ≡ true =
    λ t f. by_bool t (λ e. e) (λ e. tf h (f e)) in
    record {
      some = leb-true _ _ (part (leb 1 c.n) (λ e. rw e));
      few = leb-true _ _ (part (leb c.n 16) (λ e. rw (e, and-false)));
      known = ltb-true _ _ (part (ltb c.id c.n) (λ e. rw (e, and-false)));
      count = leb-true _ _ (part (leb c.progress.undone.count 64) (λ e. rw (e, and-false)));
      each = part _ (λ e. rw (e, and-false));
      rising = part _ (λ e. rw (e, and-false));
      unused = part _ (λ e. rw (e, and-false));
      stored = part (stored_ok c.playbook) (λ e. rw (e, and-false));
    }

pub obeys : (c : Controller) → Within c → controller_ok c ≡ true
unfolding controller_ok
obeys c w =
    rw (
      le-leb _ _ w.some,
      le-leb _ _ w.few,
      lt-ltb _ _ w.known,
      le-leb _ _ w.count,
      w.each,
      w.rising,
      w.unused,
      w.stored,
    )

-- one undone change, by the acknowledged numbers and the last number given
pub record Fits (acknowledged : List ℕ) (last : ℕ) (u : Undone) : Type 0 where
  pub known : u.switch < 16
  pub above : get_or acknowledged u.switch 0 < u.number
  pub given : u.number ≤ last
  pub from_1 : 1 ≤ u.first
  pub first : u.first ≤ u.number
  pub formed : well_formed u.rule ≡ true

module _ (acknowledged : List ℕ) (last : ℕ) (u : Undone) where
  pub fits : undone_ok acknowledged last u ≡ true → Fits acknowledged last u
  fits h =
      let part : (t : Bool) → (t ≡ false → undone_ok acknowledged last u ≡ false) → t ≡ true =
      λ t f. by_bool t (λ e. e) (λ e. tf h (f e)) in
      record {
        known = ltb-true _ _ (part (ltb u.switch 16) (λ e. rw e));
        above = ltb-true _ _ (part (ltb (get_or acknowledged u.switch 0) u.number) (λ e. rw (e, and-false)));
        given = leb-true _ _ (part (leb u.number last) (λ e. rw (e, and-false)));
        from_1 = leb-true _ _ (part (leb 1 u.first) (λ e. rw (e, and-false)));
        first = leb-true _ _ (part (leb u.first u.number) (λ e. rw (e, and-false)));
        formed = part (well_formed u.rule) (λ e. rw (e, and-false));
      }

  pub fitting : Fits acknowledged last u → undone_ok acknowledged last u ≡ true
  fitting f =
      rw (
        lt-ltb _ _ f.known,
        lt-ltb _ _ f.above,
        le-leb _ _ f.given,
        le-leb _ _ f.from_1,
        le-leb _ _ f.first,
        f.formed,
      )

-- each undone change of a controller within its limits
pub held_fits : (c : Controller) → Within c → (i : ℕ) (z : Undone) → i < length (undone_of c)
    → Fits c.progress.acknowledged c.progress.last (get_or (undone_of c) i z)
held_fits c w i z h = fits _ _ _ (every_at _ (undone_of c) i z w.each h)
