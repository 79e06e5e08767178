-- The agreed changes of a setting as the protocol's: each number is that of its change, so a change waits for what is
-- lower and related, and the laws that the protocol asks of its domain hold. Assumes nothing.
use mathlib.Core.Path.{◌≡◌, refl, sym, ap, ◌∙◌}
use mathlib.Core.Bool.{true, ◌&&◌}
use mathlib.Core.List.{List, ◌++◌}
use Prim.Native.Nat.{ℕ, ◌+◌, ◌-◌, ◌≤◌, ◌<◌}
use native.Mathlib.Omega.{arith}
use lib.Dec.{ltb}
use lib.ListN.{length, get_or, length-append, get_or-append}
use borrow.Author.Tests.{ltb-true, lt-ltb, eq-eqb}
use Rattle.answer.proofs.Bools.{and_join, and_parts, or_left}
use Rattle.flow.specs.declared.Table.{Table}
use Rattle.flow.proofs.Actions.{rule_sound, rule_mine}
use Rattle.playbook.specs.Printing.{InRange}
use Rattle.playbook.specs.Storing.{stored_ok}
use Rattle.playbook.proofs.Kept.{read-stored}
use Rattle.controller.specs.Changes.{empty_undone}
use Rattle.controller.specs.Readiness.{same_switch}
use Rattle.controller.specs.declared.Undone.{Undone}
use Rattle.protocol.proofs.Worlds.{Trusted, Agreed}
use Rattle.protocol.proofs.Claims.{Laws}
use Rattle.protocol.proofs.Families.{count-every}
use Rattle.domain.specs.Settings.{Decision, Setting, Valid, playbook}
use Rattle.domain.specs.Ideals.{change_of}
use Rattle.domain.specs.Claim.{changes_of, agreed}
use Rattle.domain.proofs.Courses.{Fine, agreed-fine, agreed_adds}
use Rattle.domain.proofs.View.{domain_of}

-- the changes of a beginning of the agreed list, and those behind them
module _ (S : Setting) (ds rest : List Decision) (e : S.agreed ≡ ds ++ rest) where
  beginning_of : (more : List Undone) × (agreed S ≡ changes_of S ds ++ more)
  beginning_of =
      let more = agreed_adds (playbook S) ds rest in (more.0, ap (changes_of S) e ∙ more.1)

  pub beginning-few : length (changes_of S ds) ≤ length (agreed S)
  beginning-few =
      omega (arith, ap length beginning_of.1, length-append (changes_of S ds) beginning_of.0)

-- a quorum is more than the strays, and no more than the others
pub all_trusted : (S : Setting) → Valid S → (t : Table) → Trusted (domain_of S) t
all_trusted S ok t = record {
  too_few = omega (arith, ok.straying);
  enough = omega (arith, ok.straying, ok.some, count-every S.n (λ c. true) (λ i l. refl));
}

module _ (S : Setting) (ok : Valid S) (ranged : InRange (playbook S)) where
  pub stored : stored_ok (playbook S) ≡ true
  stored = read-stored S.book

  -- each agreed change, by its number
  pub change-fine : (k : ℕ) → Agreed (domain_of S) k → Fine (playbook S) k (change_of (agreed S) k)
  change-fine k g =
      let e : k - 1 + 1 ≡ k = omega (arith, g.0) in
      rw e at (agreed-fine (playbook S) stored ranged S.agreed (k - 1) (omega (arith, g.0, g.1)))

  pub laws : Laws (domain_of S)
  laws = record {
    trusted = all_trusted S ok (domain_of S).empty;
    none_joins = λ x t c m. m;
    lower = λ k j e.
        let t = and_parts (ltb 0 j && ltb j k) _ e in
        let u = and_parts (ltb 0 j) (ltb j k) t.0 in
        (ltb-true _ _ u.0, ltb-true _ _ u.1);
    in_turn = λ k j g positive low e.
        and_join _ _ (and_join _ _ (lt-ltb 0 j positive) (lt-ltb j k low))
        (or_left (same_switch (change_of (agreed S) k) (change_of (agreed S) j)) _ (eq-eqb _ _ e));
    same_sound = rule_sound;
    same_mine = rule_mine;
  }

  -- the changes of a beginning of the agreed list are the agreed ones with their numbers
  pub beginning_is : (ds rest : List Decision) → S.agreed ≡ ds ++ rest → (i : ℕ)
      → i < length (changes_of S ds)
      → (get_or (changes_of S ds) i empty_undone ≡ change_of (agreed S) (i + 1)) × (i < length (agreed S))
  beginning_is ds rest e i l =
      let all = beginning_of S ds rest e in
      let place : i + 1 - 1 ≡ i = omega arith in (
        rw (place, all.1) (sym (get_or-append (changes_of S ds) all.0 empty_undone i l)),
        omega (arith, beginning-few S ds rest e),
      )
