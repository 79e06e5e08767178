-- Numbers of which the ideal controller refuses none may be made one after another: what it asks of a number is what
-- the protocol asks of the next one. The converse is domain's fed_lawful.
use mathlib.Core.Path.{◌≡◌, refl, ap}
use mathlib.Core.Bool.{true, not, ◌&&◌, ◌||◌}
use mathlib.Core.List.{List, [], ◌∷◌}
use Prim.Native.Nat.{ℕ, ◌-◌}
use native.Mathlib.Omega.{arith}
use lib.Dec.{leb, ltb}
use lib.ListN.{length}
use borrow.Author.Tests.{ltb-true, leb-true, not-true}
use Rattle.answer.proofs.Bools.{by_bool, by_or, tf, and_join, and_parts}
use Rattle.lists.specs.Kinds.{is_among}
use Rattle.lists.proofs.Tails.{every_at}
use Rattle.flow.specs.declared.Rule.{Rule}
use Rattle.flow.specs.declared.Table.{Table}
use Rattle.controller.specs.Changes.{empty_undone}
use Rattle.controller.specs.Readiness.{related, waits_for}
use Rattle.protocol.proofs.Ends as protocol
use Rattle.protocol.proofs.Worlds.{Agreed}
use Rattle.protocol.proofs.Claims.{Next, Lawful}
use Rattle.domain.specs.Settings.{Setting, Valid}
use Rattle.domain.specs.Ideals.{Ideal, is_agreed, change_of, skips_none, accepts, fed}
use Rattle.domain.specs.Claim.{agreed}
use Rattle.domain.proofs.View.{domain_of}
use Rattle.domain.proofs.Agreed.{change-fine}
use Rattle.domain.proofs.Reached.{ranged}

module _ (S : Setting) (v : Valid S) where
  abbrev D : protocol.Domain Rule Table
  D = domain_of S

  -- a number that the ideal controller accepts may be made next
  accepted-next : (i : Ideal) (k : ℕ) → accepts (agreed S) i k ≡ true → Next D k i.made
  accepted-next i k e =
      let u = change_of (agreed S) k in
      let both = and_parts (is_agreed (agreed S) k && not (is_among k i.made)) (skips_none (agreed S) i.made u) e in
      let first = and_parts (is_agreed (agreed S) k) (not (is_among k i.made)) both.0 in
      let range = and_parts (leb 1 k) (leb k (length (agreed S))) first.0 in
      let own : Agreed D k = (leb-true 1 k range.0, leb-true _ _ range.1) in
      record {
        agreed = own;
        new = not-true _ first.1;
        none_skipped = λ j waits.
            let parts = and_parts (ltb 0 j && ltb j k) _ waits in
            let order = and_parts (ltb 0 j) (ltb j k) parts.0 in
            let low = ltb-true j k order.1 in
            let other : Agreed D j = (ltb-true 0 j order.0, omega (arith, low, own.1)) in
            let w = change_of (agreed S) j in
            let number = (change-fine S v (ranged S v) j other).numbered in
            let after : waits_for u w ≡ true =
            and_join (ltb w.number u.number) (related u w)
            (rw (number, (change-fine S v (ranged S v) k own).numbered) order.1) parts.1 in
            by_or (not (waits_for u w)) (is_among w.number i.made)
            (every_at (λ x. not (waits_for u x) || is_among x.number i.made) (agreed S) (j - 1) empty_undone
            both.1 (omega (arith, other.0, other.1)))
            (λ no. tf after (not-true _ no)) (λ there. rw number at there);
      }

  -- what was refused stays refused
  some-refused : {C : Type 0} {k : ℕ} {l : List ℕ} → k ∷ l ≡ [] → C
  some-refused e = let z : ◌≡◌ {A = ℕ} 0 1 = cc in absurd (omega arith)

  made_lawful : (ms : List ℕ) → (fed (agreed S) ms).refused ≡ [] → Lawful D ms × ((fed (agreed S) ms).made ≡ ms)
  unfolding fed
  made_lawful [] h = (tt, refl)
  made_lawful (k ∷ ms) h =
      by_bool (accepts (agreed S) (fed (agreed S) ms) k)
      (λ e.
      let rest = made_lawful ms (rw e at h) in
      rw e ((rw rest.1 at (accepted-next (fed (agreed S) ms) k e), rest.0), ap (λ (l : List ℕ). k ∷ l) rest.1))
      (λ e. some-refused (rw e at h))

  pub unrefused_lawful : (ms : List ℕ) → (fed (agreed S) ms).refused ≡ [] → Lawful D ms
  unrefused_lawful ms h = (made_lawful ms h).0
