-- What it means that the ideal controller refused none. Assumes nothing.
use mathlib.Core.Path.{◌≡◌, refl, ◌∙◌}
use mathlib.Core.Bool.{true, false, not, ◌&&◌, ◌||◌}
use mathlib.Core.List.{List, [], ◌∷◌, Memᴰ}
use Prim.Native.Nat.{ℕ, ◌+◌, ◌-◌, ◌≤◌, ◌<◌}
use native.Mathlib.Omega.{arith}
use lib.Dec.{leb, eqb}
use lib.ListN.{length, get_or}
use borrow.Author.Tests.{leb-true, eqb-true, not-true}
use Rattle.answer.proofs.Bools.{by_bool, by_or, tf, and_parts, or_right}
use Rattle.lists.specs.Kinds.{among, is_among}
use Rattle.lists.proofs.Tails.{every_at}
use Rattle.flow.specs.Changes.{changed}
use Rattle.controller.specs.Changes.{empty_undone}
use Rattle.controller.specs.Readiness.{waits_for}
use Rattle.controller.specs.declared.Undone.{Undone}
use Rattle.protocol.specs.Families.{upd}
use Rattle.domain.specs.Ideals.{is_agreed, change_of, accepts, fed}
use Rattle.domain.proofs.Numbers.{at_member, member_at}

module _ (us : List Undone) where
  -- one more number that it did not refuse
  pub record Accepted (k : ℕ) (ks : List ℕ) : Type 0 where
    pub before : (fed us ks).refused ≡ []
    pub low : 1 ≤ k
    pub high : k ≤ length us
    pub new : is_among k ks ≡ false
    pub none_skipped : (v : Undone) → Memᴰ v us → waits_for (change_of us k) v ≡ true → is_among v.number ks ≡ true
    pub tables : (fed us (k ∷ ks)).tables
        ≡ upd (fed us ks).tables (change_of us k).switch
        (changed (change_of us k).rule ((fed us ks).tables (change_of us k).switch))

  no_cons : {C : Type 0} (k : ℕ) (l : List ℕ) → k ∷ l ≡ [] → C
  no_cons k l e = let z : ◌≡◌ {A = ℕ} 0 1 = cc in absurd (omega arith)

  accepted_so : (ks : List ℕ) (k : ℕ) → (fed us (k ∷ ks)).refused ≡ [] → accepts us (fed us ks) k ≡ true
  unfolding fed
  accepted_so ks k h =
      by_bool (accepts us (fed us ks) k) (λ e. e) (λ e. no_cons k (fed us ks).refused (rw e at h))

  one_less : (ks : List ℕ) (k : ℕ) → (fed us (k ∷ ks)).refused ≡ [] → (fed us ks).refused ≡ []
  unfolding fed
  one_less ks k h = let e = accepted_so ks k h in rw e at h

  -- all were made
  pub fed-made : (ks : List ℕ) → (fed us ks).refused ≡ [] → (fed us ks).made ≡ ks
  unfolding fed
  fed-made [] h = refl
  fed-made (k ∷ ks) h =
      let e = accepted_so ks k h in rw (e, fed-made ks (one_less ks k h))

  pub accepted : (ks : List ℕ) (k : ℕ) → (fed us (k ∷ ks)).refused ≡ [] → Accepted k ks
  accepted ks k h =
      let e = accepted_so ks k h in
      let less = one_less ks k h in
      let i = fed us ks in
      let made = fed-made ks less in
      let t = and_parts (is_agreed us k && not (is_among k i.made)) _ e in
      let u = and_parts (is_agreed us k) _ t.0 in
      let w = and_parts (leb 1 k) (leb k (length us)) u.0 in
      record {
        before = less;
        low = leb-true 1 k w.0;
        high = leb-true k (length us) w.1;
        new = rw made at (not-true (is_among k i.made) u.1);
        none_skipped = λ v m waits.
            let at = member_at us v empty_undone m in
            let one = every_at (λ x. not (waits_for (change_of us k) x) || is_among x.number i.made)
            us at.0 empty_undone t.1 at.1 in
            let both = rw (at.2, waits, made) at one in both;
        tables = unfold fed in (rw e);
      }

  -- the change of a number is one of them
  pub member : (k : ℕ) → 1 ≤ k → k ≤ length us → Memᴰ (change_of us k) us
  member k low high = at_member us (k - 1) empty_undone (omega arith)

  -- its number is that one, where they are numbered from 1 on
  pub number_is : ((i : ℕ) → i < length us → (get_or us i empty_undone).number ≡ i + 1) → (k : ℕ) → 1 ≤ k → k ≤ length us
      → (change_of us k).number ≡ k
  number_is numbers k low high =
      let e : k - 1 + 1 ≡ k = omega arith in
      numbers (k - 1) (omega arith) ∙ e

  -- what was made has all that it had to wait for
  pub closed : (ks : List ℕ) → (fed us ks).refused ≡ [] → (j : ℕ) → is_among j ks ≡ true → (w : Undone)
      → Memᴰ w us → waits_for (change_of us j) w ≡ true → is_among w.number ks ≡ true
  unfolding among
  closed [] h j m w there waits = tf m refl
  closed (k ∷ ks) h j m w there waits =
      let a = accepted ks k h in
      or_right (eqb k w.number) _
      (by_or (eqb k j) _ m
      (λ e. a.none_skipped w there (rw (eqb-true k j e) waits))
      (λ e. closed ks a.before j e w there waits))
