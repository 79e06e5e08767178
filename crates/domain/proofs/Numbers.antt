-- The shares answered 1 in a log as the protocol sees them, the numbers made at one switch, and the highest of some
-- numbers. Assumes nothing.
use mathlib.Core.Path.{◌≡◌, refl, sym, ap, ◌∙◌, subst}
use mathlib.Core.Bool.{Bool, true, false, ◌&&◌, ◌||◌}
use mathlib.Core.List.Memᴰ
use mathlib.Core.List.{List, [], ◌∷◌, ◌++◌, map, Memᴰ}
use mathlib.Core.Logic.{⊎_elim}
use Prim.Native.Nat.{ℕ, zero, suc, ◌≤◌, ◌<◌}
use native.Mathlib.Omega.{arith}
use lib.Dec.{ltb, eqb}
use lib.ListN.{length, get_or}
use borrow.Author.Tests.{ltb-true, ltb-false, eqb-true, eqb-false, eq-eqb, ne_eqb}
use Rattle.answer.proofs.Bools.{by_bool, by_or, by_eq, tf, or_left, or_right, pick-keeps}
use Rattle.lists.specs.Bytes.{field}
use Rattle.lists.specs.Counts.{passing}
use Rattle.lists.specs.Kinds.{among, is_among}
use Rattle.flow.specs.declared.Rule.{Rule}
use Rattle.message.specs.Layout.{number_at}
use Rattle.message.specs.Reading.{decode}
use Rattle.message.specs.declared.End.TheVariants as ends
use Rattle.switch.specs.Calls.{receives, writes, manages}
use Rattle.protocol.proofs.Worlds as protocol-worlds
use Rattle.domain.specs.Calls.{Call, at_switch, at_controller, Done}
use Rattle.domain.specs.Claim.{Made, made_by, made, numbers, numbers_at, highest}
use Rattle.domain.proofs.View.{rule_in, made_in, made_so}

-- without the rule
abbrev pub without_rule : protocol-worlds.Made Rule → Made
without_rule m = record { switch = m.switch; number = m.number }

one_made : (answer : ℕ) (x : Call) (l : List (protocol-worlds.Made Rule)) {ms : List Made} → ms ≡ map without_rule l
    → made_by answer x ++ ms ≡ map without_rule (made_in answer x l)
one_made answer (at_switch s (receives bytes)) l e = by_bool (eqb answer 1) (λ q. rw (q, e)) (λ q. rw (q, e))
one_made answer (at_switch s (writes kind c frame at)) l e = by_bool (eqb answer 1) (λ q. rw (q, e)) (λ q. rw (q, e))
one_made answer (at_switch s (manages m)) l e = by_bool (eqb answer 1) (λ q. rw (q, e)) (λ q. rw (q, e))
one_made answer (at_controller c x) l e = e

pub made_is : (log : List Done) → made log ≡ map without_rule (made_so log)
unfolding made made_so
made_is [] = refl
made_is (d ∷ log) = one_made d.answer d.call (made_so log) (made_is log)

numbers_of_lem : (ms : List (protocol-worlds.Made Rule))
    → numbers (map without_rule ms) ≡ map (λ (m : protocol-worlds.Made Rule). m.number) ms
numbers_of_lem [] = refl
numbers_of_lem (m ∷ ms) = ap (λ (l : List ℕ). m.number ∷ l) (numbers_of_lem ms)

pub numbers_are : (log : List Done)
    → numbers (made log) ≡ map (λ (m : protocol-worlds.Made Rule). m.number) (made_so log)
numbers_are log = ap numbers (made_is log) ∙ numbers_of_lem (made_so log)

-- a share answered 1 is among them
more_made : (m : protocol-worlds.Made Rule) (answer : ℕ) (x : Call) (l : List (protocol-worlds.Made Rule))
    → Memᴰ m l → Memᴰ m (made_in answer x l)
more_made m answer (at_switch s (receives bytes)) l h =
    pick-keeps (λ l. Memᴰ m l) (eqb answer 1) _ _ (λ e. Memᴰ.tail h) (λ e. h)
more_made m answer (at_switch s (writes kind c frame at)) l h = h
more_made m answer (at_switch s (manages y)) l h = h
more_made m answer (at_controller c x) l h = h

abbrev pub made_of : ℕ → List ℕ → protocol-worlds.Made Rule
made_of s bytes =
    record { switch = s; number = field bytes number_at 4; content = rule_in (decode ends.Switch bytes) }

pub share-made : (s : ℕ) (bytes written : List ℕ) (log : List Done)
    → Memᴰ (record { call = at_switch s (receives bytes); answer = 1; written = written }) log
    → Memᴰ (made_of s bytes) (made_so log)
unfolding made_so
share-made s bytes written [] h = absurd (Memᴰ.not-nil h)
share-made s bytes written (d ∷ log) h =
    ⊎_elim
    (λ e. subst (λ (x : Done). Memᴰ (made_of s bytes) (made_in x.answer x.call (made_so log))) e
    (Memᴰ.head refl))
    (λ t. more_made (made_of s bytes) d.answer d.call (made_so log) (share-made s bytes written log t))
    (Memᴰ.cases_cons h)

-- and its number among the numbers
pub made-among : (m : protocol-worlds.Made Rule) (ms : List (protocol-worlds.Made Rule)) → Memᴰ m ms
    → is_among m.number (map (λ (m : protocol-worlds.Made Rule). m.number) ms) ≡ true
unfolding among
made-among m [] h = absurd (Memᴰ.not-nil h)
made-among m (n ∷ ms) h =
    ⊎_elim
    (λ e. or_left _ _ (eq-eqb n.number m.number (ap (λ (x : protocol-worlds.Made Rule). x.number) (sym e))))
    (λ t. or_right (eqb n.number m.number) _ (made-among m ms t)) (Memᴰ.cases_cons h)

-- the numbers made at a switch, where each number is made at its own
module _ (switch : ℕ → ℕ) where
  -- one more made at the switch, and one made elsewhere
  at_here : (a b on : Bool) → (a ≡ true → on ≡ true) → {c : Bool} → c ≡ (b && on) → (a || c) ≡ ((a || b) && on)
  at_here true b on h e = sym (h refl)
  at_here false b on h e = e

  at_elsewhere : (a b on : Bool) → (a ≡ true → on ≡ false) → {c : Bool} → c ≡ (b && on) → c ≡ ((a || b) && on)
  at_elsewhere true true on h e = e
  at_elsewhere true false on h e = e ∙ sym (h refl)
  at_elsewhere false b on h e = e

  pub numbers_at_lem : (s k : ℕ) (ms : List (protocol-worlds.Made Rule))
      → ((m : protocol-worlds.Made Rule) → Memᴰ m ms → switch m.number ≡ m.switch)
      → is_among k (numbers_at s (map without_rule ms))
      ≡ (is_among k (map (λ (m : protocol-worlds.Made Rule). m.number) ms) && eqb (switch k) s)
  unfolding among passing
  numbers_at_lem s k [] carried = refl
  numbers_at_lem s k (m ∷ ms) carried =
      let rest = numbers_at_lem s k ms (λ n h. carried n (Memᴰ.tail h)) in
      let own = carried m (Memᴰ.head refl) in
      by_bool (eqb m.switch s)
      (λ e. rw e (at_here (eqb m.number k) _ (eqb (switch k) s)
      (λ q. eq-eqb (switch k) s (ap switch (sym (eqb-true _ _ q)) ∙ own ∙ eqb-true _ _ e)) rest))
      (λ e. rw e (at_elsewhere (eqb m.number k) _ (eqb (switch k) s)
      (λ q. ne_eqb (switch k) s (λ z. eqb-false _ _ e (sym own ∙ ap switch (eqb-true _ _ q) ∙ z))) rest))

-- the highest of some numbers is one of them, or 0, and none is above it
pub highest_top : (ks : List ℕ) (k : ℕ) → is_among k ks ≡ true → k ≤ highest ks
unfolding highest among
highest_top [] k h = tf h refl
highest_top (j ∷ ks) k h =
    by_or (eqb j k) _ h
    (λ e. let q = eqb-true j k e in
    by_bool (ltb (highest ks) j) (λ l. rw l (omega arith))
    (λ l. let low = ltb-false (highest ks) j l in rw l (omega arith)))
    (λ e. let low = highest_top ks k e in
    by_bool (ltb (highest ks) j) (λ l. let high = ltb-true (highest ks) j l in rw l (omega arith)) (λ l. rw l low))

pub highest_in : (ks : List ℕ) → 0 < highest ks → is_among (highest ks) ks ≡ true
unfolding highest among
highest_in [] h = absurd (omega arith)
highest_in (j ∷ ks) h =
    by_bool (ltb (highest ks) j) (λ l. rw l (or_left (eqb j j) _ (eq-eqb j j refl)))
    (λ l. let e : highest (j ∷ ks) ≡ highest ks = rw l refl in
    subst (λ m. is_among m (j ∷ ks) ≡ true) (sym e)
    (or_right (eqb j (highest ks)) _ (highest_in ks (subst (λ m. 0 < m) e h))))

pub highest_is : (ks : List ℕ) (m : ℕ) → ((k : ℕ) → is_among k ks ≡ true → k ≤ m) → (0 < m → is_among m ks ≡ true)
    → m ≡ highest ks
highest_is ks m top among =
    by_eq m 0
    (λ z. by_eq (highest ks) 0 (λ e. omega arith)
    (λ some. absurd (omega (arith, top (highest ks) (highest_in ks (omega arith))))))
    (λ some.
    let low = highest_top ks m (among (omega arith)) in
    let high = top (highest ks) (highest_in ks (omega arith)) in
    omega arith)

-- a place of a list is a member of it
pub at_member : {A : Type 0} (l : List A) (i : ℕ) (z : A) → i < length l → Memᴰ (get_or l i z) l
at_member [] i z h = absurd (omega arith)
at_member (x ∷ l) zero z h = Memᴰ.head refl
at_member (x ∷ l) (suc i) z h = Memᴰ.tail (at_member l i z (omega arith))

pub member_at : {A : Type 0} (l : List A) (x z : A) → Memᴰ x l → (i : ℕ) × (i < length l) × (get_or l i z ≡ x)
member_at [] x z h = absurd (Memᴰ.not-nil h)
member_at (y ∷ l) x z h =
    ⊎_elim (λ e. (0, omega arith, sym e))
    (λ t. let there = member_at l x z t in (suc there.0, omega (arith, there.1), there.2)) (Memᴰ.cases_cons h)
