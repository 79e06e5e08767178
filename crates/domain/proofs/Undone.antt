-- What a controller that keeps the rules holds: agreed changes, so that what is ready at it is ready in the protocol,
-- and the other way round. Assumes nothing.
use mathlib.Core.Path.{◌≡◌, refl, sym, ap, ◌∙◌, subst}
use mathlib.Core.Bool.{Bool, true, not, ◌&&◌}
use mathlib.Core.List.{List, [], ◌∷◌, ◌++◌}
use Prim.Native.Nat.{ℕ, zero, suc, ◌+◌, ◌-◌, ◌≤◌, ◌<◌}
use native.Mathlib.Omega.{arith}
use lib.Dec.{ltb}
use lib.ListN.{length, get_or}
use borrow.Author.Tests.{ltb-true, lt-ltb, not-true}
use Rattle.answer.proofs.Bools.{by_bool, by_le, tf, and_join, and_parts}
use Rattle.lists.specs.Counts.{passing}
use Rattle.lists.proofs.Tails.{every_at, every_all}
use Rattle.flow.specs.declared.Rule.{Rule}
use Rattle.flow.specs.declared.Table.{Table}
use Rattle.playbook.specs.Printing.{InRange}
use Rattle.controller.specs.Changes.{empty_undone, undone_of, is_undone, still_undone}
use Rattle.controller.specs.Readiness.{related, waits_for}
use Rattle.controller.specs.declared.Controller.{Controller}
use Rattle.controller.specs.declared.Undone.{Undone}
use Rattle.controller.proofs.Waiting.{undone_at, Stands, Readied}
use Rattle.controller.proofs.Staying.{stands_passing}
use Rattle.controller.proofs.Within.{within, held_fits}
use Rattle.protocol.proofs.Ends as protocol
use Rattle.protocol.proofs.Worlds.{Agreed, Ready}
use Rattle.domain.specs.Settings.{Decision, Setting, Valid, playbook}
use Rattle.domain.specs.Agreement.{agreed_changes}
use Rattle.domain.specs.Ideals.{change_of}
use Rattle.domain.specs.Claim.{changes_of, agreed}
use Rattle.domain.proofs.View.{domain_of, view_controller}
use Rattle.domain.proofs.Agreed.{change-fine, beginning-few, beginning_is}
use Rattle.domain.proofs.Ends.{ControllerFine}

-- an element among those that pass a test stands in the list, and passes it
record From (f : Undone → Bool) (l : List Undone) (u : Undone) : Type 0 where
  place : ℕ
  inside : place < length l
  there : undone_at l place ≡ u
  passes : f u ≡ true

from_next : {f : Undone → Bool} {x : Undone} {l : List Undone} {u : Undone} → From f l u → From f (x ∷ l) u
from_next r =
    record { place = suc r.place; inside = omega (arith, r.inside); there = r.there; passes = r.passes }

from_first : (f : Undone → Bool) (x : Undone) (l m : List Undone) → f x ≡ true
    → ((j : ℕ) → j < length m → From f l (undone_at m j)) → (j : ℕ) → j < length (x ∷ m)
    → From f (x ∷ l) (undone_at (x ∷ m) j)
from_first f x l m e rest zero h = record { place = 0; inside = omega arith; there = refl; passes = e }
from_first f x l m e rest (suc j) h = from_next (rest j (omega arith))

passing-from : (f : Undone → Bool) (l : List Undone) (j : ℕ) → j < length (passing f l)
    → From f l (undone_at (passing f l) j)
unfolding passing
passing-from f [] j h = absurd (omega arith)
passing-from f (x ∷ l) j h =
    by_bool (f x) (λ e. rw e (from_first f x l (passing f l) e (passing-from f l) j (rw e at h)))
    (λ e. rw e (from_next (passing-from f l j (rw e at h))))

-- as many numbers are given as the decisions brought have changes, and no more than are agreed
pub last_given : (S : Setting) (c : ℕ) (ds : List Decision) (t : Controller) → ControllerFine S c ds t
    → t.progress.last ≡ length (changes_of S ds)
unfolding agreed_changes
last_given S c ds t f = f.follows.last

pub given-few : (S : Setting) (c : ℕ) (ds rest : List Decision) → S.agreed ≡ ds ++ rest → (t : Controller)
    → ControllerFine S c ds t → t.progress.last ≤ length (agreed S)
given-few S c ds rest begins t f = omega (arith, last_given S c ds t f, beginning-few S ds rest begins)

module _ (S : Setting) (v : Valid S) (ranged : InRange (playbook S)) (c : ℕ) (ds rest : List Decision)
    (begins : S.agreed ≡ ds ++ rest) (t : Controller) (f : ControllerFine S c ds t) where
  abbrev D : protocol.Domain Rule Table
  D = domain_of S

  abbrev us : List Undone
  us = undone_of t

  abbrev sofar : List Undone
  sofar = changes_of S ds

  held_is : us ≡ still_undone t.progress.acknowledged sofar
  unfolding agreed_changes
  held_is = f.follows.undone

  last_is : t.progress.last ≡ length sofar
  last_is = last_given S c ds t f

  -- a number given: its change stands among those so far
  given_at : (k : ℕ) → 0 < k → k ≤ t.progress.last → (undone_at sofar (k - 1) ≡ change_of (agreed S) k) × Agreed D k
  given_at k positive few =
      let inside : k - 1 < length sofar = omega (arith, last_is) in
      let e : k - 1 + 1 ≡ k = omega arith in
      let is = beginning_is S v ranged ds rest begins (k - 1) inside in
      (rw e at is.0, (positive, omega (arith, is.1)))

  -- an undone change is the agreed one of its number
  pub undone_agreed : (u : Undone) → Stands us u → (change_of (agreed S) u.number ≡ u) × Agreed D u.number
  undone_agreed u a =
      let inside : a.place < length (still_undone t.progress.acknowledged sofar) = rw (← held_is) a.inside in
      let from = passing-from (is_undone t.progress.acknowledged) sofar a.place inside in
      let i = from.place in
      let same : undone_at sofar i ≡ u =
      from.there ∙ ap (λ (l : List Undone). undone_at l a.place) (sym held_is) ∙ a.there in
      let is = given_at (i + 1) (omega arith) (omega (arith, from.inside, last_is)) in
      let e : i + 1 - 1 ≡ i = omega arith in
      let change : change_of (agreed S) (i + 1) ≡ u = sym is.0 ∙ rw e same in
      let number : u.number ≡ i + 1 =
      ap (λ (x : Undone). x.number) (sym change) ∙ (change-fine S v ranged (i + 1) is.1).numbered in
      (ap (change_of (agreed S)) number ∙ change, subst (Agreed D) (sym number) is.1)

  -- a number given that is not done: its change is held
  undone_stands : (k : ℕ) → 0 < k → k ≤ t.progress.last → get_or t.progress.acknowledged (D.switch k) 0 < k
      → Stands us (change_of (agreed S) k)
  undone_stands k positive few above =
      let is = given_at k positive few in
      let n = (change-fine S v ranged k is.1).numbered in
      rw held_is (stands_passing (is_undone t.progress.acknowledged) sofar (change_of (agreed S) k)
      (record { place = k - 1; inside = omega (arith, last_is); there = is.0 })
      (lt-ltb (get_or t.progress.acknowledged (D.switch k) 0) (change_of (agreed S) k).number (rw n above)))

  -- what is ready among the undone changes is ready in the protocol
  pub readied_ready : (s : ℕ) (u : Undone) → Readied s us u → Ready D (view_controller t) u.number
  readied_ready s u a =
      let is = undone_agreed u a.stands in
      let here = a.stands in
      let fits = rw here.there at (held_fits t (within t f.ok) here.place empty_undone here.inside) in
      record {
        positive = is.1.0;
        given = fits.given;
        undone = rw is.0 fits.above;
        free = λ j e.
            by_le j (get_or t.progress.acknowledged (D.switch j) 0) (λ low. low)
            (λ high.
            let both = and_parts (ltb 0 j && ltb j u.number) _ e in
            let parts = and_parts (ltb 0 j) (ltb j u.number) both.0 in
            let few : j ≤ t.progress.last = omega (arith, ltb-true j u.number parts.1, fits.given) in
            let stands = undone_stands j (ltb-true _ _ parts.0) few high in
            let free = rw stands.there at
            (every_at (λ w. not (waits_for u w)) us stands.place empty_undone a.ready stands.inside) in
            let n = (change-fine S v ranged j (given_at j (ltb-true _ _ parts.0) few).1).numbered in
            let w = change_of (agreed S) j in
            let waits : waits_for u w ≡ true =
            and_join (ltb w.number u.number) (related u w) (rw n parts.1)
            (subst (λ (x : Undone). related x w ≡ true) is.0 both.1) in
            absurd (tf waits (not-true _ free)));
      }

  -- and what is ready in the protocol is ready among the undone changes
  pub ready_readied : (k : ℕ) → Ready D (view_controller t) k → Readied (D.switch k) us (change_of (agreed S) k)
  ready_readied k ready =
      let u = change_of (agreed S) k in
      let given = given_at k ready.positive ready.given in
      record {
        stands = undone_stands k ready.positive ready.given ready.undone;
        on = refl;
        ready = every_all (λ w. not (waits_for u w)) us empty_undone (λ i l.
            let w = undone_at us i in
            let is = undone_agreed w (record { place = i; inside = l; there = refl }) in
            let fits = held_fits t (within t f.ok) i empty_undone l in
            by_bool (waits_for u w)
            (λ e.
            let t = and_parts (ltb w.number u.number) (related u w) e in
            let n = (change-fine S v ranged k given.1).numbered in
            let waits : D.waits k w.number ≡ true =
            and_join _ _ (and_join _ _ (lt-ltb 0 w.number is.1.0) (rw n at t.0))
            (subst (λ (x : Undone). related u x ≡ true) (sym is.0) t.1) in
            absurd (omega (arith, fits.above, rw is.0 at (ready.free w.number waits))))
            (λ e. rw e));
      }
