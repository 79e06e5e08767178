-- A book and its store: each gives the other back within the limits; the last plan, behind others and by its place.
-- Assumes nothing.
use mathlib.Core.Path.{◌≡◌, refl, sym, ap, ◌∙◌}
use mathlib.Core.List.{List, [], ◌∷◌, ◌++◌}
use Prim.Native.Nat.{ℕ, suc, ◌-◌, ◌≤◌, ◌<◌}
use native.Mathlib.Omega.{arith}
use lib.ListN.{length, set, get_or, length-take}
use Rattle.lists.proofs.Padding.{pad-length, pad-take}
use Rattle.playbook.specs.Limits.{max_plans, max_changes}
use Rattle.playbook.specs.Books.{Book, empty_plan, empty_change, book_of, store_of, last_count, counted, count_last}
use Rattle.playbook.specs.declared.Plan.{Plan}
use Rattle.playbook.specs.declared.Playbook.{Playbook}

-- as much as a store holds
pub record Fits (b : Book) : Type 0 where
  pub plans : length b.plans ≤ max_plans
  pub changes : length b.changes ≤ max_changes

-- a store that is what it means
abbrev pub Sound : Playbook → Type 0
Sound p = p ≡ store_of (book_of p)

pub meaning_store : (b : Book) → Fits b → book_of (store_of b) ≡ b
meaning_store b h = λ i. record {
  plans = pad-take max_plans empty_plan b.plans h.plans i;
  changes = pad-take max_changes empty_change b.changes h.changes i;
}

-- the same of a store that is told to be a book's: what it means, and that it is sound
pub means : (p : Playbook) (b : Book) → p ≡ store_of b → Fits b → book_of p ≡ b
means p b e f = ap book_of e ∙ meaning_store b f

pub is_sound : (p : Playbook) (b : Book) → p ≡ store_of b → Fits b → Sound p
is_sound p b e f = e ∙ ap store_of (sym (means p b e f))

pub sound_fits : (p : Playbook) → Sound p → Fits (book_of p)
sound_fits p e =
    let n : length p.plans ≡ max_plans =
    ap (λ (q : Playbook). length q.plans) e ∙ pad-length max_plans empty_plan _ in
    let m : length p.changes ≡ max_changes =
    ap (λ (q : Playbook). length q.changes) e ∙ pad-length max_changes empty_change _ in
    record {
      plans = simp length-take (omega arith);
      changes = simp length-take (omega arith);
    }

-- the counts of a sound store
pub sound_planned : (p : Playbook) → Sound p → p.planned ≡ length (book_of p).plans
sound_planned p e = ap (λ (q : Playbook). q.planned) e

pub sound_listed : (p : Playbook) → Sound p → p.listed ≡ length (book_of p).changes
sound_listed p e = ap (λ (q : Playbook). q.listed) e

-- one change more of the last plan, which stands behind others
pub count_snoc : (qs : List Plan) (q : Plan) → count_last (qs ++ q ∷ []) ≡ qs ++ counted q ∷ []
unfolding count_last
count_snoc [] q = refl
count_snoc (p ∷ []) q = refl
count_snoc (p ∷ r ∷ qs) q = ap (λ (l : List Plan). p ∷ l) (count_snoc (r ∷ qs) q)

pub count-length : (qs : List Plan) → length (count_last qs) ≡ length qs
unfolding count_last
count-length [] = refl
count-length (q ∷ []) = refl
count-length (q ∷ r ∷ qs) = ap suc (count-length (r ∷ qs))

-- the last plan by its place
pub last_at : (qs : List Plan) → 0 < length qs → last_count qs ≡ (get_or qs (length qs - 1) empty_plan).count
unfolding last_count
last_at [] h = absurd (omega arith)
last_at (q ∷ []) h = refl
last_at (q ∷ r ∷ qs) h =
    let e : suc (suc (length qs)) - 1 ≡ suc (suc (length qs) - 1) = omega arith in
    last_at (r ∷ qs) (omega arith) ∙ ap (λ (i : ℕ). (get_or (q ∷ r ∷ qs) i empty_plan).count) (sym e)

pub count_at : (qs : List Plan) → 0 < length qs
    → count_last qs ≡ set qs (length qs - 1) (counted (get_or qs (length qs - 1) empty_plan))
unfolding count_last
count_at [] h = absurd (omega arith)
count_at (q ∷ []) h = refl
count_at (q ∷ r ∷ qs) h =
    let e : suc (suc (length qs)) - 1 ≡ suc (suc (length qs) - 1) = omega arith in
    ap (λ (l : List Plan). q ∷ l) (count_at (r ∷ qs) (omega arith))
    ∙ ap (λ (i : ℕ). set (q ∷ r ∷ qs) i (counted (get_or (q ∷ r ∷ qs) i empty_plan))) (sym e)
