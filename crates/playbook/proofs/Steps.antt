-- A plan more and a change more: in the store they are what they are in the book, and what passes its questions fits
-- the store. Assumes nothing.
use mathlib.Core.Path.{◌≡◌, ap, ◌∙◌}
use mathlib.Core.List.{List}
use Prim.Native.Nat.{◌+◌, ◌-◌, ◌≤◌, ◌<◌}
use native.Mathlib.Omega.{arith}
use lib.ListN.{length, set, get_or, length-append}
use lib.Seq.{get_or-take}
use Rattle.answer.specs.Ask.{first_no}
use Rattle.lists.specs.Arrays.{pad}
use Rattle.lists.proofs.Padding.{pad_snoc, pad-get, pad-set}
use Rattle.playbook.specs.Limits.{max_plans, max_changes}
use Rattle.playbook.specs.Books.{Book, empty_plan, book_of, store_of, Trigger, last_count, counted, count_last}
use Rattle.playbook.specs.Books.{new_plan, with_plan, with_change}
use Rattle.playbook.specs.Asking.{plan_questions, change_questions}
use Rattle.playbook.specs.declared.Change.{Change}
use Rattle.playbook.specs.declared.Plan.{Plan}
use Rattle.playbook.specs.declared.Playbook.{Playbook}
use Rattle.playbook.proofs.Questions.{plan_passes, change_passes}
use Rattle.playbook.proofs.Sound.{Fits, Sound, sound_fits, sound_planned, count-length, last_at}
use Rattle.playbook.proofs.Sound.{count_at}

-- the store with a plan more, and with a change more, of the last plan
abbrev pub plan_stored : Playbook → Trigger → Playbook
plan_stored p t = record {
  plans = set p.plans p.planned (new_plan t p.listed);
  planned = p.planned + 1;
  changes = p.changes;
  listed = p.listed;
}

abbrev pub change_stored : Playbook → Change → Playbook
change_stored p c =
    let last = p.planned - 1 in
    record {
      plans = set p.plans last (counted (get_or p.plans last empty_plan));
      planned = p.planned;
      changes = set p.changes p.listed c;
      listed = p.listed + 1;
    }

-- the same of the store of a book
plan_stored_lem : (b : Book) (t : Trigger) → plan_stored (store_of b) t ≡ store_of (with_plan b t)
plan_stored_lem b t = rw (pad_snoc, length-append)

last_stored : (qs : List Plan) → 0 < length qs → length qs ≤ max_plans
    → let last = length qs - 1 in
    let plans = pad max_plans empty_plan qs in
    set plans last (counted (get_or plans last empty_plan)) ≡ pad max_plans empty_plan (count_last qs)
last_stored qs h k =
    let last = length qs - 1 in
    rw (count_at qs h, pad-get max_plans empty_plan qs last empty_plan (omega arith) (omega arith))
    (pad-set max_plans empty_plan qs last _ (omega arith))

change-stored : (b : Book) (c : Change) → Fits b → 0 < length b.plans
    → change_stored (store_of b) c ≡ store_of (with_change b c)
change-stored b c f h = rw (last_stored b.plans h f.plans, pad_snoc, length-append, count-length)

-- the same of every sound store
pub plan_more : (p : Playbook) (t : Trigger) → Sound p → plan_stored p t ≡ store_of (with_plan (book_of p) t)
plan_more p t e = ap (λ (q : Playbook). plan_stored q t) e ∙ plan_stored_lem (book_of p) t

pub change_more : (p : Playbook) (c : Change) → Sound p → 0 < p.planned
    → change_stored p c ≡ store_of (with_change (book_of p) c)
change_more p c e h =
    ap (λ (q : Playbook). change_stored q c) e
    ∙ change-stored (book_of p) c (sound_fits p e) (rw (← sound_planned p e) h)

-- how many changes the last plan has, read from the store
pub last_count_lem : (p : Playbook) → Sound p → 0 < p.planned
    → last_count (book_of p).plans ≡ (get_or p.plans (p.planned - 1) empty_plan).count
last_count_lem p e h =
    let some : 0 < length (book_of p).plans = rw (← sound_planned p e) h in
    last_at (book_of p).plans some
    ∙ rw (← sound_planned p e, get_or-take p.planned p.plans (p.planned - 1) empty_plan (omega arith))

-- how many plans a sound store has
pub few-plans : (p : Playbook) → Sound p → p.planned ≤ max_plans
few-plans p e = omega (arith, sound_planned p e, (sound_fits p e).plans)

-- a change more fits where there is room
change_fits : (b : Book) (c : Change) → Fits b → length b.changes < max_changes → Fits (with_change b c)
change_fits b c f h = record { plans = rw count-length f.plans; changes = rw length-append (omega arith) }

-- what passed its questions fits the store
pub plan_passed : (b : Book) (t : Trigger) → Fits b → first_no (plan_questions b t) ≡ 0 → Fits (with_plan b t)
plan_passed b t f e =
    let q = plan_passes b t e in
    record { plans = rw length-append (omega arith); changes = f.changes }

pub change_passed : (b : Book) (c : Change) → Fits b → first_no (change_questions b c) ≡ 0 → Fits (with_change b c)
change_passed b c f e = change_fits b c f (change_passes b c e).room
