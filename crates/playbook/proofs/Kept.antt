-- What the reader keeps: a plan or a change leaves a book within its limits exactly if it passes its questions, so what
-- reading leaves, refused or not, is stored; and a stored store is what it means. Assumes nothing.
use mathlib.Core.Path.{◌≡◌, refl, sym, ap, subst, ◌∙◌}
use mathlib.Core.List.{List, [], ◌∷◌, ◌++◌, map, map-append}
use mathlib.Core.Bool.{Bool, true, false, not, ◌&&◌, and-false}
use Prim.Native.Nat.{ℕ, zero, suc, ◌+◌, ◌≤◌, ◌<◌}
use native.Mathlib.Omega.{arith}
use lib.Dec.{ltb, leb, eqb}
use lib.ListN.{length, drop, length-append}
use borrow.Author.Tests.{ltb-true, leb-true, eqb-true, eqb-false, lt-ltb, le-leb}
use Rattle.std.specs.Prelude.{Result, Ok, Err}
use Rattle.answer.specs.Ask.{reply, first_no}
use Rattle.answer.specs.Limits.{switch_count}
use Rattle.answer.proofs.Asked.{reply-from}
use Rattle.answer.proofs.Bools.{by_bool, tf, and_join, and_parts, pick-keeps}
use Rattle.lists.specs.Arrays.{every}
use Rattle.lists.specs.Kinds.{different, kinds}
use Rattle.lists.proofs.Members.{different_snoc}
use Rattle.lists.proofs.Padding.{pad_unused, as_padded}
use Rattle.lists.proofs.Tails.{every_snoc}
use Rattle.flow.specs.Rules.{empty_rule}
use Rattle.flow.proofs.Actions.{rule_sound}
use Rattle.flow.proofs.Order.{key_sound, key_mine}
use Rattle.playbook.specs.Limits.{max_plans, max_changes, max_keys, plan_size, change_size, end_size}
use Rattle.playbook.specs.Books.{Book, no_plans, empty_plan, empty_change, book_of, store_of}
use Rattle.playbook.specs.Books.{Trigger, trigger_of, same_trigger, has_trigger, keys_on, kinds_on}
use Rattle.playbook.specs.Books.{count_last, with_plan, with_change}
use Rattle.playbook.specs.Reading.{refusal, finished, read_from, read_first, whole, read_whole}
use Rattle.playbook.specs.Storing.{spans, change_ok, few_keys_below, book_ok, plan_empty, change_empty, stored_ok}
use Rattle.playbook.specs.Asking.{record_at, plan_questions, change_questions, follow}
use Rattle.playbook.specs.declared.Change.{Change}
use Rattle.playbook.specs.declared.Outcome.{Outcome}
use Rattle.playbook.specs.declared.Plan.{Plan}
use Rattle.playbook.specs.declared.Playbook.{Playbook}
use Rattle.playbook.specs.declared.records.Record.{Record}
use Rattle.playbook.specs.declared.records.Record.TheVariants.{Opens, Lists, Ends}
use Rattle.playbook.proofs.Apart.{read_step}
use Rattle.playbook.proofs.Few.{kinds_grow, few_below, few_all, few-change}
use Rattle.playbook.proofs.Past.{Numbered, record_number}
use Rattle.playbook.proofs.Questions.{plan_passes, plan-asked, change_passes, change-asked}
use Rattle.playbook.proofs.Sound.{Fits, Sound, meaning_store, count-length}
use Rattle.playbook.proofs.Spans.{span_some, span_plan, span_plan_back, span_change, span_change_back}

-- the limits of a book
pub record BookParts (b : Book) : Type 0 where
  pub plans : length b.plans ≤ max_plans
  pub changes : length b.changes ≤ max_changes
  pub spanned : spans 0 (length b.changes) b.plans ≡ true
  pub triggers : different same_trigger (map trigger_of b.plans) ≡ true
  pub rules : every change_ok b.changes ≡ true
  pub keys : few_keys_below switch_count b.changes ≡ true

pub book_parts : (b : Book) → book_ok b ≡ true → BookParts b
unfolding book_ok
book_parts b h =
    let part : (t : Bool) → (t ≡ false → book_ok b ≡ false) → t ≡ true = λ t f. by_bool t (λ e. e) (λ e. tf h (f e)) in
    record {
      plans = leb-true _ _ (part (leb (length b.plans) max_plans) (λ e. rw e));
      changes = leb-true _ _ (part (leb (length b.changes) max_changes) (λ e. rw (e, and-false)));
      spanned = part _ (λ e. rw (e, and-false));
      triggers = part _ (λ e. rw (e, and-false));
      rules = part _ (λ e. rw (e, and-false));
      keys = part _ (λ e. rw (e, and-false));
    }

pub book_join : (b : Book) → BookParts b → book_ok b ≡ true
unfolding book_ok
book_join b h = rw (le-leb _ _ h.plans, le-leb _ _ h.changes, h.spanned, h.triggers, h.rules) h.keys

-- what stored asks
pub record StoredParts (p : Playbook) : Type 0 where
  pub planned : p.planned ≤ max_plans
  pub listed : p.listed ≤ max_changes
  pub book : book_ok (book_of p) ≡ true
  pub plans_unused : every plan_empty (drop p.planned p.plans) ≡ true
  pub changes_unused : every change_empty (drop p.listed p.changes) ≡ true

pub stored_parts : (p : Playbook) → stored_ok p ≡ true → StoredParts p
unfolding stored_ok
stored_parts p h =
    let part : (t : Bool) → (t ≡ false → stored_ok p ≡ false) → t ≡ true = λ t f. by_bool t (λ e. e) (λ e. tf h (f e)) in
    record {
      planned = leb-true _ _ (part (leb p.planned max_plans) (λ e. rw e));
      listed = leb-true _ _ (part (leb p.listed max_changes) (λ e. rw (e, and-false)));
      book = part _ (λ e. rw (e, and-false));
      plans_unused = part _ (λ e. rw (e, and-false));
      changes_unused = part _ (λ e. rw (e, and-false));
    }

pub stored_limits : (p : Playbook) → stored_ok p ≡ true → BookParts (book_of p)
stored_limits p h = book_parts (book_of p) (stored_parts p h).book

-- the store of a book within its limits
pub book_fits : (b : Book) → book_ok b ≡ true → Fits b
book_fits b h = let l = book_parts b h in record { plans = l.plans; changes = l.changes }

pub book-stored : (b : Book) → book_ok b ≡ true → stored_ok (store_of b) ≡ true
unfolding stored_ok
book-stored b h =
    let fits = book_fits b h in
    rw (
      le-leb _ _ fits.plans,
      le-leb _ _ fits.changes,
      ap book_ok (meaning_store b fits) ∙ h,
      pad_unused plan_empty empty_plan max_plans b.plans refl fits.plans,
    )
    (pad_unused change_empty empty_change max_changes b.changes refl fits.changes)

-- only the empty plan and change pass the test of an unused place
only-empty_plan : (q : Plan) → plan_empty q ≡ true → q ≡ empty_plan
only-empty_plan q h =
    let a = and_parts (eqb q.switch 0 && eqb q.cause 0 && eqb q.first 0) _ h in
    let b = and_parts (eqb q.switch 0 && eqb q.cause 0) _ a.0 in
    let c = and_parts (eqb q.switch 0) _ b.0 in
    λ i. record {
      switch = eqb-true q.switch 0 c.0 i;
      cause = eqb-true q.cause 0 c.1 i;
      first = eqb-true q.first 0 b.1 i;
      count = eqb-true q.count 0 a.1 i;
    }

only-empty_change : (c : Change) → change_empty c ≡ true → c ≡ empty_change
only-empty_change c h =
    let a = and_parts (eqb c.flow 0 && eqb c.switch 0) _ h in
    let b = and_parts (eqb c.flow 0) _ a.0 in
    λ i. record {
      flow = eqb-true c.flow 0 b.0 i;
      switch = eqb-true c.switch 0 b.1 i;
      rule = rule_sound c.rule empty_rule a.1 i;
    }

-- a stored store is what it means
pub stored_sound : (p : Playbook) → length p.plans ≡ max_plans → length p.changes ≡ max_changes → stored_ok p ≡ true
    → Sound p
stored_sound p n m h =
    let s = stored_parts p h in
    let plans = as_padded plan_empty empty_plan only-empty_plan _ p.plans n s.planned s.plans_unused in
    let changes =
    as_padded change_empty empty_change only-empty_change _ p.changes m s.listed s.changes_unused in
    λ i. record { plans = plans.0 i; planned = plans.1 i; changes = changes.0 i; listed = changes.1 i }

-- triggers are pairs of numbers as keys are, and tested for equality alike
pub trigger_sound : (t u : Trigger) → same_trigger t u ≡ true → t ≡ u
trigger_sound = key_sound

pub trigger_mine : (t : Trigger) → same_trigger t t ≡ true
trigger_mine = key_mine

-- a plan more brings its trigger, a change more none
plan_triggers : (b : Book) (t : Trigger)
    → different same_trigger (map trigger_of (with_plan b t).plans)
    ≡ (different same_trigger (map trigger_of b.plans) && not (has_trigger t b.plans))
plan_triggers b t = rw map-append (different_snoc same_trigger trigger_mine trigger_sound (map trigger_of b.plans) t)

pub count_triggers : (qs : List Plan) → map trigger_of (count_last qs) ≡ map trigger_of qs
unfolding count_last
count_triggers [] = refl
count_triggers (q ∷ []) = refl
count_triggers (q ∷ r ∷ qs) = ap (λ (ts : List Trigger). trigger_of q ∷ ts) (count_triggers (r ∷ qs))

change-length : (b : Book) (c : Change) → length (with_change b c).changes ≡ length b.changes + 1
change-length b c = length-append b.changes (c ∷ [])

-- a plan keeps a book within its limits exactly if it passes its questions
pub plan_kept : (b : Book) (t : Trigger) → book_ok b ≡ true → first_no (plan_questions b t) ≡ 0
    → book_ok (with_plan b t) ≡ true
plan_kept b t h pass =
    let l = book_parts b h in
    let q = plan_passes b t pass in
    book_join (with_plan b t) (record {
      plans = simp length-append (omega arith);
      changes = l.changes;
      spanned = span_plan 0 (length b.changes) b.plans t q.known l.spanned;
      triggers = plan_triggers b t ∙ and_join _ _ l.triggers q.new;
      rules = l.rules;
      keys = l.keys;
    })

pub plan_back : (b : Book) (t : Trigger) → book_ok (with_plan b t) ≡ true
    → (book_ok b ≡ true) × (first_no (plan_questions b t) ≡ 0)
plan_back b t h =
    let l = book_parts (with_plan b t) h in
    let span = span_plan_back 0 (length b.changes) b.plans t l.spanned in
    let new = and_parts (different same_trigger (map trigger_of b.plans)) _ (sym (plan_triggers b t) ∙ l.triggers) in
    let room : length b.plans < max_plans = omega (arith, simp length-append at l.plans) in (
      book_join b (record {
        plans = omega arith;
        changes = l.changes;
        spanned = span.1;
        triggers = new.0;
        rules = l.rules;
        keys = l.keys;
      }),
      plan-asked b t (record { known = span.0; new = new.1; room = room }),
    )

-- and so does a change
pub change-kept : (b : Book) (c : Change) → book_ok b ≡ true → first_no (change_questions b c) ≡ 0
    → book_ok (with_change b c) ≡ true
change-kept b c h pass =
    let l = book_parts b h in
    let q = change_passes b c pass in
    book_join (with_change b c) (record {
      plans = rw count-length l.plans;
      changes = omega (arith, change-length b c, q.room);
      spanned = rw (change-length b c) (span_change 0 _ b.plans q.some q.short l.spanned);
      triggers = rw count_triggers l.triggers;
      rules =
          every_snoc change_ok b.changes c
          ∙ and_join _ _ l.rules (and_join _ _ (lt-ltb _ _ q.known) q.formed);
      keys = few-change switch_count b.changes c l.keys q.few;
    })

pub change_back : (b : Book) (c : Change) → book_ok (with_change b c) ≡ true
    → (book_ok b ≡ true) × (first_no (change_questions b c) ≡ 0)
change_back b c h =
    let l = book_parts (with_change b c) h in
    let n = change-length b c in
    let some : 0 < length b.plans =
    omega (arith, count-length b.plans, span_some 0 _ (count_last b.plans) l.spanned (omega arith)) in
    let span = span_change_back 0 (length b.changes) b.plans some (rw n at l.spanned) in
    let rules = and_parts (every change_ok b.changes) _ (sym (every_snoc change_ok b.changes c) ∙ l.rules) in
    let rule = and_parts (ltb c.switch switch_count) _ rules.1 in
    let known = ltb-true c.switch switch_count rule.0 in
    let room : length b.changes < max_changes = omega (arith, l.changes) in
    let few : (s : ℕ) → s < switch_count → kinds_on s (b.changes ++ c ∷ []) ≤ max_keys =
    λ s k. few_below switch_count s _ l.keys k in (
      book_join b (record {
        plans = rw count-length at l.plans;
        changes = omega arith;
        spanned = span.1;
        triggers = rw count_triggers at l.triggers;
        rules = rules.0;
        keys = few_all switch_count b.changes
            (λ s k. omega (arith, kinds_grow s b.changes (c ∷ []), few s k));
      }),
      change-asked b c (record {
        known = known;
        some = some;
        formed = rule.1;
        room = room;
        short = span.0;
        few = few c.switch known;
      }),
    )

-- the empty book
pub none_ok : book_ok no_plans ≡ true
unfolding book_ok spans different every few_keys_below keys_on kinds
none_ok = refl

-- reading, by what is so of the bytes passed and the book so far, and of each place and the record there: what every
-- refusal has, and every end that the book leads to, every reading has
module _ (P : Outcome → Type 0) (SoFar : ℕ → Book → Type 0) (Says : ℕ → Result Record ℕ → Type 0)
    (refuses : (k : ℕ) → 1 ≤ k → P (refusal k))
    (ends : (used : ℕ) (b : Book) → SoFar used b → Says used (Ok Ends) → P (finished (used + end_size) b))
    (opens : (used : ℕ) (b : Book) (t : Trigger) → SoFar used b → Says used (Ok (Opens t.0 t.1))
    → first_no (plan_questions b t) ≡ 0 → SoFar (used + plan_size) (with_plan b t))
    (lists : (used : ℕ) (b : Book) (c : Change) → SoFar used b → Says used (Ok (Lists c))
    → first_no (change_questions b c) ≡ 0 → SoFar (used + change_size) (with_change b c)) where
  follow-keeps : (r : Result Record ℕ) (used : ℕ) (b : Book) (on : ℕ → Book → Outcome) → Numbered r → Says used r
      → SoFar used b → ((skip : ℕ) (next : Book) → SoFar (used + suc skip) next → P (on skip next))
      → P (follow r b (finished (used + end_size) b) on)
  follow-keeps (Err k) used b on n says h f = refuses k n
  follow-keeps (Ok Ends) used b on n says h f = ends used b h says
  follow-keeps (Ok (Opens s c)) used b on n says h f =
      reply-from P 1 (plan_questions b (s, c)) refusal _ refl refuses (λ pass. f _ _ (opens used b (s, c) h says pass))
  follow-keeps (Ok (Lists c)) used b on n says h f =
      reply-from P 1 (change_questions b c) refusal _ refl refuses (λ pass. f _ _ (lists used b c h says pass))

  pub read_keeps : (skip : ℕ) (s : List ℕ) (used : ℕ) (b : Book)
      → ((i : ℕ) → Says (used + i) (record_at (drop i s))) → SoFar (used + skip) b → P (read_from skip s used b)
  unfolding read_from
  read_keeps skip [] used b says h = refuses 30 (omega arith)
  read_keeps (suc skip) (x ∷ xs) used b says h =
      let e : (k : ℕ) → used + suc k ≡ used + 1 + k = λ k. omega arith in
      read_keeps skip xs (used + 1) b (λ i. rw (e i) at (says (suc i))) (rw (e skip) at h)
  read_keeps zero (x ∷ xs) used b says h =
      let z : used + 0 ≡ used = omega arith in
      let e : (k : ℕ) → used + suc k ≡ used + 1 + k = λ k. omega arith in
      subst P (sym (read_step x xs used b))
      (follow-keeps (record_at (x ∷ xs)) used b _ (record_number (x ∷ xs)) (rw z at (says 0)) (rw z at h)
      (λ skip next k. read_keeps skip xs (used + 1) next (λ i. rw (e i) at (says (suc i))) (rw (e skip) at k)))

-- and so has every reading of all bytes
pub whole-keeps : (P : Outcome → Type 0) → ((k : ℕ) → 1 ≤ k → P (refusal k)) → (n : ℕ) (r : Outcome) → P r
    → P (whole n r)
whole-keeps P refuses n r h =
    pick-keeps P (eqb r.answer 0) _ r
    (λ e. reply-from P 1 ((38, eqb r.used n) ∷ []) refusal r refl refuses (λ pass. h)) (λ e. h)

-- bytes that are read whole are read as a beginning, and this uses all of them
pub whole-first : (n : ℕ) (r : Outcome) → (whole n r).answer ≡ 0 → (whole n r ≡ r) × (r.used ≡ n)
unfolding reply
whole-first n r h =
    by_bool (eqb r.answer 0)
    (λ e. by_bool (eqb r.used n) (λ u. (rw (e, u), eqb-true r.used n u))
    (λ u. let left : whole n r ≡ refusal 38 = rw (e, u) in
    absurd (omega (arith, h, ap (λ (o : Outcome). o.answer) left))))
    (λ e. absurd (eqb-false r.answer 0 e (rw e at h)))

-- a store that reading leaves
abbrev Left : Outcome → Type 0
Left r = stored_ok r.playbook ≡ true

refusal_left : (k : ℕ) → 1 ≤ k → Left (refusal k)
refusal_left k n = book-stored no_plans none_ok

-- so every reading leaves a stored playbook, refused or not
pub read-first-stored : (s : List ℕ) → stored_ok (read_first s).playbook ≡ true
read-first-stored s =
    read_keeps Left (λ used b. book_ok b ≡ true) (λ at r. Unit {0}) refusal_left (λ used b h says. book-stored b h)
    (λ used b t h says pass. plan_kept b t h pass) (λ used b c h says pass. change-kept b c h pass) 0 s 0 no_plans
    (λ i. tt) none_ok

pub read-stored : (s : List ℕ) → stored_ok (read_whole s).playbook ≡ true
read-stored s = whole-keeps Left refusal_left (length s) (read_first s) (read-first-stored s)
