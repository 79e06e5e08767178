-- The reader's two steps, of a plan and of a change: what each of their questions is answered with from the store and
-- from what is kept beside it, and that both stay as they are to be; and the turns of its loop. Assumes nothing.
use mathlib.Core.Path.{◌≡◌, refl, sym, ap, ap₂, subst⁻¹, ◌∙◌}
use mathlib.Core.Bool.{Bool, true, false, not, ◌&&◌, and-false}
use mathlib.Core.List.{List, [], ◌∷◌, ◌++◌}
use Prim.Native.Nat.{ℕ, ◌+◌, ◌-◌, ◌≤◌, ◌<◌}
use native.Mathlib.Omega.{arith}
use lib.Dec.{ltb, leb}
use lib.ListN.{length, drop, set, get_or, length-drop}
use borrow.Author.Tests.{lt-ltb, le-ltb}
use Rattle.std.specs.Prelude.{Result, Ok, Err}
use Rattle.answer.specs.Ask.{Question, reply}
use Rattle.answer.specs.Limits.{switch_count}
use Rattle.answer.proofs.Asked.{none_asked, refused, asked}
use Rattle.flow.specs.Rules.{Key, rule_key, well_formed}
use Rattle.playbook.specs.Limits.{max_plans, max_changes, max_of_plan, max_keys, plan_size, change_size, end_size}
use Rattle.playbook.specs.Books.{Book, empty_plan, book_of, store_of, Trigger, has_trigger, new_plan, last_count}
use Rattle.playbook.specs.Books.{kinds_on, with_plan, with_change}
use Rattle.playbook.specs.Reading.{refusal, read_from}
use Rattle.playbook.specs.Storing.{book_ok, stored_ok}
use Rattle.playbook.specs.Asking.{record_at, plan_questions, change_questions}
use Rattle.playbook.specs.Gathering.{place_of, Marked, with_key, Collected}
use Rattle.playbook.specs.declared.Change.{Change}
use Rattle.playbook.specs.declared.Plan.{Plan}
use Rattle.playbook.specs.declared.Playbook.{Playbook}
use Rattle.playbook.specs.declared.records.Record.TheVariants.{Opens, Lists, Ends}
use Rattle.playbook.proofs.Gathered.{collected_fits, collected_more}
use Rattle.playbook.proofs.Kept.{stored_parts, stored_sound, book_fits, book-stored, plan_kept, change-kept}
use Rattle.playbook.proofs.Kept.{count_triggers}
use Rattle.playbook.proofs.Marked.{marked-same, marked_more}
use Rattle.playbook.proofs.Past.{record_within, by_record, after, asked_after, asked_yes}
use Rattle.playbook.proofs.Sound.{Sound, means, sound_planned, sound_listed}
use Rattle.playbook.proofs.Steps.{plan_stored, change_stored, plan_more, change_more, last_count_lem}

-- what questions are answered with
abbrev pub Verdict : Type 0
Verdict = Result (Unit {0}) ℕ

abbrev pub verdict : List Question → Verdict
verdict qs = reply qs Err (Ok tt)

-- a stored store, as long as its arrays
module _ (p : Playbook) (n : length p.plans ≡ max_plans) (m : length p.changes ≡ max_changes)
    (h : stored_ok p ≡ true) where
  pub store-sound : Sound p
  store-sound = stored_sound p n m h

  abbrev b : Book
  b = book_of p

  now : book_ok b ≡ true
  now = (stored_parts p h).book

  -- a plan's record
  module _ (t : Trigger) (byte : t.1 < 256) (used : List Bool) (marked : Marked used b.plans) where
    pub plan_unknown : switch_count ≤ t.0 → Err 12 ≡ verdict (plan_questions b t)
    plan_unknown l = sym (refused Err (Ok tt) 12 _ _ (le-ltb _ _ l))

    module _ (known : t.0 < switch_count) where
      12_yes : verdict (plan_questions b t) ≡ verdict ((35, not (has_trigger t b.plans)) ∷ (36, ltb (length b.plans) max_plans) ∷ [])
      12_yes = asked Err (Ok tt) 12 _ _ (lt-ltb _ _ known)

      pub plan_used : get_or used (place_of t) false ≡ true → Err 35 ≡ verdict (plan_questions b t)
      plan_used e = sym (12_yes ∙ refused Err (Ok tt) 35 _ _ (ap not (sym (marked.each t known byte) ∙ e)))

      module _ (new : get_or used (place_of t) false ≡ false) where
        35_yes : verdict (plan_questions b t) ≡ verdict ((36, ltb (length b.plans) max_plans) ∷ [])
        35_yes = 12_yes ∙ asked Err (Ok tt) 35 _ _ (ap not (sym (marked.each t known byte) ∙ new))

        planned : p.planned ≡ length b.plans
        planned = sound_planned p store-sound

        pub plan_over : max_plans ≤ p.planned → Err 36 ≡ verdict (plan_questions b t)
        plan_over l = sym (35_yes ∙ refused Err (Ok tt) 36 _ _ (le-ltb _ _ (omega (arith, planned))))

        module _ (room : p.planned < max_plans) where
          pub plan-ok : Ok tt ≡ verdict (plan_questions b t)
          plan-ok =
              sym (35_yes ∙ asked Err (Ok tt) 36 _ _ (lt-ltb _ _ (omega (arith, planned))) ∙ none_asked Err (Ok tt))

          next : book_ok (with_plan b t) ≡ true
          next = plan_kept b t now (asked_yes (plan_questions b t) refl (Ok tt) plan-ok refl)

          pub plan_next : plan_stored p t ≡ store_of (with_plan b t)
          plan_next = plan_more p t store-sound

          pub plan-stored : stored_ok (plan_stored p t) ≡ true
          plan-stored = ap stored_ok plan_next ∙ book-stored (with_plan b t) next

          pub plan-marked : Marked (set used (place_of t) true) (book_of (plan_stored p t)).plans
          plan-marked =
              let on = means (plan_stored p t) (with_plan b t) plan_next (book_fits (with_plan b t) next) in
              subst⁻¹ (λ (c : Book). Marked (set used (place_of t) true) c.plans) on
              (marked_more marked (new_plan t (length b.changes)) known byte)

  -- a change's record
  module _ (c : Change) (sets : List (List Key)) (collected : Collected sets b.changes) where
    abbrev qs_34 : List Question
    qs_34 =
        (34, ltb 0 (length b.plans))
        ∷ (15, well_formed c.rule)
        ∷ (36, ltb (length b.changes) max_changes && ltb (last_count b.plans) max_of_plan)
        ∷ (37, leb (kinds_on c.switch (b.changes ++ c ∷ [])) max_keys)
        ∷ []

    pub change_unknown : switch_count ≤ c.switch → Err 12 ≡ verdict (change_questions b c)
    change_unknown l = sym (refused Err (Ok tt) 12 _ _ (le-ltb _ _ l))

    module _ (known : c.switch < switch_count) where
      changes_12 : verdict (change_questions b c) ≡ verdict qs_34
      changes_12 = asked Err (Ok tt) 12 _ _ (lt-ltb _ _ known)

      plans-now : p.planned ≡ length b.plans
      plans-now = sound_planned p store-sound

      pub change_none : p.planned ≡ 0 → Err 34 ≡ verdict (change_questions b c)
      change_none z = sym (changes_12 ∙ refused Err (Ok tt) 34 _ _ (le-ltb _ _ (omega (arith, plans-now))))

      module _ (some : 0 < p.planned) where
        changes_34 : verdict (change_questions b c)
            ≡ verdict ((15, well_formed c.rule)
            ∷ (36, ltb (length b.changes) max_changes && ltb (last_count b.plans) max_of_plan)
            ∷ (37, leb (kinds_on c.switch (b.changes ++ c ∷ [])) max_keys)
            ∷ [])
        changes_34 = changes_12 ∙ asked Err (Ok tt) 34 _ _ (lt-ltb _ _ (omega (arith, plans-now)))

        pub change_malformed : well_formed c.rule ≡ false → Err 15 ≡ verdict (change_questions b c)
        change_malformed e = sym (changes_34 ∙ refused Err (Ok tt) 15 _ _ e)

        module _ (formed : well_formed c.rule ≡ true) where
          changes_15 : verdict (change_questions b c)
              ≡ verdict ((36, ltb (length b.changes) max_changes && ltb (last_count b.plans) max_of_plan)
              ∷ (37, leb (kinds_on c.switch (b.changes ++ c ∷ [])) max_keys)
              ∷ [])
          changes_15 = changes_34 ∙ asked Err (Ok tt) 15 _ _ formed

          -- the last plan
          abbrev last_plan : Plan
          last_plan = get_or p.plans (p.planned - 1) empty_plan

          listed-now : p.listed ≡ length b.changes
          listed-now = sound_listed p store-sound

          count-now : last_count b.plans ≡ last_plan.count
          count-now = last_count_lem p store-sound some

          pub change_over : max_changes ≤ p.listed → Err 36 ≡ verdict (change_questions b c)
          change_over l =
              let full : ltb (length b.changes) max_changes ≡ false = le-ltb _ _ (omega (arith, listed-now)) in
              sym (changes_15 ∙ refused Err (Ok tt) 36 _ _ (rw full))

          pub change_long : max_of_plan ≤ last_plan.count → Err 36 ≡ verdict (change_questions b c)
          change_long l =
              let full : ltb (last_count b.plans) max_of_plan ≡ false = le-ltb _ _ (omega (arith, count-now)) in
              sym (changes_15 ∙ refused Err (Ok tt) 36 _ _ (rw (full, and-false)))

          module _ (room : p.listed < max_changes) (short : last_plan.count < max_of_plan) where
            changes_36 : verdict (change_questions b c)
                ≡ verdict ((37, leb (kinds_on c.switch (b.changes ++ c ∷ [])) max_keys) ∷ [])
            changes_36 =
                let free : ltb (length b.changes) max_changes ≡ true = lt-ltb _ _ (omega (arith, listed-now)) in
                let left : ltb (last_count b.plans) max_of_plan ≡ true = lt-ltb _ _ (omega (arith, count-now)) in
                changes_15 ∙ asked Err (Ok tt) 36 _ _ (rw (free, left))

            abbrev more : List Key
            more = with_key (rule_key c.rule) (get_or sets c.switch [])

            pub change_many : leb (length more) max_keys ≡ false → Err 37 ≡ verdict (change_questions b c)
            change_many e =
                sym (changes_36 ∙ refused Err (Ok tt) 37 _ _ (sym (collected_fits collected c known) ∙ e))

            module _ (few : leb (length more) max_keys ≡ true) where
              pub change-ok : Ok tt ≡ verdict (change_questions b c)
              change-ok =
                  sym (changes_36 ∙ asked Err (Ok tt) 37 _ _ (sym (collected_fits collected c known) ∙ few)
                  ∙ none_asked Err (Ok tt))

              after-change : book_ok (with_change b c) ≡ true
              after-change =
                  change-kept b c now (asked_yes (change_questions b c) refl (Ok tt) change-ok refl)

              pub change_next : change_stored p c ≡ store_of (with_change b c)
              change_next = change_more p c store-sound some

              pub change-stored : stored_ok (change_stored p c) ≡ true
              change-stored = ap stored_ok change_next ∙ book-stored (with_change b c) after-change

              on : book_of (change_stored p c) ≡ with_change b c
              on =
                  means (change_stored p c) (with_change b c) change_next (book_fits (with_change b c) after-change)

              pub change-marked : (used : List Bool) → Marked used b.plans
                  → Marked used (book_of (change_stored p c)).plans
              change-marked used marked =
                  subst⁻¹ (λ (d : Book). Marked used d.plans) on
                  (marked-same marked (sym (count_triggers b.plans)))

              pub change-collected : Collected (set sets c.switch more) (book_of (change_stored p c)).changes
              change-collected =
                  subst⁻¹ (λ (d : Book). Collected (set sets c.switch more) d.changes) on
                  (collected_more collected c known)

-- the store that a step leaves, and what it means
pub stored_means : (p : Playbook) (next : Book) → stored_ok p ≡ true → p ≡ store_of next → book_of p ≡ next
stored_means p next h e =
    let parts = stored_parts p h in
    let plans = ap (λ (q : Playbook). q.planned) e in
    let changes = ap (λ (q : Playbook). q.listed) e in
    means p next e (record { plans = omega (arith, parts.planned); changes = omega (arith, parts.listed) })

pub stays_sound : (p : Playbook) (next : Book) → stored_ok p ≡ true → p ≡ store_of next → Sound p
stays_sound p next h e = e ∙ ap store_of (sym (stored_means p next h e))

-- what is read of all the bytes from a book on is what is read of those that are left, from another
abbrev pub SoFar : List ℕ → Book → List ℕ → Book → Type 0
SoFar s begun rest b =
    (length rest ≤ length s) × (read_from 0 s 0 begun ≡ read_from 0 rest (length s - length rest) b)

module _ (s : List ℕ) (begun : Book) (rest : List ℕ) (b : Book) (so_far : SoFar s begun rest b) where
  -- no bytes are left, or none that are a record
  pub so_refused : (k : ℕ) → record_at rest ≡ Err k → read_from 0 s 0 begun ≡ refusal k
  so_refused k e = so_far.1 ∙ by_record rest (length s - length rest) b (Err k) e

  pub so_ended : (p : Playbook) → p ≡ store_of b → record_at rest ≡ Ok Ends
      → record { answer = 0; used = length s - length (drop end_size rest); playbook = p }
      ≡ read_from 0 s 0 begun
  so_ended p is e =
      let fits = record_within rest Ends e in
      let behind : length s - length (drop end_size rest) ≡ length s - length rest + 1 =
      simp length-drop (omega (arith, so_far.0)) in
      ap₂ (λ (n : ℕ) (q : Playbook). record { answer = 0; used = n; playbook = q }) behind is
      ∙ sym (so_far.1 ∙ by_record rest (length s - length rest) b (Ok Ends) e)

  -- past a record
  past-it : (n : ℕ) (next : Book) → n ≤ length rest
      → read_from 0 rest (length s - length rest) b ≡ read_from 0 (drop n rest) (length s - length rest + n) next
      → SoFar s begun (drop n rest) next
  past-it n next fits e =
      let left = length-drop n rest in
      let behind : length s - length rest + n ≡ length s - length (drop n rest) = omega (arith, so_far.0) in
      (omega (arith, so_far.0), so_far.1 ∙ e ∙ ap (λ (i : ℕ). read_from 0 (drop n rest) i next) behind)

  module _ (t : Trigger) (here : record_at rest ≡ Ok (Opens t.0 t.1)) (r : Verdict)
      (asked : r ≡ verdict (plan_questions b t)) where
    opens-to : read_from 0 rest (length s - length rest) b
        ≡ after r (read_from 0 (drop plan_size rest) (length s - length rest + plan_size) (with_plan b t))
    opens-to =
        by_record rest (length s - length rest) b (Ok (Opens t.0 t.1)) here
        ∙ asked_after (plan_questions b t) _ r asked

    pub opens_refused : (k : ℕ) → r ≡ Err k → read_from 0 s 0 begun ≡ refusal k
    opens_refused k e = so_far.1 ∙ opens-to ∙ rw e

    pub opens_on : r ≡ Ok tt → SoFar s begun (drop plan_size rest) (with_plan b t)
    opens_on e = past-it plan_size (with_plan b t) (record_within rest (Opens t.0 t.1) here) (opens-to ∙ rw e)

  module _ (c : Change) (here : record_at rest ≡ Ok (Lists c)) (r : Verdict)
      (asked : r ≡ verdict (change_questions b c)) where
    lists-to : read_from 0 rest (length s - length rest) b
        ≡ after r (read_from 0 (drop change_size rest) (length s - length rest + change_size) (with_change b c))
    lists-to =
        by_record rest (length s - length rest) b (Ok (Lists c)) here
        ∙ asked_after (change_questions b c) _ r asked

    pub lists_refused : (k : ℕ) → r ≡ Err k → read_from 0 s 0 begun ≡ refusal k
    lists_refused k e = so_far.1 ∙ lists-to ∙ rw e

    pub lists_on : r ≡ Ok tt → SoFar s begun (drop change_size rest) (with_change b c)
    lists_on e = past-it change_size (with_change b c) (record_within rest (Lists c) here) (lists-to ∙ rw e)
