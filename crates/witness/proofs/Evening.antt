-- The worked evening is within the premises, its calls are answered as document 01 has them, and one full round makes
-- what remains. Assumes nothing.
use mathlib.Core.Path.{◌≡◌, refl, sym, ap, ◌∙◌}
use mathlib.Core.Bool.{Bool, true, not, ◌&&◌}
use mathlib.Core.List.{List, [], ◌∷◌, ◌++◌, map, reverse, Memᴰ}
use mathlib.Core.Logic.{◌⊎◌, inl, inr, ⊎_elim}
use Prim.Native.Nat.{ℕ, zero, suc, ◌<◌}
use native.Mathlib.Omega.{arith}
use lib.Dec.{leb}
use lib.ListN.{length, get_or, take, drop, take-append-drop}
use borrow.Author.Tests.{leb-true}
use Rattle.answer.proofs.Bools.{by_bool, by_eq, and_parts, tf}
use Rattle.lists.specs.Arrays.{pad, every_tail, every}
use Rattle.lists.specs.Bytes.{be, num, field}
use Rattle.lists.specs.Counts.{count}
use Rattle.lists.specs.Kinds.{among, is_among}
use Rattle.flow.specs.Tables.{table_of}
use Rattle.flow.specs.Changes.{set_entry}
use Rattle.flow.specs.declared.Table.{Table}
use Rattle.controller.specs.Changes.{numbered}
use Rattle.controller.specs.Readiness.{ties}
use Rattle.protocol.specs.Families.{upd}
use Rattle.protocol.specs.Runs.{run}
use Rattle.protocol.proofs.Runs.{run-append}
use Rattle.domain.specs.Settings.{Decision, playbook, Keeps}
use Rattle.domain.specs.Calls.{Call, Done, Run, start, step}
use Rattle.domain.specs.Premises.{ControllerWrote, decisions, is_brought, Unforged, Premises}
use Rattle.domain.specs.Premises as premises
use Rattle.domain.specs.Agreement.{agreed_changes}
use Rattle.domain.specs.Ideals.{is_agreed, change_of, skips_none, accepts, fed}
use Rattle.domain.specs.Claim.{made, answered, unmade, Safe}
use Rattle.domain.proofs.Wrote.{entry, share_named, log-before}
use Rattle.domain.proofs.Ends.{switch-set, controller-set}
use Rattle.domain.proofs.Numbers.{at_member}
use Rattle.domain.proofs.Theorem.{demand3}
use Rattle.witness.specs.Played.{rounds}
use Rattle.witness.specs.Evening.{outage, evening, by_port, share, agrees, writes, arrives, evening_calls, answers}
use Rattle.witness.proofs.Deliveries.{honest_call, share-arrives, stray_arrives}
use Rattle.witness.proofs.Extended.{all_in_run}
use Rattle.witness.proofs.Played.{rounds-follow, brought_to_end}
use Rattle.witness.proofs.EveningEnds.{valid, near, changes, agreed_are, agrees_0, writes_0, writes-share}
use Rattle.witness.proofs.EveningEnds.{misled, holds, repeats, makes, late, ahead}

abbrev after : List Call → Run
after calls = run (step evening) (start evening) calls

-- the log, the latest call first
abbrev log : List Done
log =
    entry (arrives 0 2 1 3) 16 []
    ∷ entry (arrives 2 2 1 3) 1 []
    ∷ entry (writes 2) 0 (share 2 2 1 3)
    ∷ entry (arrives 1 2 1 3) 2 []
    ∷ entry (arrives 1 2 1 3) 0 []
    ∷ entry (writes 1) 0 (share 1 2 1 3)
    ∷ entry (writes 0) 0 (share 0 2 1 3)
    ∷ entry (arrives 3 5 2 2) 0 []
    ∷ entry (arrives 3 2 1 9) 0 []
    ∷ entry (agrees 2) 0 []
    ∷ entry (agrees 1) 0 []
    ∷ entry (agrees 0) 0 []
    ∷ []

log_is : (after evening_calls).log ≡ log
unfolding step upd
log_is =
    rw (
      switch-set evening valid 2 (omega arith),
      switch-set evening valid 5 (omega arith),
      controller-set evening valid 0 (omega arith),
      controller-set evening valid 1 (omega arith),
      controller-set evening valid 2 (omega arith),
      agrees_0 0 (omega arith),
      agrees_0 1 (omega arith),
      agrees_0 2 (omega arith),
      misled,
      ahead,
      holds,
      repeats,
      makes,
      late,
      writes_0 0 (omega arith),
      writes_0 1 (omega arith),
      writes_0 2 (omega arith),
      writes-share 0 (omega arith),
      writes-share 1 (omega arith),
      writes-share 2 (omega arith),
    )

pub answers_are : map (λ (d : Done). d.answer) (after evening_calls).log ≡ reverse answers
answers_are = rw log_is

-- the log when k calls were made
abbrev first : ℕ → List Call
first k = take k evening_calls

abbrev log_at : ℕ → List Done
log_at k = drop (length (drop k evening_calls)) log

log_at_lem : (k : ℕ) → (after (first k)).log ≡ log_at k
log_at_lem k =
    let rest = drop k evening_calls in
    sym (log-before evening (after (first k)) rest)
    ∙ ap (λ (r : Run). drop (length rest) r.log)
    (sym (run-append (step evening) (start evening) (first k) rest) ∙ ap after (take-append-drop k evening_calls))
    ∙ ap (drop (length rest)) log_is

-- the shares that arrive: those of the stray, and those that were written before
astray : (k s number port : ℕ) → Unforged evening (after (first k)) (arrives 3 s number port)
astray k s number port =
    honest_call evening (after (first k)) (arrives 3 s number port)
    (stray_arrives evening (after (first k)) s 3 (share 3 s number port)
    (share_named (evening.key 3 s) 3 s number (by_port port)) refl)

written : (k c : ℕ) → ControllerWrote (log_at k) c 2 (share c 2 1 3)
    → Unforged evening (after (first k)) (arrives c 2 1 3)
written k c wrote =
    honest_call evening (after (first k)) (arrives c 2 1 3)
    (share-arrives evening (after (first k)) 2 c (share c 2 1 3) (share_named (evening.key c 2) c 2 1 (by_port 3))
    (rw (log_at_lem k) wrote))

-- at a place of the log when k calls were made
abbrev place : ℕ → ℕ → Done
place k i = get_or (log_at k) i (entry (agrees 0) 0 [])

there : (k i : ℕ) → i < length (log_at k) → Memᴰ (place k i) (log_at k)
there k i l = at_member (log_at k) i (entry (agrees 0) 0 []) l

-- each controller that keeps the rules took the one decision
decided_once : (test : ℕ → Bool) → test 0 ≡ true → (c : ℕ) → Keeps evening c
    → decisions test c (after evening_calls).log ≡ outage ∷ []
unfolding decisions
decided_once test some zero keeps = rw (log_is, some)
decided_once test some (suc zero) keeps = rw (log_is, some)
decided_once test some (suc (suc zero)) keeps = rw (log_is, some)
decided_once test some (suc (suc (suc zero))) keeps = tf refl keeps.1
decided_once test some (suc (suc (suc (suc c)))) keeps = absurd (omega (arith, keeps.0))

-- the evening is within the premises
pub fair : Premises evening evening_calls
unfolding every_tail every
fair = record {
  in_run = all_in_run evening (start evening) evening_calls refl;
  unforged = (
    tt,
    (
      tt,
      (
        tt,
        (
          astray 3 2 1 9,
          (
            astray 4 5 2 2,
            (
              tt,
              (
                tt,
                (
                  written 7 1 (premises.by_controller (there 7 0 (omega arith))),
                  (
                    written 8 1 (premises.by_controller (there 8 1 (omega arith))),
                    (
                      tt,
                      (
                        written 10 2 (premises.by_controller (there 10 0 (omega arith))),
                        (written 11 0 (premises.by_controller (there 11 5 (omega arith))), tt),
                      ),
                    ),
                  ),
                ),
              ),
            ),
          ),
        ),
      ),
    ),
  );
  beginning = λ c keeps. ([], ap (λ (l : List Decision). l ++ []) (sym (decided_once is_brought refl c keeps)));
}

-- what came of it: change 1 is made on switch 2, whatever the stray asked for, and change 2 is not yet made
pub made_so_far : answered evening (after evening_calls) ≡ 1 ∷ []
unfolding made be num field
made_so_far = rw log_is

abbrev table_by : ℕ → Table
table_by port = table_of (record { prefix = 167772160; length = 8; port = port } ∷ [])

pub table_2 : ((after evening_calls).switches 2).table ≡ table_by 3
unfolding step upd set_entry
table_2 = rw (switch-set evening valid 2 (omega arith), misled, holds, repeats, makes, late)

pub last_5 : ((after evening_calls).switches 5).last ≡ 0
unfolding step upd
last_5 = rw (switch-set evening valid 5 (omega arith), ahead)

remain : unmade evening (agreed_changes (playbook evening) (outage ∷ [])) (after evening_calls) ≡ 1
unfolding count among
remain = rw (agreed_are, made_so_far)

-- so one full round more makes all
abbrev pub whole-evening : List Call
whole-evening = evening_calls ++ rounds evening 1 (after evening_calls)

pub whole_fair : Premises evening whole-evening
whole_fair = rounds-follow evening valid evening_calls fair 1

near_made : is_among 2 (answered evening (after whole-evening)) ≡ true
near_made =
    let ends = brought_to_end evening valid evening_calls fair (outage ∷ [])
    (λ c keeps. ([], decided_once is_brought refl c keeps)) in
    rw remain at (ends (numbered 1 2 near) (rw agreed_are (Memᴰ.tail (Memᴰ.head refl))))

safe : Safe evening (after whole-evening)
safe = (demand3 evening valid).safe whole-evening whole_fair

-- the ideal controller accepts change 1, then change 2, and nothing else
module _ (k : ℕ) where
  by_accepted : {C : Type 0} (ks : List ℕ) → accepts changes (fed changes ks) k ≡ true
      → (k ≡ 1 → accepts changes (fed changes ks) 1 ≡ true → C)
      → (k ≡ 2 → accepts changes (fed changes ks) 2 ≡ true → C) → C
  by_accepted ks h one two =
      let made = (fed changes ks).made in
      let agreed = is_agreed changes k in
      let new = not (is_among k made) in
      let some = and_parts agreed new (and_parts (agreed && new) (skips_none changes made (change_of changes k)) h).0 in
      let both = and_parts (leb 1 k) (leb k 2) some.0 in
      let low = leb-true 1 k both.0 in
      let high = leb-true k 2 both.1 in
      by_eq k 1 (λ e. one e (rw e at h)) (λ other. let e : k ≡ 2 = omega arith in two e (rw e at h))

  first-accepted : accepts changes (fed changes []) k ≡ true → k ≡ 1
  unfolding fed among every_tail every ties
  first-accepted h = by_accepted [] h (λ e y. e) (λ e y. tf y refl)

  second-accepted : accepts changes (fed changes (1 ∷ [])) k ≡ true → k ≡ 2
  unfolding fed among every_tail every ties
  second-accepted h = by_accepted (1 ∷ []) h (λ e y. tf y refl) (λ e y. e)

  none_accepted : accepts changes (fed changes (2 ∷ 1 ∷ [])) k ≡ true → ⊥
  unfolding fed among every_tail every ties
  none_accepted h = by_accepted (2 ∷ 1 ∷ []) h (λ e y. tf y refl) (λ e y. tf y refl)

orderly : (ks : List ℕ) → (fed changes ks).refused ≡ [] → (ks ≡ []) ⊎ ((ks ≡ 1 ∷ []) ⊎ (ks ≡ 2 ∷ 1 ∷ []))
unfolding fed
orderly [] h = inl refl
orderly (k ∷ ks) h =
    by_bool (accepts changes (fed changes ks) k)
    (λ e. ⊎_elim
    (λ a. inr (inl (rw (a, first-accepted k (rw a at e)))))
    (⊎_elim
    (λ a. inr (inr (rw (a, second-accepted k (rw a at e)))))
    (λ a. absurd (none_accepted k (rw a at e))))
    (orderly ks (rw e at h)))
    (λ e. let some : k ∷ (fed changes ks).refused ≡ [] = rw e at h in never cc)
  where
    never : {C : Type 0} → ◌≡◌ {A = ℕ} 0 1 → C
    never z = absurd (omega arith)

-- so these are the changes made in the end, in their order, and the tables are the ideal ones
pub all_made : answered evening (after whole-evening) ≡ 2 ∷ 1 ∷ []
unfolding among
all_made =
    let ks = answered evening (after whole-evening) in
    ⊎_elim (λ a. tf near_made (rw a)) (⊎_elim (λ a. tf near_made (rw a)) (λ a. a))
    (orderly ks (rw agreed_are at safe.in_order))

pub tables-made : (((after whole-evening).switches 2).table ≡ table_by 3)
    × (((after whole-evening).switches 5).table ≡ table_by 2)
unfolding fed among every_tail every upd set_entry pad ties
tables-made =
    (safe.tables 2 (omega arith) ∙ rw (all_made, agreed_are), safe.tables 5 (omega arith) ∙ rw (all_made, agreed_are))
