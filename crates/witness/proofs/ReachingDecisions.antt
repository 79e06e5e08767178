-- The whole agreed list brought to every controller that keeps the rules, before anything is made. One that was brought
-- a beginning of it holds at most the changes of that beginning, so with at most 64 agreed changes none answers 24.
use mathlib.Core.Path.{◌≡◌, sym, ap, ◌∙◌, subst}
use mathlib.Core.List.{List, [], ◌∷◌, ◌++◌, append-nil, append_assoc}
use Prim.Native.Nat.{ℕ}
use native.Mathlib.Omega.{arith}
use lib.ListN.{length, length-append}
use Rattle.lists.proofs.Passing.{passing-few}
use Rattle.controller.specs.Changes.{is_undone, still_undone, undone_of}
use Rattle.controller.specs.Decisions.{given_by}
use Rattle.controller.specs.declared.Controller.{Controller}
use Rattle.controller.specs.declared.Reply.{Reply}
use Rattle.protocol.specs.Runs.{run}
use Rattle.protocol.proofs.Runs.{run-append}
use Rattle.domain.specs.Settings.{Decision, Setting, Valid, playbook, Keeps}
use Rattle.domain.specs.Calls.{Run, step}
use Rattle.domain.specs.Premises.{brought}
use Rattle.domain.specs.Agreement.{Course, beginning, next, agreed_changes}
use Rattle.domain.proofs.Courses.{along-append}
use Rattle.domain.proofs.Agreed.{beginning-few}
use Rattle.domain.proofs.Ends.{ControllerFine, course_of, by_decision}
use Rattle.domain.proofs.Reached.{Reached}
use Rattle.domain.proofs.Turns.{Fair, walked}
use Rattle.witness.specs.Reaching.{FewAgreed, deciding_below, bringing}
use Rattle.witness.proofs.Extended.{fair_join}
use Rattle.witness.proofs.Played.{nothing_fair}
use Rattle.witness.proofs.Deciding.{NotFull, decided_all}

module _ (S : Setting) (few : FewAgreed S) where
  -- the next decision of the agreed list finds room
  module _ (c : ℕ) (ds : List Decision) (d : Decision) (rest : List Decision) (begins : S.agreed ≡ ds ++ d ∷ rest)
      (t : Controller) (f : ControllerFine S c ds t) where
    abbrev course : Course
    course = course_of S ds

    -- what it gives
    given_is : given_by t (d.switch, d.cause) ≡ next course d
    given_is = rw (f.follows.book, f.follows.last)

    has_room : NotFull d t
    unfolding agreed_changes
    has_room e =
        by_decision S c ds t f d.switch d.serial d.cause
        (λ room is on. omega (arith, e, ap (λ (r : Reply). r.answer) is))
        (λ large is on.
        let given = given_by t (d.switch, d.cause) in
        let acks = t.progress.acknowledged in
        let whole : S.agreed ≡ (ds ++ d ∷ []) ++ rest = begins ∙ sym (append_assoc ds (d ∷ []) rest) in
        let grown : (course_of S (ds ++ d ∷ [])).changes ≡ course.changes ++ next course d =
        ap (λ (a : Course). a.changes) (along-append (beginning (playbook S)) ds (d ∷ []) ∙ on) in
        omega (
          arith,
          large,
          few,
          length-append (undone_of t) (still_undone acks given),
          ap length f.follows.undone,
          passing-few (is_undone acks) course.changes,
          passing-few (is_undone acks) given,
          ap length given_is,
          ap length grown,
          length-append course.changes (next course d),
          beginning-few S (ds ++ d ∷ []) rest whole,
        ))
        (λ q none other is on. other (sym (ap (λ (r : Reply). r.answer) is) ∙ e))

  -- so each is brought in turn
  pub all_brought : (v : Valid S) (ds rest : List Decision) → S.agreed ≡ ds ++ rest → (r : Run) → Reached S r
      → ((c : ℕ) → Keeps S c → brought c r.log ≡ ds)
      → Fair S v r (bringing S rest)
      × ((c : ℕ) → Keeps S c → brought c (run (step S) r (bringing S rest)).log ≡ S.agreed)
  unfolding bringing
  all_brought v ds [] begins r R so_far = (
    nothing_fair S v r (λ c keeps. ([], begins ∙ ap (λ b. b ++ []) (sym (so_far c keeps)))),
    λ c keeps. so_far c keeps ∙ sym (begins ∙ append-nil ds),
  )
  all_brought v ds (d ∷ rest) begins r R so_far =
      let one = decided_all S v ds d rest begins r R (λ c keeps. (
        so_far c keeps,
        has_room c ds d rest begins (r.controllers c)
            (subst (λ l. ControllerFine S c l (r.controllers c)) (so_far c keeps) (R.controllers c keeps)),
      )) in
      let calls = deciding_below S d S.n in
      let more = all_brought v (ds ++ d ∷ []) rest (begins ∙ sym (append_assoc ds (d ∷ []) rest))
      (run (step S) r calls) (walked S v r R calls one.0).reached one.1 in (
        fair_join S v r calls (bringing S rest) one.0 more.0,
        λ c keeps.
            ap (λ (u : Run). brought c u.log) (run-append (step S) r calls (bringing S rest)) ∙ more.1 c keeps,
      )
