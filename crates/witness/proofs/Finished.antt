-- Every agreed list can be brought to its end. Once all changes of its beginning are made, each switch acknowledges; then
-- no controller that keeps the rules holds a change, so none answers the next decision with 24, and full rounds make its
-- changes.
use mathlib.Core.Path.{◌≡◌, refl, sym, ap, ◌∙◌, subst}
use mathlib.Core.Bool.{not, ◌&&◌}
use mathlib.Core.List.Memᴰ
use mathlib.Core.List.{List, [], ◌∷◌, ◌++◌, append-nil, append_assoc}
use Prim.Native.Nat.{ℕ, zero, suc}
use native.Mathlib.Omega.{arith}
use Rattle.message.specs.Writing.{is_message}
use lib.ListN.{length}
use Rattle.answer.proofs.Bools.{pick-keeps}
use Rattle.controller.specs.Calls.{decides, writes_share, manages}
use Rattle.controller.specs.Calls as controller-calls
use Rattle.controller.proofs.Full.{full_means}
use Rattle.protocol.specs.Runs.{run, Every}
use Rattle.protocol.proofs.Runs.{run-append, every_join}
use Rattle.domain.specs.Settings.{Decision, Setting, Valid, Keeps}
use Rattle.domain.specs.Calls.{Call, at_switch, at_controller, Run, start, step}
use Rattle.domain.specs.Premises.{decisions, brought, Premises}
use Rattle.domain.specs.Agreement.{agreed_changes}
use Rattle.domain.specs.Rounds.{share_now}
use Rattle.domain.specs.Claim.{changes_of, unmade}
use Rattle.domain.proofs.Reached.{Reached, run_reached}
use Rattle.domain.proofs.Turns.{Fair, walked}
use Rattle.domain.proofs.Told.{none-held}
use Rattle.witness.specs.Finished.{Finished}
use Rattle.witness.specs.Reaching.{deciding_below}
use Rattle.witness.specs.Played.{tells, shares, for_each, first_half, second_half, round, rounds}
use Rattle.witness.proofs.Extended.{NoDecision, fair_join, premises_join}
use Rattle.witness.proofs.Deciding.{decided_all}
use Rattle.witness.proofs.Played.{first_fair, told, rounds-follow, brought_to_end}

module _ (S : Setting) where
  -- calls that bring no decision leave what was brought
  abbrev pub Quiet : Run → List Call → Type 0
  Quiet = Every (step S) (λ r x. NoDecision x)

  quiet_call : (c : ℕ) (r : Run) (x : Call) → NoDecision x → brought c (step S r x).log ≡ brought c r.log
  unfolding step decisions
  quiet_call c r (at_switch s x) h = append-nil (brought c r.log)
  quiet_call c r (at_controller i (controller-calls.receives bytes)) h = append-nil (brought c r.log)
  quiet_call c r (at_controller i (manages (decides s serial cause))) h = absurd h
  quiet_call c r (at_controller i (writes_share s frame at)) h = append-nil (brought c r.log)

  pub quiet_brought : (c : ℕ) (r : Run) (xs : List Call) → Quiet r xs
      → brought c (run (step S) r xs).log ≡ brought c r.log
  quiet_brought c r [] h = refl
  quiet_brought c r (x ∷ xs) h = quiet_brought c (step S r x) xs h.1 ∙ quiet_call c r x h.0

  -- rounds are such calls
  each_quiet : (k : ℕ) (calls : Run → ℕ → List Call) → ((u : Run) (i : ℕ) → Quiet u (calls u i)) → (r : Run)
      → Quiet r (for_each S k calls r)
  unfolding for_each
  each_quiet zero calls h r = tt
  each_quiet (suc k) calls h r =
      every_join (step S) (λ r x. NoDecision x) r (calls r k) _ (h r k)
      (each_quiet k calls h (run (step S) r (calls r k)))

  pub first_quiet : (r : Run) → Quiet r (first_half S r)
  first_quiet =
      each_quiet _ _ (λ u s. each_quiet S.n (tells S s)
      (λ w c. pick-keeps (Quiet w) (S.strays c) _ _ (λ e. tt) (λ e. (tt, (tt, tt)))) u)

  pub shares_quiet : (s : ℕ) (r : Run) → Quiet r (for_each S S.n (shares S s) r)
  shares_quiet s =
      each_quiet S.n (shares S s)
      (λ w c. pick-keeps (Quiet w) (not (S.strays c) && is_message (share_now w c s)) _ _ (λ e. (tt, (tt, tt)))
      (λ e. tt))

  second_quiet : (r : Run) → Quiet r (second_half S r)
  second_quiet = each_quiet _ _ (λ u s. shares_quiet s u)

  round_quiet : (r : Run) → Quiet r (round S r)
  round_quiet r =
      every_join (step S) (λ r x. NoDecision x) r (first_half S r) _ (first_quiet r)
      (second_quiet (run (step S) r (first_half S r)))

  rounds_quiet : (k : ℕ) (r : Run) → Quiet r (rounds S k r)
  unfolding rounds
  rounds_quiet zero r = tt
  rounds_quiet (suc k) r =
      every_join (step S) (λ r x. NoDecision x) r (round S r) _ (round_quiet r)
      (rounds_quiet k (run (step S) r (round S r)))

  -- nothing is agreed on yet
  none_finished : Finished S [] []
  unfolding decisions agreed_changes
  none_finished = record {
    within = record { in_run = tt; unforged = tt; beginning = λ c keeps. (S.agreed, refl) };
    all_brought = λ c keeps. refl;
    all_made = λ u h. absurd (Memᴰ.not-nil h);
  }

  -- one decision more
  module _ (v : Valid S) (ds : List Decision) (d : Decision) (rest : List Decision)
      (begins : S.agreed ≡ ds ++ d ∷ rest) where
    module _ (calls : List Call) (F : Finished S ds calls) where
      abbrev before : Run
      before = run (step S) (start S) calls

      B : Reached S before
      B = run_reached S v calls F.within

      abbrev first : List Call
      first = first_half S before

      abbrev told_all : Run
      told_all = run (step S) before first

      f : Fair S v before first
      f = first_fair S v before B F.within.beginning

      A : Reached S told_all
      A = (walked S v before B first f).reached

      -- a controller that holds nothing does not answer 24
      T : Fair S v told_all (deciding_below S d S.n)
          × ((c : ℕ) → Keeps S c → brought c (run (step S) told_all (deciding_below S d S.n)).log ≡ ds ++ d ∷ [])
      T =
          decided_all S v ds d rest begins told_all A (λ c keeps.
          let same = quiet_brought c before first (first_quiet before) ∙ F.all_brought c keeps in
          let none = none-held S v before B first f c keeps (λ s low. told S v s c low keeps before)
          (λ u h. F.all_made u (rw same at h)) in (
            same,
            λ e.
                let ok = (A.controllers c keeps).ok in
                let full = full_means (told_all.controllers c) ok d.switch d.serial d.cause e in
                omega (arith, full, ap length none),
          ))

      abbrev decided : List Call
      decided = calls ++ (first ++ deciding_below S d S.n)

      p : Premises S decided
      p = premises_join S v calls _ F.within (fair_join S v before first _ f T.0)

      abbrev then : Run
      then = run (step S) (start S) decided

      then_is : then ≡ run (step S) told_all (deciding_below S d S.n)
      then_is =
          run-append (step S) (start S) calls (first ++ deciding_below S d S.n)
          ∙ run-append (step S) before first (deciding_below S d S.n)

      all_decided : (c : ℕ) → Keeps S c → brought c then.log ≡ ds ++ d ∷ []
      all_decided c keeps = ap (λ (r : Run). brought c r.log) then_is ∙ T.1 c keeps

      abbrev left : List Call
      left = rounds S (unmade S (changes_of S (ds ++ d ∷ [])) then) then

      next-finished : Finished S (ds ++ d ∷ []) (decided ++ left)
      next-finished = record {
        within = rounds-follow S v decided p _;
        all_brought = λ c keeps.
            ap (λ (r : Run). brought c r.log) (run-append (step S) (start S) decided left)
            ∙ quiet_brought c then left (rounds_quiet _ then) ∙ all_decided c keeps;
        all_made = brought_to_end S v decided p (ds ++ d ∷ [])
            (λ c keeps. ([], all_decided c keeps ∙ sym (append-nil (ds ++ d ∷ []))));
      }

  finished_on : Valid S → (ds rest : List Decision) → S.agreed ≡ ds ++ rest → (calls : List Call) → Finished S ds calls
      → (end : List Call) × Finished S S.agreed end
  finished_on v ds [] e calls F = (calls, subst (λ l. Finished S l calls) (sym (e ∙ append-nil ds)) F)
  finished_on v ds (d ∷ rest) e calls F =
      finished_on v (ds ++ d ∷ []) rest (e ∙ sym (append_assoc ds (d ∷ []) rest)) _ (next-finished v ds d rest e calls F)

  -- there is a list of calls within the premises that brings the whole agreed list to every controller that keeps the
  -- rules, and after which all agreed changes are made
  pub whole_list : Valid S → (calls : List Call) × Finished S S.agreed calls
  whole_list v = finished_on v [] S.agreed refl [] none_finished
