-- A run within the premises goes on within them: with what was written, however late and however often, with whatever
-- names no controller that keeps the rules, and with calls that bring no decision. Assumes nothing.
use mathlib.Core.Path.{◌≡◌, sym, subst}
use mathlib.Core.Bool.{Bool, true, not, ◌&&◌}
use mathlib.Core.List.{List, [], ◌∷◌, ◌++◌, append-nil}
use Prim.Native.Nat.{ℕ, ◌<◌}
use lib.Dec.{ltb}
use borrow.Author.Tests.{ltb-true, not-true}
use Rattle.answer.proofs.Bools.{and_parts}
use Rattle.lists.specs.Arrays.{every_tail, every}
use Rattle.message.specs.Reading.{decode}
use Rattle.message.specs.declared.End.TheVariants as ends
use Rattle.switch.specs.Calls.{receives}
use Rattle.controller.specs.Calls as controller-calls
use Rattle.controller.specs.Calls.{writes_share}
use Rattle.protocol.specs.Runs.{run, Every}
use Rattle.protocol.proofs.Runs.{run-append, every_join}
use Rattle.domain.specs.Settings.{Setting, Valid, Keeps}
use Rattle.domain.specs.Calls.{Call, at_switch, at_controller, Run, start, step}
use Rattle.domain.specs.Premises.{SwitchWrote, ControllerWrote, FromController, InRun, Unforged, decisions, Premises}
use Rattle.domain.proofs.Reached.{Begun}
use Rattle.domain.proofs.Wrote.{Named, run_named}
use Rattle.domain.proofs.Turns.{Fair, premises_fair}
use Rattle.witness.specs.Deliveries.{Honest}
use Rattle.witness.proofs.Deliveries.{honest_call, share-arrives, switch-arrives, stray_alone}

-- a call that is no decision
abbrev pub NoDecision : Call → Type 0
NoDecision (at_switch s x) = Unit {0}
NoDecision (at_controller c (controller-calls.receives bytes)) = Unit {0}
NoDecision (at_controller c (writes_share s frame at)) = Unit {0}
NoDecision (at_controller c (controller-calls.manages (controller-calls.decides s serial cause))) = ⊥

-- where a call is does not depend on what came before, and can be tested
module _ (S : Setting) where
  abbrev pub in_run : Call → Bool
  in_run (at_switch s x) = ltb s 16
  in_run (at_controller c x) = ltb c S.n && not (S.strays c)

  in_run_lem : (r : Run) (x : Call) → in_run x ≡ true → InRun S r x
  in_run_lem r (at_switch s x) h = ltb-true _ _ h
  in_run_lem r (at_controller c x) h =
      let both = and_parts (ltb c S.n) (not (S.strays c)) h in (ltb-true _ _ both.0, not-true _ both.1)

  pub all_in_run : (r : Run) (xs : List Call) → every in_run xs ≡ true → Every (step S) (InRun S) r xs
  unfolding every_tail every
  all_in_run r [] h = tt
  all_in_run r (x ∷ xs) h =
      let both = and_parts (in_run x) (every in_run xs) h in
      (in_run_lem r x both.0, all_in_run (step S r x) xs both.1)

module _ (S : Setting) (v : Valid S) where
  -- a list of calls goes on with another, and a run within the premises with calls within them
  pub fair_join : (r : Run) (xs ys : List Call) → Fair S v r xs → Fair S v (run (step S) r xs) ys
      → Fair S v r (xs ++ ys)
  fair_join r xs ys f g = record {
    in_run = every_join (step S) (InRun S) r xs ys f.in_run g.in_run;
    unforged = every_join (step S) (Unforged S) r xs ys f.unforged g.unforged;
    begun = subst (Begun S) (sym (run-append (step S) r xs ys)) g.begun;
  }

  pub premises_join : (calls more : List Call) → Premises S calls → Fair S v (run (step S) (start S) calls) more
      → Premises S (calls ++ more)
  premises_join calls more p f =
      let all = fair_join (start S) calls more (premises_fair S v calls p) f in
      record { in_run = all.in_run; unforged = all.unforged; beginning = all.begun }

  -- only a decision adds to what was brought
  pub begun_on : (r : Run) (x : Call) → NoDecision x → Begun S r → Begun S (step S r x)
  unfolding step decisions
  begun_on r (at_switch s x) h b c keeps = rw append-nil (b c keeps)
  begun_on r (at_controller i (controller-calls.receives bytes)) h b c keeps = rw append-nil (b c keeps)
  begun_on r (at_controller i (writes_share s frame at)) h b c keeps = rw append-nil (b c keeps)
  begun_on r (at_controller i (controller-calls.manages (controller-calls.decides s serial cause))) h b c keeps = absurd h

  -- one call more
  pub fair_call : (r : Run) (x : Call) → InRun S r x → Unforged S r x → NoDecision x → Begun S r
      → Fair S v r (x ∷ [])
  fair_call r x h honest quiet b = record { in_run = (h, tt); unforged = (honest, tt); begun = begun_on r x quiet b }

  module _ (calls : List Call) (p : Premises S calls) where
    abbrev r : Run
    r = run (step S) (start S) calls

    names : Named S r.log
    names = run_named S v calls p

    one_more : (x : Call) → InRun S r x → Honest S r x → NoDecision x → Premises S (calls ++ x ∷ [])
    one_more x h honest quiet =
        premises_join calls (x ∷ []) p (fair_call r x h (honest_call S r x honest) quiet p.beginning)

    -- what was written arrives, whenever that is
    pub share-later : (s c : ℕ) (bytes : List ℕ) → s < 16 → Keeps S c → ControllerWrote r.log c s bytes
        → Premises S (calls ++ at_switch s (receives bytes) ∷ [])
    share-later s c bytes l keeps wrote =
        one_more (at_switch s (receives bytes)) l
        (share-arrives S r s c bytes (names.shares c s bytes keeps wrote) wrote) tt

    pub switch-later : (s c : ℕ) (bytes : List ℕ) → s < 16 → Keeps S c → SwitchWrote r.log s c bytes
        → Premises S (calls ++ at_controller c (controller-calls.receives bytes) ∷ [])
    switch-later s c bytes l keeps wrote =
        one_more (at_controller c (controller-calls.receives bytes)) keeps
        (switch-arrives S r s c bytes (names.switches s c bytes l wrote) wrote) tt

    -- and so does whatever names no controller that keeps the rules: noise, and a stray's shares with good tags
    pub other_later : (s : ℕ) (bytes : List ℕ) → s < 16
        → ((c : ℕ) → FromController c s (decode ends.Switch bytes) → Keeps S c → ⊥)
        → Premises S (calls ++ at_switch s (receives bytes) ∷ [])
    other_later s bytes l none =
        one_more (at_switch s (receives bytes)) l (λ c from keeps. absurd (none c from keeps)) tt

    pub stray_later : (s c : ℕ) (bytes : List ℕ) → s < 16 → S.strays c ≡ true
        → FromController c s (decode ends.Switch bytes) → Premises S (calls ++ at_switch s (receives bytes) ∷ [])
    stray_later s c bytes l strays from = other_later s bytes l (stray_alone S s c from strays)
