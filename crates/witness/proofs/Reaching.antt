-- Completeness for runs: with at most 64 agreed changes, each list of numbers of which the ideal controller refuses
-- none is exactly what some run within the premises makes: that of specs/Reaching, number by number. Nothing is claimed
-- past 64: question 24 keeps back a decision that would leave over 64 undone changes, and some lists with it.
use mathlib.Core.Path.{◌≡◌, refl, ap, ◌∙◌, subst}
use mathlib.Core.List.{List, [], ◌∷◌}
use mathlib.Core.Logic.{◌↔◌}
use Prim.Native.Nat.{ℕ}
use Rattle.protocol.specs.Runs.{run}
use Rattle.protocol.proofs.Claims.{Lawful}
use Rattle.protocol.proofs.Runs.{run-append}
use Rattle.domain.specs.Settings.{Setting, Valid}
use Rattle.domain.specs.Calls.{Call, Run, start, step}
use Rattle.domain.specs.Premises.{decisions, brought, Premises}
use Rattle.domain.specs.Ideals.{fed}
use Rattle.domain.specs.Claim.{made, agreed, answered}
use Rattle.domain.proofs.View.{domain_of}
use Rattle.domain.proofs.Reached.{start_reached, run_reached}
use Rattle.domain.proofs.Theorem.{demand3}
use Rattle.witness.specs.Reaching.{FewAgreed, bringing, asking, making, Reaches}
use Rattle.witness.proofs.Extended.{premises_join}
use Rattle.witness.proofs.ReachingIdeals.{unrefused_lawful}
use Rattle.witness.proofs.ReachingDecisions.{all_brought}
use Rattle.witness.proofs.ReachingAsked.{silent_makes, bringing_silent}
use Rattle.witness.proofs.ReachingNumber.{asking_fair, asking-brought, asking-makes}

module _ (S : Setting) (v : Valid S) (few : FewAgreed S) where
  -- the decisions, and nothing made
  decisions_reach : Reaches S [] (bringing S S.agreed)
  unfolding decisions made
  decisions_reach =
      let all = all_brought S few v [] S.agreed refl (start S) (start_reached S v) (λ c keeps. refl) in
      record {
        within = record { in_run = all.0.in_run; unforged = all.0.unforged; beginning = all.0.begun };
        all_brought = all.1;
        makes = silent_makes S (start S) (bringing S S.agreed) (bringing_silent S S.agreed (start S));
      }

  lawful_reach : (ms : List ℕ) → Lawful (domain_of S) ms → Reaches S ms (making S ms)
  unfolding making
  lawful_reach [] h = decisions_reach
  lawful_reach (k ∷ ms) h =
      let before = lawful_reach ms h.1 in
      let calls = making S ms in
      let r = run (step S) (start S) calls in
      let R = run_reached S v calls before.within in
      let begun = before.within.beginning in
      let more = asking S k r in
      let ended = run-append (step S) (start S) calls more in
      record {
        within = premises_join S v calls more before.within
            (asking_fair S v k ms h.0 r R begun before.all_brought before.makes);
        all_brought = λ c keeps.
            ap (λ (u : Run). brought c u.log) ended
            ∙ asking-brought S v k ms h.0 r R begun before.all_brought before.makes c keeps;
        makes =
            ap (answered S) ended
            ∙ asking-makes S v k ms h.0 r R begun before.all_brought before.makes;
      }

  -- the calls that specs/Reaching lists make exactly these numbers
  pub making_reaches : (ms : List ℕ) → (fed (agreed S) ms).refused ≡ [] → Reaches S ms (making S ms)
  making_reaches ms unrefused = lawful_reach ms (unrefused_lawful S v ms unrefused)

-- the claim
pub reachable : (S : Setting) → Valid S → FewAgreed S → (ms : List ℕ)
    → (fed (agreed S) ms).refused ≡ []
    → (calls : List Call) × Premises S calls × (answered S (run (step S) (start S) calls) ≡ ms)
reachable S v few ms unrefused =
    let reaches = making_reaches S v few ms unrefused in (making S ms, reaches.within, reaches.makes)

-- with demand 3: runs within the premises make exactly the lists of which the ideal controller refuses none
pub exactly : (S : Setting) → Valid S → FewAgreed S → (ms : List ℕ)
    → ((calls : List Call) × Premises S calls × (answered S (run (step S) (start S) calls) ≡ ms))
    ↔ ((fed (agreed S) ms).refused ≡ [])
exactly S v few ms = (
  λ made.
      subst (λ (l : List ℕ). (fed (agreed S) l).refused ≡ []) made.2
      ((demand3 S v).safe made.0 made.1).in_order,
  reachable S v few ms,
)
