-- A run that makes given numbers and no others: every decision of the agreed list is brought to every controller that
-- keeps the rules, then one number after another is asked for. c is a controller, k a number. Assumes nothing.
use Rattle.std.specs.Prelude.{◌≡◌, List, [], ◌∷◌, ◌++◌, ℕ, zero, suc, ◌≤◌, length}
use Rattle.answer.specs.Ask.{pick}
use Rattle.answer.specs.Limits.{most_undone}
use Rattle.controller.specs.Calls.{decides, manages}
use Rattle.protocol.specs.Runs.{run}
use Rattle.domain.specs.Settings.{Decision, Setting, Keeps}
use Rattle.domain.specs.Calls.{Call, at_controller, Run, start, step}
use Rattle.domain.specs.Premises.{brought, Premises}
use Rattle.domain.specs.Ideals.{change_of}
use Rattle.domain.specs.Claim.{agreed, answered}
use Rattle.witness.specs.Played.{shares, for_each, first_half}

-- a decision at controller c
abbrev pub deciding : Decision → ℕ → Call
deciding d c = at_controller c (manages (decides d.switch d.serial d.cause))

module _ (S : Setting) where
  -- no more changes are agreed than a controller can hold undone, so none ever answers 24
  abbrev pub FewAgreed : Type 0
  FewAgreed = length (agreed S) ≤ most_undone

  -- a decision at each controller below k that keeps the rules; and a list of decisions, each at all of these
  unfoldable pub deciding_below : Decision → ℕ → List Call
  deciding_below d zero = []
  deciding_below d (suc k) = pick (S.strays k) [] (deciding d k ∷ []) ++ deciding_below d k

  unfoldable pub bringing : List Decision → List Call
  bringing [] = []
  bringing (d ∷ ds) = deciding_below d S.n ++ bringing ds

  -- the shares for the switch of k are written, and arrive
  abbrev pub sharing : ℕ → Run → List Call
  sharing k r = for_each S S.n (shares S (change_of (agreed S) k).switch) r

  -- k is asked for: first every switch acknowledges, as in a round
  abbrev pub asking : ℕ → Run → List Call
  asking k r = first_half S r ++ sharing k (run (step S) r (first_half S r))

  -- the whole agreed list is brought, then each number of a list asked for, the last of it first
  unfoldable pub making : List ℕ → List Call
  making [] = bringing S.agreed
  making (k ∷ ks) = making ks ++ asking k (run (step S) (start S) (making ks))

  -- calls within the premises that bring the whole agreed list to every controller that keeps the rules, and whose
  -- numbers in the shares answered 1 are exactly these, the latest first
  pub record Reaches (ms : List ℕ) (calls : List Call) : Type 0 where
    pub within : Premises S calls
    pub all_brought : (c : ℕ) → Keeps S c → brought c (run (step S) (start S) calls).log ≡ S.agreed
    pub makes : answered S (run (step S) (start S) calls) ≡ ms
