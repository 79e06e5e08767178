-- Full rounds as lists of calls, from wherever a run has come to: what an end writes arrives at once. s is a switch,
-- c a controller. Assumes nothing.
use Rattle.std.specs.Prelude.{ℕ, zero, suc, not, ◌&&◌, List, [], ◌∷◌, ◌++◌, replicate}
use Rattle.answer.specs.Ask.{pick}
use Rattle.answer.specs.Limits.{switch_count}
use Rattle.message.specs.Layout.{acknowledgement_length}
use Rattle.message.specs.Writing.{encode, length_of, is_message}
use Rattle.switch.specs.Writing.{acknowledgement}
use Rattle.switch.specs.Calls.{receives, writes}
use Rattle.controller.specs.Calls.{writes_share}
use Rattle.controller.specs.Calls as controller
use Rattle.protocol.specs.Runs.{run}
use Rattle.domain.specs.Settings.{Setting}
use Rattle.domain.specs.Calls.{Call, at_switch, at_controller, Run, step}
use Rattle.domain.specs.Rounds.{acknowledgement_now, share_now}

module _ (S : Setting) where
  -- s writes its acknowledgement for c, where c keeps the rules, and it arrives
  abbrev pub tells : ℕ → Run → ℕ → List Call
  tells s r c =
      pick (S.strays c) []
      (at_switch s (writes acknowledgement c (replicate acknowledgement_length 0) 0)
      ∷ at_controller c (controller.receives (encode (S.key c s) (acknowledgement_now r s c))) ∷ [])

  -- c, where it keeps the rules, writes its share for s, if it has one, and it arrives
  abbrev pub shares : ℕ → Run → ℕ → List Call
  shares s r c =
      pick (not (S.strays c) && is_message (share_now r c s))
      (at_controller c (writes_share s (replicate (length_of (share_now r c s)) 0) 0)
      ∷ at_switch s (receives (encode (S.key c s) (share_now r c s))) ∷ []) []

  -- the calls for each number below k, one after another, each as things then stand
  unfoldable pub for_each : ℕ → (Run → ℕ → List Call) → Run → List Call
  for_each zero calls r = []
  for_each (suc k) calls r = calls r k ++ for_each k calls (run (step S) r (calls r k))

  -- the two halves of a round, and so many rounds
  abbrev pub first_half : Run → List Call
  first_half r = for_each switch_count (λ u s. for_each S.n (tells s) u) r

  abbrev pub second_half : Run → List Call
  second_half r = for_each switch_count (λ u s. for_each S.n (shares s) u) r

  abbrev pub round : Run → List Call
  round r = first_half r ++ second_half (run (step S) r (first_half r))

  unfoldable pub rounds : ℕ → Run → List Call
  rounds zero r = []
  rounds (suc k) r = round r ++ rounds k (run (step S) r (round r))
