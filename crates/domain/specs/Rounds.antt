-- Full rounds (document 01, "Controller end", the round).
use Rattle.std.specs.Prelude.{◌≡◌, true, ℕ, ◌<◌}
use mathlib.Core.List.{List, ◌++◌, Memᴰ}
use Rattle.answer.specs.Limits.{switch_count}
use Rattle.message.specs.Writing.{encode, is_message}
use Rattle.message.specs.declared.Message.{Message}
use Rattle.switch.specs.Writing.{acknowledgement_for}
use Rattle.switch.specs.Calls as switch-calls
use Rattle.controller.specs.Writing.{share_for}
use Rattle.controller.specs.Calls as controller-calls
use Rattle.protocol.specs.Runs.{run, Sometime}
use Rattle.domain.specs.Settings.{Setting, Keeps}
use Rattle.domain.specs.Calls.{Call, at_switch, at_controller, Run, step}

-- what an end would write at this moment: a switch for a controller, and a controller for a switch, if anything
abbrev pub acknowledgement_now : Run → ℕ → ℕ → Message
acknowledgement_now r s c = acknowledgement_for (r.switches s) c

abbrev pub share_now : Run → ℕ → ℕ → Message
share_now r c s = share_for (r.controllers c) s

module _ (S : Setting) where
  -- at some moment of a list of calls, what an end would write then with a key, if anything, is brought to the other
  -- end later on
  abbrev pub Delivered : List ℕ → (Run → Message) → (List ℕ → Call) → Run → List Call → Type 0
  Delivered key now receives =
      Sometime (step S) (λ v rest. is_message (now v) ≡ true → Memᴰ (receives (encode key (now v))) rest)

  -- a controller's part of a round: first each switch's acknowledgement reaches it, then its share for each switch
  -- reaches that switch
  pub record Turn (c : ℕ) (r : Run) (calls : List Call) : Type 0 where
    pub first : List Call
    pub second : List Call
    pub cut : calls ≡ first ++ second
    pub acknowledged : (s : ℕ) → s < switch_count
        → Delivered (S.key c s) (λ v. acknowledgement_now v s c)
        (λ bytes. at_controller c (controller-calls.receives bytes)) r first
    pub shared : (s : ℕ) → s < switch_count
        → Delivered (S.key c s) (λ v. share_now v c s)
        (λ bytes. at_switch s (switch-calls.receives bytes)) (run (step S) r first) second

  -- a full round: every controller that keeps the rules has its part in the calls; where the first half ends may differ
  -- from controller to controller
  abbrev pub Round : Run → List Call → Type 0
  Round r calls = (c : ℕ) → Keeps S c → Turn c r calls
