-- The premises on a run (demand 3; document 01, "Controller end", the run). Nothing is asked of strays but their
-- number. Assumes nothing.
use Rattle.std.specs.Prelude.{◌≡◌, Bool, not, ◌&&◌, ℕ, ◌-◌, ◌<◌, eqb, length, take, drop}
use mathlib.Core.List.{List, [], ◌∷◌, ◌++◌, Memᴰ}
use Rattle.answer.specs.Ask.{pick}
use Rattle.answer.specs.Limits.{switch_count}
use Rattle.flow.specs.declared.Rule.{Rule}
use Rattle.tag.specs.Tags.{tag_length, tag_of}
use Rattle.message.specs.Reading.{decode}
use Rattle.message.specs.declared.End.TheVariants as ends
use Rattle.message.specs.declared.Message.{Message}
use Rattle.message.specs.declared.Message.TheVariants.{Event, Share, Acknowledgement}
use Rattle.switch.specs.Writing.{Kind}
use Rattle.switch.specs.Calls.{receives, writes, manages}
use Rattle.controller.specs.Calls.{decides, writes_share}
use Rattle.controller.specs.Calls as controller
use Rattle.protocol.specs.Runs.{run, Every}
use Rattle.domain.specs.Settings.{Decision, Setting, Keeps}
use Rattle.domain.specs.Calls.{Call, at_switch, at_controller, Done, Run, start, step}

-- these bytes end in the tag of a key over all bytes before it
abbrev pub Tagged : List ℕ → List ℕ → Type 0
Tagged key bytes = drop (length bytes - tag_length) bytes ≡ tag_of key (take (length bytes - tag_length) bytes)

-- a message written in the run so far, by a writing answered 0: by switch s for controller c, and by c for s
pub data SwitchWrote (log : List Done) (s c : ℕ) (bytes : List ℕ) : Type 0 where
  by_switch : {kind : Kind} {frame : List ℕ} {at : ℕ}
      → Memᴰ (record { call = at_switch s (writes kind c frame at); answer = 0; written = bytes }) log
      → SwitchWrote log s c bytes

pub data ControllerWrote (log : List Done) (c s : ℕ) (bytes : List ℕ) : Type 0 where
  by_controller : {frame : List ℕ} {at : ℕ}
      → Memᴰ (record { call = at_controller c (writes_share s frame at); answer = 0; written = bytes }) log
      → ControllerWrote log c s bytes

-- a message that names this sender and receiver, read with questions 10 and 11
pub data FromSwitch (s c : ℕ) : Message → Type 0 where
  event : {serial cause : ℕ} → FromSwitch s c (Event s c serial cause)
  acknowledgement : {number : ℕ} → FromSwitch s c (Acknowledgement s c number)

pub data FromController (c s : ℕ) : Message → Type 0 where
  share : {number : ℕ} {rule : Rule} → FromController c s (Share c s number rule)

-- the decision that a call brought to controller c, if its answer passes a test; and all of these, the first one
-- first
abbrev pub decision_in : (ℕ → Bool) → ℕ → ℕ → Call → List Decision
decision_in test c answer (at_controller i (controller.receives bytes)) = []
decision_in test c answer (at_controller i (writes_share s frame at)) = []
decision_in test c answer (at_controller i (controller.manages (decides s serial cause))) =
    pick (eqb i c && test answer) (record { switch = s; serial = serial; cause = cause } ∷ []) []
decision_in test c answer (at_switch s x) = []

unfoldable pub decisions : (ℕ → Bool) → ℕ → List Done → List Decision
decisions test c [] = []
decisions test c (d ∷ log) = decisions test c log ++ decision_in test c d.answer d.call

-- whether a decision so answered counts as brought: one answered 24 is brought again
abbrev pub is_brought : ℕ → Bool
is_brought answer = not (eqb answer 24)

-- a controller's decisions, those answered 24 aside; and those that it took
abbrev pub brought : ℕ → List Done → List Decision
brought = decisions is_brought

abbrev pub taken : ℕ → List Done → List Decision
taken = decisions (λ answer. eqb answer 0)

module _ (S : Setting) where
  -- the call is at one of the switches, or at a controller that keeps the rules
  abbrev pub InRun : Run → Call → Type 0
  InRun r (at_switch s x) = s < switch_count
  InRun r (at_controller c x) = Keeps S c

  -- no tag of a pair whose controller keeps the rules is forged: bytes received that pass questions 10 to 14 for such a
  -- pair were written earlier in the run by the pair's other end
  abbrev pub Unforged : Run → Call → Type 0
  Unforged r (at_switch s (receives bytes)) =
      (c : ℕ) → FromController c s (decode ends.Switch bytes) → Keeps S c → Tagged (S.key c s) bytes
      → ControllerWrote r.log c s bytes
  Unforged r (at_switch s (writes kind c frame at)) = Unit {0}
  Unforged r (at_switch s (manages m)) = Unit {0}
  Unforged r (at_controller c (controller.receives bytes)) =
      (s : ℕ) → FromSwitch s c (decode ends.Controller bytes) → s < switch_count → Tagged (S.key c s) bytes
      → SwitchWrote r.log s c bytes
  Unforged r (at_controller c (writes_share s frame at)) = Unit {0}
  Unforged r (at_controller c (controller.manages m)) = Unit {0}

  -- all premises on a list of calls: where they are, unforged tags, and decisions that are a beginning of the agreed
  -- list
  pub record Premises (calls : List Call) : Type 0 where
    pub in_run : Every (step S) InRun (start S) calls
    pub unforged : Every (step S) Unforged (start S) calls
    pub beginning : (c : ℕ) → Keeps S c
        → (rest : List Decision) × (S.agreed ≡ brought c (run (step S) (start S) calls).log ++ rest)
