-- A stray alone changes nothing: what a switch makes, a controller that keeps the rules had asked it for. s is a switch.
use Rattle.std.specs.Prelude.{◌≡◌, List, ◌∷◌, ◌++◌, ℕ}
use Rattle.flow.specs.declared.Rule.{Rule}
use Rattle.message.specs.Reading.{decode}
use Rattle.message.specs.declared.End.TheVariants as ends
use Rattle.message.specs.declared.Message.TheVariants.{Share}
use Rattle.switch.specs.Calls.{receives}
use Rattle.domain.specs.Settings.{Setting, Keeps}
use Rattle.domain.specs.Calls.{at_switch, Done}
use Rattle.domain.specs.Premises.{ControllerWrote}

module _ (S : Setting) where
  -- bytes at s are a share, and some controller that keeps the rules wrote one for s with its number and rule, in calls
  -- that came earlier
  pub record Voucher (earlier : List Done) (s : ℕ) (bytes : List ℕ) : Type 0 where
    pub sender : ℕ
    pub number : ℕ
    pub rule : Rule
    pub arrived : decode ends.Switch bytes ≡ Share sender s number rule
    pub controller : ℕ
    pub keeps : Keeps S controller
    pub own : List ℕ
    pub wrote : ControllerWrote earlier controller s own
    pub same : decode ends.Switch own ≡ Share controller s number rule

  -- so it is with each share answered 1 of a log, whose latest call is the first
  abbrev pub Vouched : List Done → Type 0
  Vouched log = (later earlier : List Done) (s : ℕ) (bytes written : List ℕ)
      → log ≡ later ++ record { call = at_switch s (receives bytes); answer = 1; written = written } ∷ earlier
      → Voucher earlier s bytes
