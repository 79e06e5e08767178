-- Runs in which a message that names a controller that keeps the rules is only ever one that was written: late,
-- repeated or lost, but not made up. Assumes nothing.
use Rattle.std.specs.Prelude.{ℕ, ◌<◌}
use Rattle.answer.specs.Limits.{switch_count}
use Rattle.message.specs.Reading.{decode}
use Rattle.message.specs.declared.End.TheVariants as ends
use Rattle.switch.specs.Calls.{receives, writes, manages}
use Rattle.controller.specs.Calls.{writes_share}
use Rattle.controller.specs.Calls as controller
use Rattle.domain.specs.Settings.{Setting, Keeps}
use Rattle.domain.specs.Calls.{Call, at_switch, at_controller, Run}
use Rattle.domain.specs.Premises.{SwitchWrote, ControllerWrote, FromSwitch, FromController}

-- bytes received that name a pair of this end and a controller that keeps the rules were written earlier by the pair's
-- other end; nothing is asked of their tag
abbrev pub Honest : Setting → Run → Call → Type 0
Honest S r (at_switch s (receives bytes)) =
    (c : ℕ) → FromController c s (decode ends.Switch bytes) → Keeps S c → ControllerWrote r.log c s bytes
Honest S r (at_switch s (writes kind c frame at)) = Unit {0}
Honest S r (at_switch s (manages m)) = Unit {0}
Honest S r (at_controller c (controller.receives bytes)) =
    (s : ℕ) → FromSwitch s c (decode ends.Controller bytes) → s < switch_count → SwitchWrote r.log s c bytes
Honest S r (at_controller c (writes_share s frame at)) = Unit {0}
Honest S r (at_controller c (controller.manages m)) = Unit {0}
