-- The calls of a run, each at one end with what the caller brings, and the run: every call gets its end's keys and the
-- state that the last call there returned (document 01, "Controller end", the run). Assumes nothing.
use Rattle.std.specs.Prelude.{ℕ, List, [], ◌∷◌}
use Rattle.lists.specs.Bytes.{part}
use Rattle.message.specs.Writing.{length_of}
use Rattle.switch.specs.States as switch
use Rattle.switch.specs.Writing.{message_for, message_written}
use Rattle.switch.specs.Calls as switch-calls
use Rattle.switch.specs.Calls.{receives, writes, manages}
use Rattle.switch.specs.declared.Switch.{Switch}
use Rattle.controller.specs.States as controller
use Rattle.controller.specs.Writing.{share_for, share_written}
use Rattle.controller.specs.Calls as controller-calls
use Rattle.controller.specs.Calls.{writes_share}
use Rattle.controller.specs.declared.Controller.{Controller}
use Rattle.protocol.specs.Families.{upd}
use Rattle.domain.specs.Settings.{Setting, playbook, switch_keys, controller_keys}

-- a call at a switch, or at a controller, with what the caller brings
pub data Call : Type 0 where
  at_switch : ℕ → switch-calls.Call → Call
  at_controller : ℕ → controller-calls.Call → Call

-- a call that was made, its answer, and what it left in its frame where a message goes
pub record Done : Type 0 where
  pub call : Call
  pub answer : ℕ
  pub written : List ℕ

-- the states that the last calls returned, and the calls so far, the latest first
pub record Run : Type 0 where
  pub switches : ℕ → Switch
  pub controllers : ℕ → Controller
  pub log : List Done

-- what a call leaves in its frame where its message goes: after a refusal, what was there; nothing where it has no
-- frame, or no message
abbrev pub switch_writes : List ℕ → Switch → switch-calls.Call → List ℕ
switch_writes keys s (receives bytes) = []
switch_writes keys s (writes kind c frame at) =
    part (length_of (message_for kind s c)) at (message_written kind s keys c frame at).1
switch_writes keys s (manages m) = []

abbrev pub controller_writes : List ℕ → Controller → controller-calls.Call → List ℕ
controller_writes keys c (controller-calls.receives bytes) = []
controller_writes keys c (writes_share s frame at) = part (length_of (share_for c s)) at (share_written c keys s frame at).1
controller_writes keys c (controller-calls.manages m) = []

module _ (S : Setting) where
  -- fresh setups, and no call yet
  abbrev pub start : Run
  start = record {
    switches = λ s. (switch.setup_of s S.n).state;
    controllers = λ c. (controller.setup_of c S.n (playbook S)).state;
    log = [];
  }

  -- one call more
  unfoldable pub step : Run → Call → Run
  step r (at_switch s x) =
      let reply = switch-calls.reply_to (switch_keys S s) (r.switches s) x in
      record {
        switches = upd r.switches s reply.state;
        controllers = r.controllers;
        log = record {
          call = at_switch s x;
          answer = reply.answer;
          written = switch_writes (switch_keys S s) (r.switches s) x;
        } ∷ r.log;
      }
  step r (at_controller c x) =
      let reply = controller-calls.reply_to (controller_keys S c) (r.controllers c) x in
      record {
        switches = r.switches;
        controllers = upd r.controllers c reply.state;
        log = record {
          call = at_controller c x;
          answer = reply.answer;
          written = controller_writes (controller_keys S c) (r.controllers c) x;
        } ∷ r.log;
      }
