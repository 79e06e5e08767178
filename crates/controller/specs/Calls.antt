-- Lists of calls at one controller, any bytes received (document 01, "Controller end", the run). Assumes nothing.
use Rattle.std.specs.Prelude.{ℕ, List, [], ◌∷◌}
use Rattle.controller.specs.Receiving.{received_by}
use Rattle.controller.specs.Decisions.{decided_by}
use Rattle.controller.specs.Writing.{share_written}
use Rattle.controller.specs.declared.Controller.{Controller}
use Rattle.controller.specs.declared.Reply.{Reply}

-- a call that no other end sees, with what the caller brings: a switch, a serial and a cause
pub data Managing : Type 0 where
  decides : ℕ → ℕ → ℕ → Managing

-- a call, with what the caller brings: bytes; a switch, a frame and an offset; or a call that no other end sees
pub data Call : Type 0 where
  receives : List ℕ → Call
  writes_share : ℕ → List ℕ → ℕ → Call
  manages : Managing → Call

-- what a call that no other end sees replies
abbrev pub managed_by : Controller → Managing → Reply
managed_by c (decides s serial cause) = decided_by c s serial cause

module _ (keys : List ℕ) where
  -- what a call replies
  abbrev pub reply_to : Controller → Call → Reply
  reply_to c (receives bytes) = received_by c keys bytes
  reply_to c (writes_share s frame at) = (share_written c keys s frame at).0
  reply_to c (manages m) = managed_by c m

  -- the state after a list of calls, each getting the state that the last one returned
  unfoldable pub after : Controller → List Call → Controller
  after c [] = c
  after c (x ∷ xs) = after (reply_to c x).state xs
