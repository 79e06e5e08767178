-- Every case that there is of a call: the state stays, an acknowledgement is taken, or a decision is; each with the
-- call, its facts and its reply. And what every call keeps, a list of calls keeps. Assumes nothing.
use mathlib.Core.List.{List, [], ◌∷◌}
use Prim.Native.Nat.{ℕ, ◌<◌}
use Rattle.std.specs.Prelude.{Option}
use Rattle.answer.proofs.Asked.{reply-keeps}
use Rattle.message.specs.declared.Message.TheVariants.{Acknowledgement}
use Rattle.controller.specs.States.{unchanged}
use Rattle.controller.specs.Acknowledgements.{acknowledged_of, acknowledge}
use Rattle.controller.specs.Decisions.{decided}
use Rattle.controller.specs.Writing.{share_written}
use Rattle.controller.specs.Calls.{decides, Call, receives, writes_share, manages, reply_to, after}
use Rattle.controller.specs.declared.Controller.{Controller}
use Rattle.controller.specs.declared.Event.{Event}
use Rattle.controller.specs.declared.Reply.{Reply}
use Rattle.controller.proofs.Taken.{Arrives, Received, refused, offered, repeated, acknowledged, received}
use Rattle.controller.proofs.Deciding.{Decides, Decided, declined, taken, decision}

-- what a call replies
pub data Moves (keys : List ℕ) (c : Controller) : Call → Reply → Type 0 where
  stays : {x : Call} {k : ℕ} {o : Option Event} → Moves keys c x (record { answer = k; offer = o; state = c })
  takes_acknowledgement_lem : {bytes : List ℕ} {s number : ℕ} → Arrives c keys bytes s (Acknowledgement s c.id number)
      → acknowledged_of c s < number → Moves keys c (receives bytes) (unchanged (acknowledge c s number) 0)
  takes_decision : {s serial cause : ℕ} → Decides c s serial cause
      → Moves keys c (manages (decides s serial cause)) (unchanged (decided c s serial cause) 0)

module _ (keys : List ℕ) (c : Controller) where
  reception : {bytes : List ℕ} {r : Reply} → Received c keys bytes r → Moves keys c (receives bytes) r
  reception (refused l) = stays
  reception (offered a new) = stays
  reception (repeated a old) = stays
  reception (acknowledged a above) = takes_acknowledgement_lem a above

  agreement : {s serial cause : ℕ} {r : Reply} → Decided c s serial cause r
      → Moves keys c (manages (decides s serial cause)) r
  agreement (declined l) = stays
  agreement (taken d) = takes_decision d

  pub moves : (x : Call) → Moves keys c x (reply_to keys c x)
  unfolding share_written
  moves (receives bytes) = reception (received c keys bytes)
  moves (writes_share s frame at) =
      reply-keeps (λ (r : Reply × List ℕ). Moves keys c (writes_share s frame at) r.0) _ _ _ (λ k. stays) (λ h. stays)
  moves (manages (decides s serial cause)) = agreement (decision c s serial cause)

-- what every call keeps, a list of calls keeps
pub after-keeps : (P : Controller → Type 0) (keys : List ℕ)
    → ((c : Controller) (x : Call) → P c → P (reply_to keys c x).state)
    → (c : Controller) (xs : List Call) → P c → P (after keys c xs)
unfolding after
after-keeps P keys keep c [] p = p
after-keeps P keys keep c (x ∷ xs) p = after-keeps P keys keep (reply_to keys c x).state xs (keep c x p)
