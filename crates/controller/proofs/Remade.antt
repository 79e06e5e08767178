-- A share made again after a list of calls: the same bytes until an acknowledgement or a decision alters what is ready
-- (document 01, "Controller end").
use mathlib.Core.Path.{◌≡◌, refl, ap, ◌∙◌}
use mathlib.Core.List.{List, [], ◌∷◌}
use Prim.Native.Nat.{ℕ}
use Rattle.message.specs.Keys.{key_at}
use Rattle.message.specs.Reading.{decode}
use Rattle.message.specs.Writing.{encode}
use Rattle.message.specs.declared.End.TheVariants as ends
use Rattle.message.specs.declared.Message.TheVariants.{Acknowledgement}
use Rattle.controller.specs.Readiness.{ready_for}
use Rattle.controller.specs.Writing.{share_for}
use Rattle.controller.specs.Calls.{decides, Call, receives, manages, reply_to, after}
use Rattle.controller.specs.declared.Controller.{Controller}
use Rattle.controller.specs.declared.Reply.{Reply}
use Rattle.controller.proofs.Moves.{Moves, stays, takes_acknowledgement_lem, takes_decision, moves}
use Rattle.controller.proofs.Kept.{after_grows}
use Rattle.controller.proofs.Sent.{same-share}

-- a call with its answer: no acknowledgement, and no decision answered 0
pub record Quiet (answer : ℕ) (x : Call) : Type 0 where
  pub no_acknowledgement : (bytes : List ℕ) (s to number : ℕ) → x ≡ receives bytes
      → decode ends.Controller bytes ≡ Acknowledgement s to number → ⊥
  pub no_decision : (s serial cause : ℕ) → x ≡ manages (decides s serial cause) → answer ≡ 0 → ⊥

module _ (keys : List ℕ) where
  -- such a call leaves the whole state
  quiet_stays : {c : Controller} {x : Call} {r : Reply} → Moves keys c x r → Quiet r.answer x → r.state ≡ c
  quiet_stays stays q = refl
  quiet_stays {c} (takes_acknowledgement_lem {bytes} {s} {number} a above) q =
      absurd (q.no_acknowledgement bytes s c.id number refl a.message)
  quiet_stays (takes_decision {s} {serial} {cause} d) q = absurd (q.no_decision s serial cause refl refl)

  -- every call of a list is such a one
  abbrev pub AllQuiet : Controller → List Call → Type 0
  AllQuiet c [] = Unit {0}
  AllQuiet c (x ∷ xs) = Quiet (reply_to keys c x).answer x × AllQuiet (reply_to keys c x).state xs

  module _ (s : ℕ) where
    -- no call of a list alters what is ready for the switch
    abbrev pub Unaltered : Controller → List Call → Type 0
    Unaltered c [] = Unit {0}
    Unaltered c (x ∷ xs) =
        (ready_for (reply_to keys c x).state s ≡ ready_for c s) × Unaltered (reply_to keys c x).state xs

    ready_same : (c : Controller) (xs : List Call) → Unaltered c xs → ready_for (after keys c xs) s ≡ ready_for c s
    unfolding after
    ready_same c [] h = refl
    ready_same c (x ∷ xs) h = ready_same (reply_to keys c x).state xs h.1 ∙ h.0

    -- then a share made after them has the bytes of one made before
    pub share_again : (c : Controller) (xs : List Call) → Unaltered c xs
        → encode (key_at keys s) (share_for (after keys c xs) s) ≡ encode (key_at keys s) (share_for c s)
    share_again c xs h =
        same-share (after keys c xs) c keys keys s (after_grows keys c xs).id (ready_same c xs h) refl

    -- so calls among which is no acknowledgement, and no decision answered 0, leave the bytes
    quiet_unaltered : (c : Controller) (xs : List Call) → AllQuiet c xs → Unaltered c xs
    quiet_unaltered c [] h = h
    quiet_unaltered c (x ∷ xs) h = (
      ap (λ (t : Controller). ready_for t s) (quiet_stays (moves keys c x) h.0),
      quiet_unaltered (reply_to keys c x).state xs h.1,
    )

    pub quiet_again : (c : Controller) (xs : List Call) → AllQuiet c xs
        → encode (key_at keys s) (share_for (after keys c xs) s) ≡ encode (key_at keys s) (share_for c s)
    quiet_again c xs h = share_again c xs (quiet_unaltered c xs h)
