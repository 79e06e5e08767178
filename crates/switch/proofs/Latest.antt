-- A slot keeps its controller's latest share: no call lowers the number in a slot, but where a rule with this number or
-- a higher one is applied. So it is over lists of calls, and a share once held is held, replaced by a later one of its
-- controller, or past.
use mathlib.Core.Path.{◌≡◌}
use mathlib.Core.List.{List}
use mathlib.Core.Logic.{◌⊎◌, inl, inr}
use Prim.Native.Nat.{ℕ, ◌≤◌, ◌<◌}
use native.Mathlib.Omega.{arith}
use lib.Dec.{leb}
use lib.ListN.{length, get_or}
use lib.Seq.{get_or-set_same, get_or-set_other, set_out}
use borrow.Author.Tests.{leb-true}
use Rattle.answer.proofs.Bools.{by_bool, by_eq, by_le}
use Rattle.switch.specs.Slots.{empty_slot}
use Rattle.switch.specs.Shares.{slot_of, stored}
use Rattle.switch.specs.Receiving.{received_by}
use Rattle.switch.specs.Calls.{Call, reply_to, after}
use Rattle.switch.specs.declared.Slot.{Slot}
use Rattle.switch.specs.declared.Switch.{Switch}
use Rattle.switch.proofs.Within.{within}
use Rattle.switch.proofs.Taken.{Arrives}
use Rattle.switch.proofs.Moves.{Moves, shares_left, share-stored, rule-applied, moves, after-keeps}
use Rattle.switch.proofs.Kept.{last_grows}
use Rattle.switch.proofs.Effects.{answered_0, emptied_at, slot_stored}

-- the slot of controller c holds the number k or a higher one, or a rule with such a number is applied
abbrev pub HeldOrApplied : ℕ → ℕ → Switch → Type 0
HeldOrApplied k c s = (k ≤ (slot_of s c).number) ⊎ (k ≤ s.last)

module _ (keys : List ℕ) (k c : ℕ) where
  -- a share stored has no lower number than its sender's slot, and no other slot changes
  stored_latest : (s : Switch) {bytes : List ℕ} {d : ℕ} {share : Slot} → Arrives s keys bytes d share
      → k ≤ (slot_of s c).number → k ≤ (slot_of (stored s d share) c).number
  stored_latest s {bytes} {d} {share} a h =
      by_eq c d
      (λ e. by_le (length s.slots) d
      (λ out. rw (set_out s.slots d share out) h)
      (λ inside. rw (e, get_or-set_same s.slots d share empty_slot inside)
      (omega (arith, a.passes.latest, rw e at h))))
      (λ other. rw (get_or-set_other s.slots d c share empty_slot other) h)

  -- a rule applied empties a slot up to its number, which is then the last applied one
  moved : {s t : Switch} {ks : List ℕ} → Moves keys s t ks → k ≤ (slot_of s c).number → HeldOrApplied k c t
  moved (shares_left l) h = inl (rw l.slots h)
  moved {s} (share-stored a few) h = inl (stored_latest s a h)
  moved {s} (rule-applied {bytes} {c = d} {share} a) h =
      let slots = (stored s d share).slots in
      let held = stored_latest s a h in
      by_bool (leb (get_or slots c empty_slot).number share.number)
      (λ e. inr (omega (arith, held, leb-true (get_or slots c empty_slot).number share.number e)))
      (λ e. inl (rw (emptied_at share.number slots c, e) held))

  pub call_latest : (s : Switch) (x : Call) → HeldOrApplied k c s → HeldOrApplied k c (reply_to keys s x).state
  call_latest s x (inl h) = moved (moves keys s x) h
  call_latest s x (inr h) = inr (omega (arith, last_grows keys s x))

  pub after_latest : (s : Switch) (xs : List Call) → HeldOrApplied k c s → HeldOrApplied k c (after keys s xs)
  after_latest = after-keeps (HeldOrApplied k c) keys call_latest

-- a share answered 0 at a switch with sixteen slots is held, replaced by a later one, or past, whatever is called then
pub held_latest : (s : Switch) (keys bytes : List ℕ) → length s.slots ≡ 16
    → (zero : (received_by s keys bytes).answer ≡ 0) (xs : List Call) →
    let h = answered_0 s keys bytes zero in
    HeldOrApplied h.share.number h.controller (after keys (received_by s keys bytes).state xs)
held_latest s keys bytes sixteen zero xs =
    let h = answered_0 s keys bytes zero in
    let t = (received_by s keys bytes).state in
    let inside : h.controller < length s.slots =
    omega (arith, h.arrives.known, (within s h.arrives.limits).few) in
    after_latest keys h.share.number h.controller t xs
    (inl (rw (slot_stored s keys bytes t h inside) (omega arith)))
