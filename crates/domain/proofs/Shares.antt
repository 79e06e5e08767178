-- A share at a switch is what it is in the protocol: the slots seen one by one, those that agree counted among the n
-- controllers, and every answer with its state. Assumes nothing.
use mathlib.Core.Path.{◌≡◌, refl, sym, ap, ◌∙◌}
use mathlib.Core.Bool.{Bool, true, false, not, ◌&&◌, ◌||◌}
use mathlib.Core.List.{List}
use Prim.Native.Nat.{ℕ, ◌+◌, ◌-◌, ◌≤◌, ◌<◌}
use native.Mathlib.Omega.{arith}
use lib.Count.{ones}
use lib.Dec.{leb, eqb}
use lib.ListN.{length, get_or, drop, length-set, length-drop}
use lib.Seq.{get_or-set_same, get_or-set_other, get_or-drop}
use borrow.Author.Tests.{ltb-true, eqb-true, ne_eqb}
use Rattle.answer.proofs.Asked.{asked, reply_ap, reply-same, answered}
use Rattle.answer.proofs.Bools.{by_bool, by_eq, and_parts, pick_ap}
use Rattle.lists.specs.Arrays.{every}
use Rattle.lists.proofs.Tails.{every_at}
use Rattle.flow.specs.Rules.{same_rule, well_formed}
use Rattle.flow.specs.declared.Rule.{Rule}
use Rattle.flow.specs.declared.Table.{Table}
use Rattle.switch.specs.Slots.{empty_slot, slot_empty, holds, agreeing, is_quorum, emptied}
use Rattle.switch.specs.States.{unchanged, switch_ok}
use Rattle.switch.specs.Shares.{slot_of, stored, applied, accepted, take_share}
use Rattle.switch.specs.declared.Slot.{Slot}
use Rattle.switch.specs.declared.Switch.{Switch}
use Rattle.switch.proofs.Agreement.{agreeing-count}
use Rattle.switch.proofs.Effects.{emptied_at}
use Rattle.switch.proofs.Kept.{stored-kept}
use Rattle.switch.proofs.Within.{within}
use Rattle.protocol.specs.Families.{upd, count_below}
use Rattle.protocol.proofs.Ends as protocol
use Rattle.protocol.proofs.Families.{upd_same, upd_other, count_fewer, count-places}
use Rattle.domain.specs.Settings.{Setting}
use Rattle.domain.proofs.View.{domain_of, view_slot, view_switch, view_reply}

-- a slot that is empty holds no share with a number above 0
empty_holds : (share slot : Slot) → 0 < share.number → slot_empty slot ≡ true → holds share slot ≡ false
empty_holds share slot positive h =
    let zero = eqb-true slot.number 0 (and_parts (eqb slot.number 0) _ h).0 in
    rw (ne_eqb slot.number share.number (λ e. omega arith))

-- question 18 asks for the rule where the number is the slot's, as it does in the protocol
same_asked : (number rule : Bool) → (not number || number && rule) ≡ (not number || rule)
same_asked true rule = refl
same_asked false rule = refl

-- those that agree in sixteen slots, of which the first n are in use
counted_below : (share : Slot) (slots : List Slot) (n : ℕ) → 0 < share.number → length slots ≡ 16 → n ≤ 16
    → every slot_empty (drop n slots) ≡ true
    → ones (agreeing share slots) ≡ count_below n (λ i. holds share (get_or slots i empty_slot))
counted_below share slots n positive long few unused =
    agreeing-count share slots
    ∙ count-places (holds share) slots empty_slot
    ∙ rw long
    (count_fewer n 16 (λ i. holds share (get_or slots i empty_slot)) few
    (λ i low high.
    let e : n + (i - n) ≡ i = omega arith in
    let inside : i - n < length (drop n slots) = rw length-drop (omega arith) in
    let slot = every_at slot_empty (drop n slots) (i - n) empty_slot unused inside in
    empty_holds share (get_or slots i empty_slot) positive (rw (get_or-drop n slots (i - n) empty_slot, e) at slot)))

module _ (S : Setting) (t : Switch) (ok : switch_ok t ≡ true) (n : t.n ≡ S.n) (long : length t.slots ≡ 16)
    (c : ℕ) (known : c < t.n) (share : Slot) where
  abbrev D : protocol.Domain Rule Table
  D = domain_of S

  -- the share as the protocol has it
  abbrev k : ℕ
  k = share.number

  abbrev rule : Rule
  rule = share.rule

  -- the slots with the share in its sender's
  stored_slot : (i : ℕ) → view_slot (slot_of (stored t c share) i)
      ≡ upd (λ i. view_slot (slot_of t i)) c (view_slot share) i
  stored_slot i =
      by_eq c i
      (λ e. rw (← e, upd_same) (ap view_slot (get_or-set_same t.slots c share empty_slot
      (omega (arith, (within t ok).few)))))
      (λ other. rw (upd_other (λ i. view_slot (slot_of t i)) c (view_slot share) i other)
      (ap view_slot (get_or-set_other t.slots c i share empty_slot (λ e. other (sym e)))))

  stored_view : view_switch (stored t c share) ≡ protocol.stored (view_switch t) c k rule
  stored_view = λ j. record { last = t.last; table = t.table; slots = λ i. stored_slot i j }

  emptied_view : (u : Table) (i : ℕ) (slot : Slot) → view_slot (emptied k slot) ≡ protocol.emptied D u k i (view_slot slot)
  emptied_view u i slot = sym (pick_ap view_slot (leb slot.number k) empty_slot slot)

  applied_view : view_switch (applied (stored t c share) share)
      ≡ protocol.applied D (protocol.stored (view_switch t) c k rule) k rule
  applied_view =
      let slot : (i : ℕ) → view_slot (slot_of (applied (stored t c share) share) i)
      ≡ protocol.emptied D t.table k i (upd (λ i. view_slot (slot_of t i)) c (view_slot share) i) =
      λ i. ap view_slot (emptied_at k (stored t c share).slots i)
      ∙ emptied_view t.table i (slot_of (stored t c share) i)
      ∙ ap (protocol.emptied D t.table k i) (stored_slot i) in
      λ j. record { last = k; table = Rattle.flow.specs.Changes.changed rule t.table; slots = λ i. slot i j }

  -- a quorum is a quorum, for a number above the last applied one
  module _ (above : t.last < k) where
    quorum_view : is_quorum t.n share (stored t c share).slots
        ≡ leb (D.quorum t.table) (protocol.agreeing D k rule (protocol.stored (view_switch t) c k rule).slots)
    quorum_view =
        let w = within (stored t c share) (stored-kept t c share ok known above) in
        let count = counted_below share (stored t c share).slots t.n (omega arith)
        (length-set t.slots c share ∙ long) w.few w.unused in
        rw (count, n)
        (ap (λ (slots : ℕ → protocol.Slot Rule). leb (D.quorum t.table) (protocol.agreeing D k rule slots))
        (λ j i. stored_slot i j))

    taken_view : view_reply (accepted t c share) ≡ protocol.taken D (view_switch t) c k rule
    taken_view =
        by_bool (holds share (slot_of t c)) (λ e. rw e)
        (λ e. rw (e, quorum_view) (by_bool
        (leb (D.quorum t.table) (protocol.agreeing D k rule (protocol.stored (view_switch t) c k rule).slots))
        (λ q. rw q (ap (λ (s : protocol.Switch Rule Table). protocol.unchanged s 1) applied_view))
        (λ q. rw q (ap (λ (s : protocol.Switch Rule Table). protocol.unchanged s 0) stored_view))))

  -- so a share with a well-formed rule is answered alike
  pub share_view : well_formed rule ≡ true
      → view_reply (take_share t c share) ≡ protocol.take_share D (view_switch t) c k rule
  unfolding take_share protocol.take_share
  share_view formed =
      let slot = slot_of t c in
      let qs = protocol.share_questions D (view_switch t) c (view_slot slot) k rule in
      rw (same_asked (eqb slot.number k) (same_rule slot.rule rule))
      (ap view_reply (asked (unchanged t) (accepted t c share) 15 _ (drop 1 qs) formed
      ∙ sym (asked (unchanged t) (accepted t c share) 47 true (drop 1 qs) refl))
      ∙ reply_ap view_reply qs (unchanged t) (accepted t c share)
      ∙ reply-same qs _ _ _ (λ y. taken_view (ltb-true _ _ (answered qs refl y 16))))
