-- A share with a good tag at a switch that was just set up: what its number and rule make of it. No tag is computed:
-- what is sealed with a key passes the check with that key. Assumes nothing.
use mathlib.Core.Path.{◌≡◌, refl, ap}
use mathlib.Core.Bool.{true, false, ◌||◌}
use mathlib.Core.List.{[]}
use Prim.Native.Nat.{ℕ, ◌^◌, ◌<◌}
use native.Mathlib.Omega.{arith}
use lib.ListN.{get_or-replicate}
use borrow.Author.Tests.{lt-ltb, le-leb, eq-eqb, ne_eqb}
use Rattle.answer.specs.Ask.{reply}
use Rattle.answer.proofs.Asked.{all_yes}
use Rattle.answer.proofs.Bools.{by_bool, or_right}
use Rattle.flow.specs.Changes.{removes, has_entry, room_for}
use Rattle.flow.specs.Rules.{rule_key, well_formed}
use Rattle.flow.specs.declared.Rule.{Rule}
use Rattle.message.specs.Keys.{key_at}
use Rattle.message.specs.Writing.{encode}
use Rattle.message.specs.declared.Message.TheVariants.{Share}
use Rattle.message.proofs.Inverse.{decode-encode, encode-sealed}
use Rattle.switch.specs.Slots.{slot_for, empty_slot, holds, is_quorum}
use Rattle.switch.specs.States.{unchanged, in_range, fresh, setup_of, switch_ok}
use Rattle.switch.specs.Shares.{slot_of, share_questions, stored, accepted, take_share}
use Rattle.switch.specs.Receiving.{received_by}
use Rattle.switch.specs.declared.Reply.{Reply}
use Rattle.switch.specs.declared.Slot.{Slot}
use Rattle.switch.specs.declared.Switch.{Switch}
use Rattle.switch.proofs.Kept.{setup-kept}
use Rattle.switch.proofs.Passing.{Passes, passing}
use Rattle.edges.specs.Asking.{Open, InRange, share, good, refused, verdict, answer_to}
use Rattle.edges.specs.Table.{rule}

-- a new share that passed all questions is held or applied
new_good : (s : Switch) (c : ℕ) (x : Slot) → holds x (slot_of s c) ≡ false → verdict 1 (accepted s c x).answer ≡ good
new_good s c x new =
    by_bool (is_quorum s.n x (stored s c x).slots) (λ q. rw (new, q)) (λ q. rw (new, q))

-- an empty table has room for every rule
room_empty : (r : Rule) → room_for r [] ≡ true
room_empty r = or_right (removes r.action || has_entry (rule_key r) []) _ refl

module _ (o : Open) (h : InRange o) where
  abbrev start : Switch
  start = fresh o.switch o.n

  ranges : in_range o.switch o.n ≡ true
  ranges =
      rw (
        lt-ltb o.switch 16 h.known.0,
        le-leb 1 o.n (omega (arith, h.controllers.0)),
        le-leb o.n 16 (omega (arith, h.controllers.1)),
      )

  set_up : setup_of o.switch o.n ≡ unchanged start 0
  unfolding reply
  set_up = rw ranges

  within : switch_ok start ≡ true
  within = let k = setup-kept o.switch o.n (ap (λ (x : Reply). x.answer) set_up) in rw set_up at k

  -- no slot holds anything
  slot_is : slot_of start o.sender ≡ empty_slot
  slot_is = get_or-replicate 16 o.sender empty_slot empty_slot (omega (arith, h.known.1, h.controllers.1))

  module _ (number prefix length : ℕ) (small : number < 256 ^ 4) (fits : prefix < 256 ^ 4) where
    abbrev r : Rule
    r = rule o prefix length

    -- what the share asks for, as a slot holds it
    abbrev asks : Slot
    asks = slot_for number r

    -- the bytes are read as this share, and pass every question before its own
    comes :
        received_by (setup_of o.switch o.n).state o.keys
        (encode (key_at o.keys o.sender) (Share o.sender o.switch number r))
        ≡ take_share start o.sender asks
    unfolding received_by reply
    comes =
        let m = Share o.sender o.switch number r in
        let key = key_at o.keys o.sender in
        rw (
          ranges,
          within,
          eq-eqb _ _ h.store,
          decode-encode key m (small, fits, h.action.1) h.action.0,
          lt-ltb _ _ h.known.1,
          eq-eqb o.switch o.switch refl,
          encode-sealed key m refl,
        )

    pub share_15 : well_formed r ≡ false → answer_to o (share number r) ≡ refused 15
    unfolding take_share reply
    share_15 bad = rw (comes, bad)

    pub share_16 : well_formed r ≡ true → number ≡ 0 → answer_to o (share number r) ≡ refused 16
    unfolding take_share reply
    share_16 formed none = rw (comes, formed, none)

    pub share-good : well_formed r ≡ true → 0 < number → answer_to o (share number r) ≡ good
    unfolding take_share
    share-good formed some =
        let slot = slot_of start o.sender in
        let none : slot.number ≡ 0 = rw slot_is in
        let passes : Passes start slot asks = record {
          formed = formed;
          above = some;
          latest = omega arith;
          same = λ e. absurd (omega arith);
          room = room_empty r;
        } in
        let other : holds asks slot ≡ false = rw (none, ne_eqb 0 number (λ z. omega arith)) in
        let asked : take_share start o.sender asks ≡ accepted start o.sender asks =
        all_yes (share_questions start slot asks) (unchanged start) _ refl (passing start slot asks passes) in
        rw (comes, asked) (new_good start o.sender asks other)
