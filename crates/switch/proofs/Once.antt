-- Over every list of calls from a setup: a share is answered 1 exactly when it completes the quorum, and no number is
-- answered 1 twice. Between calls no quorum lies in the slots, and each rule applied raises the last applied number.
-- Assumes nothing.
use mathlib.Core.Path.{◌≡◌, refl, sym, ap, ◌∙◌}
use mathlib.Core.Bool.{true, false}
use mathlib.Core.List.{List, [], ◌∷◌, map}
use Prim.Native.Nat.{ℕ, ◌+◌, ◌≤◌, ◌<◌}
use native.Mathlib.Omega.{arith}
use lib.Count.{ones}
use lib.Dec.{leb, eqb}
use lib.ListN.{length, set, replicate}
use lib.Seq.{set-get_or}
use borrow.Author.Tests.{leb-false, le-leb, ne_eqb}
use Rattle.answer.proofs.Asked.{reply-keeps}
use Rattle.answer.proofs.Bools.{by_bool, tf, is_false, and_join}
use Rattle.lists.specs.Counts.{count}
use Rattle.lists.specs.Kinds.{among, different}
use Rattle.lists.specs.Rising.{rising_from}
use Rattle.lists.specs.Places.{last_of}
use Rattle.lists.proofs.Counts.{count-replicate, count-set_passing, count-set_failing, count_map}
use Rattle.lists.proofs.Rising.{rising_between, rising_different, rising_append, last_append}
use Rattle.switch.specs.Slots.{quorum_of, empty_slot, holds, agreeing, is_quorum, emptied, controllers}
use Rattle.switch.specs.States.{unchanged, fresh, setup_of}
use Rattle.switch.specs.Shares.{slot_of, stored, applied}
use Rattle.switch.specs.Receiving.{received_by}
use Rattle.switch.specs.Calls.{Call, reply_to, after, made}
use Rattle.switch.specs.declared.Reply.{Reply}
use Rattle.switch.specs.declared.Slot.{Slot}
use Rattle.switch.specs.declared.Switch.{Switch}
use Rattle.switch.proofs.Within.{within}
use Rattle.switch.proofs.Taken.{Arrives, arrival}
use Rattle.switch.proofs.Moves.{Moves, shares_left, share-stored, rule-applied}
use Rattle.switch.proofs.Moves.{number_made, moves, numbers-made, after-keeps}
use Rattle.switch.proofs.Kept.{setup_slots, after_slots}
use Rattle.switch.proofs.Effects.{answered_1}
use Rattle.switch.proofs.Agreement.{holds_sound, holds_mine, agreeing-count, agreeing-controllers}

-- no quorum lies in the slots for a number that could still be applied
pub record Quiet (s : Switch) : Type 0 where
  pub short : (share : Slot) → s.last < share.number → ones (agreeing share s.slots) < quorum_of s.n

-- a slot of another number does not hold this share
other_number : (share slot : Slot) → (slot.number ≡ share.number → ⊥) → holds share slot ≡ false
other_number share slot other = rw (ne_eqb _ _ other)

-- a switch to which nothing has happened is quiet, and so is the state that a setup returns, a refused one too
fresh_quiet : (id n : ℕ) → Quiet (fresh id n)
fresh_quiet id n = record {
  short = λ share above.
      let empty = other_number share empty_slot (λ e. omega arith) in
      omega (
        arith,
        agreeing-count share (replicate 16 empty_slot),
        count-replicate (holds share) 16 empty_slot empty,
      );
}

pub setup_quiet : (id n : ℕ) → Quiet (setup_of id n).state
setup_quiet id n =
    reply-keeps (λ r. Quiet r.state) _ (unchanged (fresh 0 0)) (unchanged (fresh id n) 0)
    (λ k. fresh_quiet 0 0) (λ e. fresh_quiet id n)

module _ (s : Switch) (quiet : Quiet s) (c : ℕ) (share : Slot) where
  -- a share stored leaves no more that agree on another one
  others_fewer : (other : Slot) → holds other share ≡ false
      → count (holds other) (stored s c share).slots ≤ ones (agreeing other s.slots)
  others_fewer other differs =
      omega (
        arith,
        agreeing-count other s.slots,
        count-set_failing (holds other) s.slots c share differs,
      )

  -- a share that is held leaves no quorum of its own, and none of another
  stored_quiet : ones (agreeing share (stored s c share).slots) < quorum_of s.n → Quiet (stored s c share)
  stored_quiet few = record {
    short = λ other above.
        by_bool (holds other share)
        (λ same. omega (
          arith,
          ap (λ (slot : Slot). ones (agreeing slot (stored s c share).slots)) (holds_sound other share same),
        ))
        (λ differs. omega (
          arith,
          others_fewer other differs,
          quiet.short other above,
          agreeing-count other (stored s c share).slots,
        ));
  }

  -- an emptied slot holds a higher number only if it held it before
  emptied-holds : (other : Slot) → share.number < other.number → (slot : Slot)
      → holds other (emptied share.number slot) ≡ true → holds other slot ≡ true
  emptied-holds other above slot h =
      by_bool (leb slot.number share.number)
      (λ e. tf (rw e at h) (other_number other empty_slot (λ z. omega arith)))
      (λ e. rw e at h)

  -- once a share is applied only higher numbers matter, and of these there are no more than before
  applied_quiet : s.last < share.number → Quiet (applied (stored s c share) share)
  applied_quiet newer = record {
    short = λ other above.
        let differs = other_number other share (λ e. omega arith) in
        omega (
          arith,
          others_fewer other differs,
          quiet.short other (omega arith),
          agreeing-count other (map (emptied share.number) (stored s c share).slots),
          count_map (holds other) (emptied share.number) (emptied-holds other above) (stored s c share).slots,
        );
  }

module _ (keys : List ℕ) where
  kept_quiet : {s t : Switch} {ks : List ℕ} → Moves keys s t ks → Quiet s → Quiet t
  kept_quiet (shares_left l) quiet = record {
    short = λ share above. rw (l.slots, l.n) (quiet.short share (rw l.last at above));
  }
  kept_quiet {s} (share-stored {bytes} {c} {share} a few) quiet =
      stored_quiet s quiet c share (leb-false _ _ few)
  kept_quiet {s} (rule-applied {bytes} {c} {share} a) quiet =
      applied_quiet s quiet c share a.passes.above

  pub call_quiet : (s : Switch) (x : Call) → Quiet s → Quiet (reply_to keys s x).state
  call_quiet s x = kept_quiet (moves keys s x)

  pub after_quiet : (s : Switch) (xs : List Call) → Quiet s → Quiet (after keys s xs)
  after_quiet = after-keeps Quiet keys call_quiet

-- bytes that are a passing share by which those that agree on it, one too few before, are the quorum
pub record Completes (s : Switch) (keys bytes : List ℕ) : Type 0 where
  pub controller : ℕ
  pub share : Slot
  pub arrives : Arrives s keys bytes controller share
  pub before : length (controllers share s.slots) + 1 ≡ quorum_of s.n
  pub afterwards : length (controllers share (stored s controller share).slots) ≡ quorum_of s.n

module _ (s : Switch) (keys bytes : List ℕ) where
  -- what is answered 1 was no quorum before and is one now, and a share stored brings one controller more
  pub answered_completes : length s.slots ≡ 16 → Quiet s → (received_by s keys bytes).answer ≡ 1
      → Completes s keys bytes
  answered_completes sixteen quiet one =
      let m = answered_1 s keys bytes one in
      let c = m.controller in
      let share = m.share in
      let a = m.arrives in
      let few = quiet.short share a.passes.above in
      let inside : c < length s.slots = omega (arith, a.known, (within s a.limits).few) in
      let more = count-set_passing (holds share) s.slots c share empty_slot inside m.new (holds_mine share) in
      let was = agreeing-count share s.slots in
      let is = agreeing-count share (stored s c share).slots in
      record {
        controller = c;
        share = share;
        arrives = a;
        before = omega (arith, m.quorum, agreeing-controllers share s.slots);
        afterwards = omega (arith, m.quorum, agreeing-controllers share (stored s c share).slots);
      }

  -- what completes the quorum is no repeat, since storing a repeat changes no slot, and so it is stored and counted
  pub completing_answered : Completes s keys bytes → (received_by s keys bytes).answer ≡ 1
  completing_answered p =
      let c = p.controller in
      let share = p.share in
      let enough : is_quorum s.n share (stored s c share).slots ≡ true =
      le-leb (quorum_of s.n) (ones (agreeing share (stored s c share).slots))
      (omega (arith, p.afterwards, agreeing-controllers share (stored s c share).slots)) in
      let new : holds share (slot_of s c) ≡ false =
      is_false _ (λ h.
      let same : (stored s c share).slots ≡ s.slots =
      ap (set s.slots c) (sym (holds_sound share (slot_of s c) h)) ∙ set-get_or s.slots c empty_slot in
      omega (arith, p.before, p.afterwards, ap (λ (slots : List Slot). length (controllers share slots)) same))
      in
      ap (λ (r : Reply). r.answer) (arrival s keys bytes p.arrives) ∙ rw (new, enough)

-- after any calls from any setup, bytes are answered 1 exactly where they complete the quorum; a refused setup is not
-- left out, since it returns a switch that refuses all bytes
pub exactly : (keys : List ℕ) (id n : ℕ) (xs : List Call) (bytes : List ℕ) →
    let s = after keys (setup_of id n).state xs in
    ((received_by s keys bytes).answer ≡ 1 → Completes s keys bytes)
    × (Completes s keys bytes → (received_by s keys bytes).answer ≡ 1)
exactly keys id n xs bytes =
    let start = (setup_of id n).state in
    let s = after keys start xs in
    let sixteen = after_slots keys start xs ∙ setup_slots id n in
    let quiet = after_quiet keys start xs (setup_quiet id n) in
    (answered_completes s keys bytes sixteen quiet, completing_answered s keys bytes)

module _ (keys : List ℕ) where
  -- the numbers of the shares answered 1 rise strictly, from above the last applied number
  pub made_rising : (s : Switch) (xs : List Call) → rising_from s.last (made keys s xs) ≡ true
  unfolding made rising_from
  made_rising s [] = refl
  made_rising s (x ∷ xs) =
      let r = reply_to keys s x in
      let n = numbers-made keys s (moves keys s x) in
      rising_append s.last (number_made r.answer x) (made keys r.state xs)
      ∙ and_join _ _ n.0 (rw n.1 at (made_rising r.state xs))

  -- so no number is answered 1 twice
  pub made_once : (s : Switch) (xs : List Call) → different eqb (made keys s xs) ≡ true
  made_once s xs = rising_different s.last (made keys s xs) (made_rising s xs)

  -- the last applied number afterwards is the last one made, or as it was where none was
  pub made_last : (s : Switch) (xs : List Call) → (after keys s xs).last ≡ last_of s.last (made keys s xs)
  unfolding made after last_of
  made_last s [] = refl
  made_last s (x ∷ xs) =
      let r = reply_to keys s x in
      made_last r.state xs
      ∙ rw ((numbers-made keys s (moves keys s x)).1, last_append s.last (number_made r.answer x))

  -- and so the highest: each number made is above the last applied number before the calls, and at most that after them
  pub made_between : (s : Switch) (xs : List Call) (k : ℕ) → among eqb k (made keys s xs) ≡ true
      → (s.last < k) × (k ≤ (after keys s xs).last)
  made_between s xs k h =
      let b = rising_between s.last (made keys s xs) (made_rising s xs) k h in
      (b.0, omega (arith, b.1, made_last s xs))
