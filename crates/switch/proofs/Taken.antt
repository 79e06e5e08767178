-- Every case that there is when bytes are received: refused with the number of a question, a repeat, held, or applied;
-- each with what it says of the bytes, its answer and the state afterwards. Assumes nothing.
use mathlib.Core.Path.{◌≡◌, refl, ap, ◌∙◌}
use mathlib.Core.Bool.{true, false}
use mathlib.Core.List.{List}
use Prim.Native.Nat.{ℕ, ◌*◌, ◌≤◌, ◌<◌}
use lib.ListN.{length}
use borrow.Author.Tests.{ltb-true, eqb-true, lt-ltb, eq-eqb}
use Rattle.answer.specs.Ask.{reply, first_no}
use Rattle.answer.proofs.Asked.{reply-from, all_yes, answered}
use Rattle.answer.proofs.Bools.{by_bool}
use Rattle.flow.specs.declared.Rule.{Rule}
use Rattle.message.specs.Keys.{key_length, key_at}
use Rattle.message.specs.Reading.{decode, is_sealed}
use Rattle.message.specs.Senders.{sender_questions}
use Rattle.message.specs.declared.End.TheVariants as ends
use Rattle.message.specs.declared.Message.TheVariants.{Share}
use Rattle.message.proofs.Ends.{by_switch, from_10}
use Rattle.switch.specs.Slots.{slot_for, holds, is_quorum}
use Rattle.switch.specs.States.{unchanged, switch_ok, state_questions}
use Rattle.switch.specs.Shares.{slot_of, share_questions, stored, applied, accepted, take_share}
use Rattle.switch.specs.Receiving.{received_by}
use Rattle.switch.specs.declared.Reply.{Reply}
use Rattle.switch.specs.declared.Slot.{Slot}
use Rattle.switch.specs.declared.Switch.{Switch}
use Rattle.switch.proofs.Passing.{Passes, passes, passing}

-- this share, from controller c, has passed all questions of its bytes and its own
pub record Arrives (s : Switch) (keys bytes : List ℕ) (c : ℕ) (share : Slot) : Type 0 where
  pub limits : switch_ok s ≡ true
  pub store : length keys ≡ key_length * s.n
  pub read : decode ends.Switch bytes ≡ Share c s.id share.number share.rule
  pub known : c < s.n
  pub sealed : is_sealed (key_at keys c) bytes ≡ true
  pub passes : Passes s (slot_of s c) share

-- the answer to bytes, and the state afterwards
pub data Received (s : Switch) (keys bytes : List ℕ) : ℕ → Switch → Type 0 where
  refused : {k : ℕ} → 10 ≤ k → Received s keys bytes k s
  repeated : {c : ℕ} {share : Slot} → Arrives s keys bytes c share
      → holds share (slot_of s c) ≡ true → Received s keys bytes 2 s
  held : {c : ℕ} {share : Slot} → Arrives s keys bytes c share
      → holds share (slot_of s c) ≡ false → is_quorum s.n share (stored s c share).slots ≡ false
      → Received s keys bytes 0 (stored s c share)
  made : {c : ℕ} {share : Slot} → Arrives s keys bytes c share
      → holds share (slot_of s c) ≡ false → is_quorum s.n share (stored s c share).slots ≡ true
      → Received s keys bytes 1 (applied (stored s c share) share)

module _ (s : Switch) (keys bytes : List ℕ) where
  -- a reply with such an answer and state
  abbrev Replies : Reply → Type 0
  Replies r = Received s keys bytes r.answer r.state

  -- a share after all questions
  passed_on : {c : ℕ} {share : Slot} → Arrives s keys bytes c share → Replies (accepted s c share)
  passed_on {c} {share} a =
      by_bool (holds share (slot_of s c))
      (λ y. rw y (repeated a y))
      (λ y. by_bool (is_quorum s.n share (stored s c share).slots)
      (λ q. rw (y, q) (made a y q))
      (λ q. rw (y, q) (held a y q)))

  -- what it says that every answer is yes: of the state, of the sender, and of the share
  arrives : {c to number : ℕ} {rule : Rule} → first_no (state_questions s (length keys)) ≡ 0
      → decode ends.Switch bytes ≡ Share c to number rule → first_no (sender_questions s.n s.id keys bytes c to) ≡ 0
      → first_no (share_questions s (slot_of s c) (slot_for number rule)) ≡ 0
      → Arrives s keys bytes c (slot_for number rule)
  arrives {c} {to} {number} {rule} state d sender own =
      let limits = answered (state_questions s (length keys)) refl state in
      let known = answered (sender_questions s.n s.id keys bytes c to) refl sender in
      record {
        limits = limits 20;
        store = eqb-true _ _ (limits 21);
        read = d ∙ ap (λ t. Share c t number rule) (eqb-true _ _ (known 13));
        known = ltb-true _ _ (known 12);
        sealed = known 14;
        passes = passes s (slot_of s c) (slot_for number rule) own;
      }

  -- the questions in order: the first that is answered no refuses, and what passes all of them is accepted
  pub received : Received s keys bytes (received_by s keys bytes).answer (received_by s keys bytes).state
  unfolding received_by take_share
  received =
      reply-from Replies 10 _ _ _ refl (λ k h. refused h)
      (λ state. by_switch bytes
      (λ l kind d. rw d (reply-from Replies 10 _ _ _ refl (λ k h. refused h)
      (λ sender. reply-from Replies 10 _ _ _ refl (λ k h. refused h)
      (λ own. passed_on (arrives state d sender own)))))
      (λ k h d. rw d (refused (from_10 h))))

  pub arrival : {c : ℕ} {share : Slot} → Arrives s keys bytes c share
      → received_by s keys bytes ≡ accepted s c share
  unfolding received_by take_share reply
  arrival {c} {share} a =
      rw (a.limits, eq-eqb _ _ a.store, a.read, lt-ltb _ _ a.known, eq-eqb s.id s.id refl, a.sealed)
      (all_yes (share_questions s (slot_of s c) share) (unchanged s) _ refl
      (passing s (slot_of s c) share a.passes))
