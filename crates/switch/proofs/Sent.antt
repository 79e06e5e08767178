-- What a switch writes: answered 0, the bytes at the offset are the message's, sealed with the controller's key and
-- read as it at its end, and every other byte of the frame is as it was; with any other answer the whole frame is.
-- An acknowledgement carries the last applied number, an event the last raised one. Assumes nothing.
use mathlib.Core.Path.{◌≡◌, refl, sym, ap, ◌∙◌}
use mathlib.Core.Bool.{Bool, true}
use mathlib.Core.List.{List}
use Prim.Native.Nat.{ℕ, ◌+◌, ◌*◌, ◌^◌, ◌≤◌, ◌<◌}
use lib.Dec.{ltb}
use lib.ListN.{length, take, drop}
use borrow.Author.Tests.{ltb-true, leb-true, eqb-true}
use Rattle.answer.specs.Ask.{Question, first_no}
use Rattle.answer.proofs.Asked.{reply_ap, all_yes, some_no, answered, reply-keeps}
use Rattle.lists.specs.Frames.{placed}
use Rattle.message.specs.Keys.{key_length, key_at}
use Rattle.message.specs.Writing.{encode, length_of, is_message, port_said}
use Rattle.message.specs.Ranges.{InRange}
use Rattle.message.specs.declared.Message.{Message}
use Rattle.message.proofs.Written.{Sent, placed_message, sent as message-sent}
use Rattle.switch.specs.States.{switch_ok}
use Rattle.switch.specs.Writing.{event_for, acknowledgement_for, write_questions, written}
use Rattle.switch.specs.Writing.{event_written, acknowledgement_written}
use Rattle.switch.specs.declared.Reply.{Reply}
use Rattle.switch.specs.declared.Switch.{Switch}

-- what the questions of a writing say where every answer is yes
pub record Allowed (s : Switch) (keys : List ℕ) (c : ℕ) (m : Message) (there : Bool) (frame : List ℕ) (at : ℕ)
    : Type 0 where
  pub limits : switch_ok s ≡ true
  pub store : length keys ≡ key_length * s.n
  pub known : c < s.n
  pub room : at + length_of m ≤ length frame
  pub something : there ≡ true

module _ (s : Switch) (keys : List ℕ) (c : ℕ) (m : Message) (there : Bool) (frame : List ℕ) (at : ℕ) where
  abbrev questions : List Question
  questions = write_questions s keys c m there frame at

  -- the answer is the first question's that is answered no; whatever it is, the state is as it was, and where it is not
  -- 0, so is the frame
  answer_is : (written s keys c m there frame at).0.answer ≡ first_no questions
  unfolding written
  answer_is = reply_ap (λ (r : Reply × List ℕ). r.0.answer) questions _ _

  pub written_state : (written s keys c m there frame at).0.state ≡ s
  unfolding written
  written_state = reply-keeps (λ (r : Reply × List ℕ). r.0.state ≡ s) questions _ _ (λ k. refl) (λ q. refl)

  pub not-sent : ((written s keys c m there frame at).0.answer ≡ 0 → ⊥) → (written s keys c m there frame at).1 ≡ frame
  unfolding written
  not-sent h = ap (λ (r : Reply × List ℕ). r.1) (some_no questions _ _ (λ q. h (answer_is ∙ q)))

  module _ (h : (written s keys c m there frame at).0.answer ≡ 0) where
    -- where it is 0
    pub allowed : Allowed s keys c m there frame at
    allowed =
        let yes = answered questions refl (sym answer_is ∙ h) in
        record {
          limits = yes 20;
          store = eqb-true _ _ (yes 21);
          known = ltb-true _ _ (yes 12);
          room = leb-true _ _ (yes 25);
          something = yes 26;
        }

    frame_is : (written s keys c m there frame at).1 ≡ placed (encode (key_at keys c) m) frame at
    unfolding written
    frame_is = ap (λ (r : Reply × List ℕ). r.1) (all_yes questions _ _ refl (sym answer_is ∙ h))

    -- the bytes are the message's, be its numbers in range or not
    pub sent-bytes : take (length_of m) (drop at (written s keys c m there frame at).1) ≡ encode (key_at keys c) m
    sent-bytes = rw frame_is (placed_message (key_at keys c) m frame at allowed.room)

    -- and in range, they are read as it
    pub sent : is_message m ≡ true → port_said m ≡ true → InRange m
        → Sent (key_at keys c) m frame at (written s keys c m there frame at).1
    sent y p r = rw frame_is (message-sent (key_at keys c) m frame at y p r allowed.room)

module _ (s : Switch) (keys : List ℕ) (c : ℕ) (frame : List ℕ) (at : ℕ) where
  -- an acknowledgement, with the last applied number
  pub acknowledgement-sent : (acknowledgement_written s keys c frame at).0.answer ≡ 0 → s.last < 256 ^ 4
      → Sent (key_at keys c) (acknowledgement_for s c) frame at (acknowledgement_written s keys c frame at).1
  acknowledgement-sent h r = sent s keys c (acknowledgement_for s c) true frame at h refl refl r

  -- an event, with the last raised serial and cause; and one was raised
  pub event-sent : (event_written s keys c frame at).0.answer ≡ 0 → s.raised.serial < 256 ^ 4
      → Sent (key_at keys c) (event_for s c) frame at (event_written s keys c frame at).1
  event-sent h r = sent s keys c (event_for s c) (ltb 0 s.raised.serial) frame at h refl refl r

  pub event_raised : (event_written s keys c frame at).0.answer ≡ 0 → 0 < s.raised.serial
  event_raised h = ltb-true _ _ (allowed s keys c (event_for s c) (ltb 0 s.raised.serial) frame at h).something
