-- What writing a message does to a frame: where it is answered 0 the bytes at the offset are the message's, are read as
-- it, and every other byte of the frame is as it was; where it is refused the whole frame is. Assumes nothing.
use mathlib.Core.Path.{◌≡◌, refl, sym, ap, ◌∙◌, subst}
use mathlib.Core.Bool.{true, false}
use mathlib.Core.List.{List, [], ◌∷◌}
use Prim.Native.Nat.{ℕ, ◌+◌, ◌≤◌, ◌<◌}
use native.Mathlib.Omega.{arith}
use borrow.Author.Tests.{le-leb, lt-leb, leb-true}
use lib.ListN.{length, take, drop}
use Rattle.answer.specs.Ask.{Question, first_no}
use Rattle.answer.proofs.Asked.{none_asked, refused, asked, by_reply, answered}
use Rattle.lists.specs.Bytes.{AreBytes}
use Rattle.lists.specs.Frames.{room_at, placed}
use Rattle.lists.proofs.Frames.{placed-there, placed-before, placed-after, placed-length}
use Rattle.message.specs.Reading.{decode, number_of, is_sealed}
use Rattle.message.specs.Writing.{encode, length_of, is_message, port_said, write_to}
use Rattle.message.specs.Ranges.{InRange, end_of}
use Rattle.message.specs.declared.End.{End}
use Rattle.message.specs.declared.Message.{Message}
use Rattle.message.proofs.Inverse.{decode-encode, encode-decode, encode-sealed, decode_message}
use Rattle.message.proofs.Lengths.{encode-length}

-- a reply beside the frame that it comes with
pub with_frame : {A : Type 0} (frame : List ℕ) {r t : A} → r ≡ t → ◌≡◌ {A = A × List ℕ} (r, frame) (t, frame)
with_frame frame e = ap (λ r. (r, frame)) e

-- a frame after a message was written with a key at an offset of it
pub record Sent (key : List ℕ) (m : Message) (frame : List ℕ) (at : ℕ) (after : List ℕ) : Type 0 where
  pub bytes : take (length_of m) (drop at after) ≡ encode key m
  pub read : decode (end_of m) (take (length_of m) (drop at after)) ≡ m
  pub sealed : is_sealed key (take (length_of m) (drop at after)) ≡ true
  pub long : length after ≡ length frame
  pub before : take at after ≡ take at frame
  pub behind : drop (at + length_of m) after ≡ drop (at + length_of m) frame

module _ (key : List ℕ) (m : Message) (frame : List ℕ) (at : ℕ) where
  -- the answers, by the first question whose answer is no
  pub malformed_written : port_said m ≡ false → write_to key m frame at ≡ (15, frame)
  malformed_written n = refused _ _ 15 _ _ n

  pub too_long_written : port_said m ≡ true → length frame < at + length_of m → write_to key m frame at ≡ (25, frame)
  too_long_written p n = asked _ _ 15 _ _ p ∙ refused _ _ 25 _ _ (lt-leb _ _ n)

  pub nothing_written : port_said m ≡ true → at + length_of m ≤ length frame → is_message m ≡ false
      → write_to key m frame at ≡ (26, frame)
  nothing_written p r n = asked _ _ 15 _ _ p ∙ asked _ _ 25 _ _ (le-leb _ _ r) ∙ refused _ _ 26 _ _ n

  pub all_written : is_message m ≡ true → port_said m ≡ true → at + length_of m ≤ length frame
      → write_to key m frame at ≡ (0, placed (encode key m) frame at)
  all_written y p r = asked _ _ 15 _ _ p ∙ asked _ _ 25 _ _ (le-leb _ _ r) ∙ asked _ _ 26 _ _ y ∙ none_asked _ _

  fits : at + length_of m ≤ length frame → at + length (encode key m) ≤ length frame
  fits h = omega (arith, encode-length key m)

  -- the frame with the message has its bytes at the offset
  pub placed_message : at + length_of m ≤ length frame
      → take (length_of m) (drop at (placed (encode key m) frame at)) ≡ encode key m
  placed_message room =
      ap (λ (n : ℕ). take n (drop at (placed (encode key m) frame at))) (sym (encode-length key m))
      ∙ placed-there (encode key m) frame at (fits room)

  -- and the frame's own bytes behind it
  placed-behind : at + length_of m ≤ length frame
      → drop (at + length_of m) (placed (encode key m) frame at) ≡ drop (at + length_of m) frame
  placed-behind room =
      subst (λ (n : ℕ). drop (at + n) (placed (encode key m) frame at) ≡ drop (at + n) frame) (encode-length key m)
      (placed-after (encode key m) frame at (fits room))

  -- a message that was written, or a refusal
  pub by_written : {C : Type 0}
      → (is_message m ≡ true → port_said m ≡ true → at + length_of m ≤ length frame
      → write_to key m frame at ≡ (0, placed (encode key m) frame at) → C)
      → ((k : ℕ) → 0 < k → write_to key m frame at ≡ (k, frame) → C) → C
  by_written done refusal =
      let qs : List Question =
      (15, port_said m) ∷ (25, room_at (length frame) at (length_of m)) ∷ (26, is_message m) ∷ [] in
      by_reply 1 qs _ _ refl (λ h e. refusal (first_no qs) h e)
      (λ pass e. let yes = answered qs refl pass in done (yes 26) (yes 15) (leb-true _ _ (yes 25)) e)

  -- what an answer says
  pub written_asked : (write_to key m frame at).0 ≡ 0
      → (is_message m ≡ true) × (port_said m ≡ true) × (at + length_of m ≤ length frame)
  written_asked h = by_written (λ y p r e. (y, p, r)) (λ k n e. let z = rw e at h in absurd (omega arith))

  pub not_written : ((write_to key m frame at).0 ≡ 0 → ⊥) → (write_to key m frame at).1 ≡ frame
  not_written h = by_written (λ y p r e. absurd (h (ap (λ (a : ℕ × List ℕ). a.0) e))) (λ k n e. rw e)

  pub written : (write_to key m frame at).0 ≡ 0
      → take (length_of m) (drop at (write_to key m frame at).1) ≡ encode key m
  written h =
      by_written (λ y p r e. rw e (placed_message r)) (λ k n e. let z = rw e at h in absurd (omega arith))

  -- so the bytes at the offset are read as the message where they arrive, and pass the check of their tag
  pub read-written : InRange m → (write_to key m frame at).0 ≡ 0
      → decode (end_of m) (take (length_of m) (drop at (write_to key m frame at).1)) ≡ m
  read-written r h = rw (written h) (decode-encode key m r (written_asked h).1)

  pub sealed-written : (write_to key m frame at).0 ≡ 0
      → is_sealed key (take (length_of m) (drop at (write_to key m frame at).1)) ≡ true
  sealed-written h = rw (written h) (encode-sealed key m (written_asked h).0)

  -- all that there is to say of the frame that was written
  pub sent : is_message m ≡ true → port_said m ≡ true → InRange m → at + length_of m ≤ length frame
      → Sent key m frame at (placed (encode key m) frame at)
  sent y p r room =
      let w = encode key m in
      let there = placed_message room in
      record {
        bytes = there;
        read = rw there (decode-encode key m r p);
        sealed = rw there (encode-sealed key m y);
        long = placed-length w frame at (fits room);
        before = placed-before w frame at (fits room);
        behind = placed-behind room;
      }

  -- whether it was written or refused
  pub written-length : length (write_to key m frame at).1 ≡ length frame
  written-length = by_written (λ y p r e. rw e (placed-length (encode key m) frame at (fits r))) (λ k n e. rw e)

  pub written-before : take at (write_to key m frame at).1 ≡ take at frame
  written-before = by_written (λ y p r e. rw e (placed-before (encode key m) frame at (fits r))) (λ k n e. rw e)

  pub written_after : drop (at + length_of m) (write_to key m frame at).1 ≡ drop (at + length_of m) frame
  written_after = by_written (λ y p r e. rw e (placed-behind r)) (λ k n e. rw e)

-- bytes that pass questions 10, 11 and 14 and fit at an offset are written there again by the writing call itself
pub written_back : (end : End) (key s frame : List ℕ) (at : ℕ) → AreBytes s → number_of (decode end s) ≡ 0
    → is_sealed key s ≡ true → at + length s ≤ length frame
    → write_to key (decode end s) frame at ≡ (0, placed s frame at)
written_back end key s frame at b h t room =
    let m = decode end s in
    let again = encode-decode end key s b h t in
    let long : length_of m ≡ length s = sym (encode-length key m) ∙ ap length again in
    let can = decode_message end s h in
    all_written key m frame at can.0 can.1 (rw long room)
    ∙ ap (λ (w : List ℕ). (0, placed w frame at)) again
