-- Reading gives back what was written, and writing what was read: the two ways round, with what makes each possible.
-- Assumes nothing.
use mathlib.Core.Path.{◌≡◌, refl, ap, ap₂, ◌∙◌}
use mathlib.Core.Bool.{true}
use mathlib.Core.List.{List, ◌∷◌, ◌++◌, append_assoc}
use Prim.Native.Nat.{ℕ, suc, ◌+◌, ◌-◌, ◌^◌, ◌≤◌, ◌<◌}
use native.Mathlib.Omega.{arith}
use borrow.Author.Tests.{le-leb}
use lib.Dec.{leb}
use lib.ListN.{length, take, drop, length-append, take-append-drop}
use lib.Seq.{take-add, drop-drop, drop-cons, take_at, drop_at}
use Rattle.answer.proofs.Bools.{and_join, and_parts}
use Rattle.lists.specs.Bytes.{be, num, field, AreBytes, byte_at}
use Rattle.lists.proofs.Numbers.{num-be, be-field, field_range}
use Rattle.flow.specs.Rules.{port_of, rule_of}
use Rattle.flow.specs.declared.Rule.{Rule}
use Rattle.flow.proofs.Actions.{action-port, action_ok, port-rule}
use Rattle.tag.specs.Tags.{tag_length, tag_of, is_tag}
use Rattle.tag.proofs.Tags.{tag_length_lem, equal_true, equal_self}
use Rattle.message.specs.Layout.{event_kind, share_kind, acknowledgement_kind}
use Rattle.message.specs.Layout.{kind_at, sender_at, receiver_at, number_at, cause_at, prefix_at, length_at, port_at}
use Rattle.message.specs.Layout.{event_body, share_body, acknowledgement_body}
use Rattle.message.specs.Layout.{event_length, share_length, acknowledgement_length}
use Rattle.message.specs.Events.{event_of}
use Rattle.message.specs.Shares.{share_of}
use Rattle.message.specs.Acknowledgements.{acknowledgement_of}
use Rattle.message.specs.Reading.{decode, number_of, is_sealed}
use Rattle.message.specs.Writing.{body_of, sealed, encode, is_message, port_said}
use Rattle.message.specs.Ranges.{InRange, end_of}
use Rattle.message.specs.declared.End.{End}
use Rattle.message.specs.declared.Message.{Message}
use Rattle.message.specs.declared.Message.TheVariants.{Event, Share, Acknowledgement, Refused}
use Rattle.message.proofs.Ends.{decode-event, decode-share, decode-acknowledgement, by_read}
use Rattle.message.proofs.Lengths.{encode_body, encode-length}

-- the fields of a written message
event-fields : (key : List ℕ) (s c n x : ℕ) → n < 256 ^ 4 → event_of (encode key (Event s c n x)) ≡ Event s c n x
unfolding be field
event-fields key s c n x h = ap (λ (y : ℕ). Event s c y x) (num-be 4 n h)

share-fields : (key : List ℕ) (c s n : ℕ) (r : Rule) → InRange (Share c s n r) → port_said (Share c s n r) ≡ true
    → share_of (encode key (Share c s n r)) ≡ Share c s n r
unfolding be field
share-fields key c s n r h p =
    let port = port_of r.action in
    ap (λ (y : ℕ). Share c s y (rule_of (num (be 4 r.prefix)) r.length (num (be 2 port)))) (num-be 4 n h.0)
    ∙ ap₂ (λ (y z : ℕ). Share c s n (rule_of y r.length z)) (num-be 4 r.prefix h.1) (num-be 2 port h.2)
    ∙ ap (Share c s n) (port-rule r p)

acknowledgement-fields : (key : List ℕ) (s c n : ℕ) → n < 256 ^ 4
    → acknowledgement_of (encode key (Acknowledgement s c n)) ≡ Acknowledgement s c n
unfolding be field
acknowledgement-fields key s c n h = ap (Acknowledgement s c) (num-be 4 n h)

-- a message whose numbers fit their fields is read back at its end
pub decode-encode : (key : List ℕ) (m : Message) → InRange m → port_said m ≡ true → decode (end_of m) (encode key m) ≡ m
decode-encode key (Event s c n x) h p =
    decode-event _ (encode-length key (Event s c n x)) refl ∙ event-fields key s c n x h
decode-encode key (Share c s n r) h p =
    decode-share _ (encode-length key (Share c s n r)) refl ∙ share-fields key c s n r h p
decode-encode key (Acknowledgement s c n) h p =
    decode-acknowledgement _ (encode-length key (Acknowledgement s c n)) refl ∙ acknowledgement-fields key s c n h
decode-encode key (Refused k) h p = absurd h

-- bytes with their tag after them pass question 14
seal_passes : (key b : List ℕ) → is_sealed key (sealed key b) ≡ true
unfolding is_sealed
seal_passes key b =
    let l : length (sealed key b) ≡ length b + tag_length = simp (length-append, tag_length_lem) in
    let e : length (sealed key b) - tag_length ≡ length b = omega arith in
    rw (e, take_at b (tag_of key b) (length b) refl, drop_at b (tag_of key b) (length b) refl)
    (and_join _ _ (le-leb tag_length (length (sealed key b)) (omega arith)) (equal_self (tag_of key b)))

pub encode-sealed : (key : List ℕ) (m : Message) → is_message m ≡ true → is_sealed key (encode key m) ≡ true
encode-sealed key m h = rw (encode_body key m h) (seal_passes key (body_of m))

-- what is read can be written
pub decode_message : (end : End) (s : List ℕ) → number_of (decode end s) ≡ 0
    → (is_message (decode end s) ≡ true) × (port_said (decode end s) ≡ true)
decode_message end s h =
    by_read (λ (m : Message). (is_message m ≡ true) × (port_said m ≡ true)) end s h (λ l k. (refl, refl))
    (λ l k. (refl, action_ok (field s port_at 2))) (λ l k. (refl, refl))

-- what is read has numbers that fit their fields
pub decode_range : (end : End) (s : List ℕ) → AreBytes s → number_of (decode end s) ≡ 0 → InRange (decode end s)
decode_range end s b h =
    by_read InRange end s h (λ l k. field_range s number_at 4 b (omega arith))
    (λ l k. (
      field_range s number_at 4 b (omega arith),
      field_range s prefix_at 4 b (omega arith),
      rw (action-port (field s port_at 2)) (field_range s port_at 2 b (omega arith)),
    ))
    (λ l k. field_range s number_at 4 b (omega arith))

-- a part of bytes begins with a byte, or with a field
part_byte : (s : List ℕ) (at n : ℕ) → at < length s → take (suc n) (drop at s) ≡ byte_at s at ∷ take n (drop (suc at) s)
part_byte s at n h = ap (take (suc n)) (drop-cons s at 0 h)

part_field : (s : List ℕ) (at k n : ℕ) → AreBytes s → at + k ≤ length s
    → take (k + n) (drop at s) ≡ be k (field s at k) ++ take n (drop (at + k) s)
part_field s at k n b h = rw (take-add k n (drop at s), drop-drop k at s, be-field s at k b h)

-- the body of what is read is the bytes before the tag
event-bytes : (s : List ℕ) → AreBytes s → length s ≡ event_length → byte_at s kind_at ≡ event_kind
    → body_of (event_of s) ≡ take event_body s
event-bytes s b l k =
    rw (
      part_byte s kind_at 7 (omega arith),
      k,
      part_byte s sender_at 6 (omega arith),
      part_byte s receiver_at 5 (omega arith),
      part_field s number_at 4 1 b (omega arith),
      part_byte s cause_at 0 (omega arith),
    )

share-bytes : (s : List ℕ) → AreBytes s → length s ≡ share_length → byte_at s kind_at ≡ share_kind
    → body_of (share_of s) ≡ take share_body s
share-bytes s b l k =
    let rest = byte_at s length_at ∷ be 2 (field s port_at 2) in
    rw (
      part_byte s kind_at 13 (omega arith),
      k,
      part_byte s sender_at 12 (omega arith),
      part_byte s receiver_at 11 (omega arith),
      part_field s number_at 4 7 b (omega arith),
      part_field s prefix_at 4 3 b (omega arith),
      part_byte s length_at 2 (omega arith),
      ← be-field s port_at 2 b (omega arith),
      action-port (field s port_at 2),
      append_assoc (be 4 (field s number_at 4)) (be 4 (field s prefix_at 4)) rest,
    )

acknowledgement-bytes : (s : List ℕ) → AreBytes s → length s ≡ acknowledgement_length
    → byte_at s kind_at ≡ acknowledgement_kind → body_of (acknowledgement_of s) ≡ take acknowledgement_body s
acknowledgement-bytes s b l k =
    rw (
      part_byte s kind_at 6 (omega arith),
      k,
      part_byte s sender_at 5 (omega arith),
      part_byte s receiver_at 4 (omega arith),
      be-field s number_at 4 b (omega arith),
    )

-- bytes that pass question 14 are those before the tag with their tag
seal_again : (key s b : List ℕ) (n : ℕ) → is_sealed key s ≡ true → length s ≡ n + tag_length → b ≡ take n s
    → sealed key b ≡ s
unfolding is_sealed
seal_again key s b n h l e =
    let body = length s - tag_length in
    let k : body ≡ n = omega arith in
    let t = rw k at (and_parts (leb tag_length (length s)) (is_tag key (take body s) (drop body s)) h).1 in
    rw (e, equal_true (tag_of key (take n s)) (drop n s) t) (take-append-drop n s)

-- what was read and passes question 14 is written as the bytes that were read
pub encode-decode : (end : End) (key s : List ℕ) → AreBytes s → number_of (decode end s) ≡ 0 → is_sealed key s ≡ true
    → encode key (decode end s) ≡ s
encode-decode end key s b h t =
    by_read (λ (m : Message). encode key m ≡ s) end s h
    (λ l k. seal_again key s (body_of (event_of s)) event_body t l (event-bytes s b l k))
    (λ l k. seal_again key s (body_of (share_of s)) share_body t l (share-bytes s b l k))
    (λ l k. seal_again key s (body_of (acknowledgement_of s)) acknowledgement_body t l (acknowledgement-bytes s b l k))
