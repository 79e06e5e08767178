-- How many bytes messages are, before their tag and with it. Assumes nothing.
use mathlib.Core.Path.{◌≡◌, refl}
use mathlib.Core.Bool.{true}
use mathlib.Core.List.{List}
use Prim.Native.Nat.{ℕ, ◌+◌}
use lib.ListN.{length, length-append}
use Rattle.answer.proofs.Bools.{tf}
use Rattle.lists.proofs.Numbers.{length-be}
use Rattle.tag.specs.Tags.{tag_length}
use Rattle.tag.proofs.Tags.{tag_length_lem}
use Rattle.message.specs.Layout.{event_body, share_body, acknowledgement_body}
use Rattle.message.specs.Writing.{body_of, sealed, encode, length_of, is_message}
use Rattle.message.specs.declared.Message.{Message}
use Rattle.message.specs.declared.Message.TheVariants.{Event, Share, Acknowledgement, Refused}

-- the bytes before the tag
abbrev pub body_length : Message → ℕ
body_length (Event s c n x) = event_body
body_length (Share c s n r) = share_body
body_length (Acknowledgement s c n) = acknowledgement_body
body_length (Refused k) = 0

pub body_length_lem : (m : Message) → length (body_of m) ≡ body_length m
body_length_lem (Event s c n x) = simp (length-append, length-be)
body_length_lem (Share c s n r) = simp (length-append, length-be)
body_length_lem (Acknowledgement s c n) = simp length-be
body_length_lem (Refused k) = refl

-- a message is its body with its tag
pub encode_body : (key : List ℕ) (m : Message) → is_message m ≡ true → encode key m ≡ sealed key (body_of m)
encode_body key (Event s c n x) h = refl
encode_body key (Share c s n r) h = refl
encode_body key (Acknowledgement s c n) h = refl
encode_body key (Refused k) h = tf h refl

pub body_and_tag : (m : Message) → is_message m ≡ true → length_of m ≡ body_length m + tag_length
body_and_tag (Event s c n x) h = refl
body_and_tag (Share c s n r) h = refl
body_and_tag (Acknowledgement s c n) h = refl
body_and_tag (Refused k) h = tf h refl

pub encode-length : (key : List ℕ) (m : Message) → length (encode key m) ≡ length_of m
encode-length key (Event s c n x) = simp (length-append, length-be, tag_length_lem)
encode-length key (Share c s n r) = simp (length-append, length-be, tag_length_lem)
encode-length key (Acknowledgement s c n) = simp (length-append, length-be, tag_length_lem)
encode-length key (Refused k) = refl
