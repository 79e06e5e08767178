-- What bytes are read as at each end: a switch reads a share or refuses, a controller an event or an acknowledgement or
-- refuses, and a refusal has the number of the question that failed. Assumes nothing.
use mathlib.Core.Path.{◌≡◌, refl, ◌∙◌}
use mathlib.Core.Bool.{Bool, true, false, ◌||◌}
use mathlib.Core.List.{List, [], ◌∷◌}
use mathlib.Core.Logic.{◌⊎◌, inl, inr}
use Prim.Native.Nat.{ℕ, ◌≤◌}
use native.Mathlib.Omega.{arith}
use borrow.Author.Tests.{eq-eqb, ne_eqb}
use lib.Dec.{eqb}
use lib.ListN.{length}
use Rattle.answer.specs.Ask.{pick, reply}
use Rattle.answer.proofs.Asked.{none_asked, refused, asked, reply_ap}
use Rattle.answer.proofs.Bools.{by_eq}
use Rattle.lists.specs.Bytes.{byte_at, field}
use Rattle.flow.specs.declared.Rule.{Rule}
use Rattle.message.specs.Layout.{event_kind, share_kind, acknowledgement_kind, kind_at, number_at}
use Rattle.message.specs.Layout.{event_length, share_length, acknowledgement_length}
use Rattle.message.specs.Events.{event_of}
use Rattle.message.specs.Shares.{share_of}
use Rattle.message.specs.Acknowledgements.{acknowledgement_of}
use Rattle.message.specs.Reading.{decode, message_said, number_of}
use Rattle.message.specs.declared.End.{End}
use Rattle.message.specs.declared.End.TheVariants.{Switch, Controller}
use Rattle.message.specs.declared.Message.{Message}
use Rattle.message.specs.declared.Message.TheVariants.{Event, Share, Acknowledgement, Refused}

-- questions 10 and 11 before a message, and their answers: both yes, no to the first, and no to the second alone
abbrev asks : Bool → Bool → Message → Message
asks long kind m = reply ((10, long) ∷ (11, kind) ∷ []) Refused m

module _ (long kind : Bool) (m : Message) where
  both_right : long ≡ true → kind ≡ true → asks long kind m ≡ m
  both_right l k = asked Refused _ 10 _ _ l ∙ asked Refused _ 11 _ _ k ∙ none_asked Refused _

  wrong_length : long ≡ false → asks long kind m ≡ Refused 10
  wrong_length l = refused Refused _ 10 _ _ l

  wrong_kind : long ≡ true → kind ≡ false → asks long kind m ≡ Refused 11
  wrong_kind l k = asked Refused _ 10 _ _ l ∙ refused Refused _ 11 _ _ k

module _ (s : List ℕ) where
  -- at a switch
  at_switch_lem : decode Switch s ≡ asks (eqb (length s) share_length) (eqb (byte_at s kind_at) share_kind) (share_of s)
  unfolding decode
  at_switch_lem = refl

  pub decode-share : length s ≡ share_length → byte_at s kind_at ≡ share_kind → decode Switch s ≡ share_of s
  decode-share l k = at_switch_lem ∙ both_right _ _ _ (eq-eqb _ _ l) (eq-eqb _ _ k)

  pub decode-share_length : (length s ≡ share_length → ⊥) → decode Switch s ≡ Refused 10
  decode-share_length l = at_switch_lem ∙ wrong_length _ _ _ (ne_eqb _ _ l)

  pub decode-share_kind : length s ≡ share_length → (byte_at s kind_at ≡ share_kind → ⊥) → decode Switch s ≡ Refused 11
  decode-share_kind l k = at_switch_lem ∙ wrong_kind _ _ _ (eq-eqb _ _ l) (ne_eqb _ _ k)

  -- at a controller, where the length is an event's, and where it is not
  as_event : length s ≡ event_length → decode Controller s ≡ asks true (eqb (byte_at s kind_at) event_kind) (event_of s)
  unfolding decode
  as_event l = rw (eq-eqb _ _ l)

  as_other : (length s ≡ event_length → ⊥)
      → decode Controller s
      ≡ asks (eqb (length s) acknowledgement_length) (eqb (byte_at s kind_at) acknowledgement_kind) (acknowledgement_of s)
  unfolding decode
  as_other l = rw (ne_eqb _ _ l)

  pub decode-event : length s ≡ event_length → byte_at s kind_at ≡ event_kind → decode Controller s ≡ event_of s
  decode-event l k = as_event l ∙ both_right _ _ _ refl (eq-eqb _ _ k)

  pub decode-event_kind : length s ≡ event_length → (byte_at s kind_at ≡ event_kind → ⊥) → decode Controller s ≡ Refused 11
  decode-event_kind l k = as_event l ∙ wrong_kind _ _ _ refl (ne_eqb _ _ k)

  pub decode-acknowledgement : length s ≡ acknowledgement_length → byte_at s kind_at ≡ acknowledgement_kind
      → decode Controller s ≡ acknowledgement_of s
  decode-acknowledgement l k = as_other (λ e. omega arith) ∙ both_right _ _ _ (eq-eqb _ _ l) (eq-eqb _ _ k)

  pub decode-acknowledgement_kind : length s ≡ acknowledgement_length → (byte_at s kind_at ≡ acknowledgement_kind → ⊥)
      → decode Controller s ≡ Refused 11
  decode-acknowledgement_kind l k = as_other (λ e. omega arith) ∙ wrong_kind _ _ _ (eq-eqb _ _ l) (ne_eqb _ _ k)

  pub decode-controller_length : (length s ≡ event_length → ⊥) → (length s ≡ acknowledgement_length → ⊥)
      → decode Controller s ≡ Refused 10
  decode-controller_length l k = as_other l ∙ wrong_length _ _ _ (ne_eqb _ _ k)

  -- every case that there is at an end
  pub by_switch : {C : Type 0}
      → (length s ≡ share_length → byte_at s kind_at ≡ share_kind → decode Switch s ≡ share_of s → C)
      → ((k : ℕ) → (k ≡ 10) ⊎ (k ≡ 11) → decode Switch s ≡ Refused k → C) → C
  by_switch share refusal =
      by_eq (length s) share_length
      (λ l. by_eq (byte_at s kind_at) share_kind (λ k. share l k (decode-share l k))
      (λ k. refusal 11 (inr refl) (decode-share_kind l k)))
      (λ l. refusal 10 (inl refl) (decode-share_length l))

  pub by_controller : {C : Type 0}
      → (length s ≡ event_length → byte_at s kind_at ≡ event_kind → decode Controller s ≡ event_of s → C)
      → (length s ≡ acknowledgement_length → byte_at s kind_at ≡ acknowledgement_kind
      → decode Controller s ≡ acknowledgement_of s → C)
      → ((k : ℕ) → (k ≡ 10) ⊎ (k ≡ 11) → decode Controller s ≡ Refused k → C) → C
  by_controller event acknowledgement refusal =
      by_eq (length s) event_length
      (λ l. by_eq (byte_at s kind_at) event_kind (λ k. event l k (decode-event l k))
      (λ k. refusal 11 (inr refl) (decode-event_kind l k)))
      (λ n. by_eq (length s) acknowledgement_length
      (λ l. by_eq (byte_at s kind_at) acknowledgement_kind (λ k. acknowledgement l k (decode-acknowledgement l k))
      (λ k. refusal 11 (inr refl) (decode-acknowledgement_kind l k)))
      (λ l. refusal 10 (inl refl) (decode-controller_length n l)))

-- what a message that is read at an end says of the bytes; that it is of a kind not read there is false
abbrev pub Gives : End → List ℕ → Message → Type 0
Gives Switch s (Share c w n r) =
    (length s ≡ share_length) × (byte_at s kind_at ≡ share_kind) × (Share c w n r ≡ share_of s)
Gives Switch s (Event w c n x) = ⊥
Gives Switch s (Acknowledgement w c n) = ⊥
Gives Switch s (Refused k) = (k ≡ 10) ⊎ (k ≡ 11)
Gives Controller s (Event w c n x) =
    (length s ≡ event_length) × (byte_at s kind_at ≡ event_kind) × (Event w c n x ≡ event_of s)
Gives Controller s (Acknowledgement w c n) =
    (length s ≡ acknowledgement_length) × (byte_at s kind_at ≡ acknowledgement_kind)
    × (Acknowledgement w c n ≡ acknowledgement_of s)
Gives Controller s (Share c w n r) = ⊥
Gives Controller s (Refused k) = (k ≡ 10) ⊎ (k ≡ 11)

pub gives : (end : End) (s : List ℕ) {m : Message} → decode end s ≡ m → Gives end s m
gives Switch s e = rw (← e) (by_switch s (λ l k f. rw f (l, k, refl)) (λ k h f. rw f h))
gives Controller s e =
    rw (← e) (by_controller s (λ l k f. rw f (l, k, refl)) (λ l k f. rw f (l, k, refl)) (λ k h f. rw f h))

-- the number that a share was read with is the one in its bytes
pub share-number : (s : List ℕ) {c w n : ℕ} {r : Rule} → decode Switch s ≡ Share c w n r → field s number_at 4 ≡ n
share-number s e = let h = (gives Switch s e).2 in cc

-- a refusal's number is that of a question
pub from_10 : {k : ℕ} → (k ≡ 10) ⊎ (k ≡ 11) → 10 ≤ k
from_10 (inl e) = omega arith
from_10 (inr e) = omega arith

-- what holds of the fields of each kind holds of a message that was read
pub by_read : (P : Message → Type 0) (end : End) (s : List ℕ) → number_of (decode end s) ≡ 0
    → (length s ≡ event_length → byte_at s kind_at ≡ event_kind → P (event_of s))
    → (length s ≡ share_length → byte_at s kind_at ≡ share_kind → P (share_of s))
    → (length s ≡ acknowledgement_length → byte_at s kind_at ≡ acknowledgement_kind → P (acknowledgement_of s))
    → P (decode end s)
by_read P Switch s h event share acknowledgement =
    by_switch s (λ l k e. rw e (share l k)) (λ k r e. let z = rw e at h in absurd (omega (arith, from_10 r)))
by_read P Controller s h event share acknowledgement =
    by_controller s (λ l k e. rw e (event l k)) (λ l k e. rw e (acknowledgement l k))
    (λ k r e. let z = rw e at h in absurd (omega (arith, from_10 r)))

-- document 01's number and values of what is read at a switch: the refusing question, or the fields of a share
pub switch_said : (s : List ℕ) → message_said (decode Switch s)
    ≡ reply ((10, eqb (length s) share_length) ∷ (11, eqb (byte_at s kind_at) share_kind) ∷ []) (λ k. (k, []))
    (message_said (share_of s))
unfolding decode
switch_said s = reply_ap message_said _ Refused (share_of s)

-- and at a controller: the refusing question, or the fields of an event or an acknowledgement, by the length
pub controller_said : (s : List ℕ) → message_said (decode Controller s)
    ≡ reply
    ((10, eqb (length s) event_length || eqb (length s) acknowledgement_length)
    ∷ (11, eqb (byte_at s kind_at) (pick (eqb (length s) event_length) event_kind acknowledgement_kind)) ∷ [])
    (λ k. (k, []))
    (message_said (pick (eqb (length s) event_length) (event_of s) (acknowledgement_of s)))
unfolding decode
controller_said s = reply_ap message_said _ Refused _
