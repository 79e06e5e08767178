-- Stores into a frame: the runs of stores that bodies and whole messages are. Assumes nothing.
use mathlib.Core.Path.{◌≡◌, refl, ap, ◌∙◌}
use mathlib.Core.Bool.{true}
use mathlib.Core.List.{List, [], ◌∷◌, ◌++◌}
use Prim.Native.Nat.{ℕ, ◌+◌, ◌≤◌}
use native.Mathlib.Omega.{arith}
use lib.ListN.{length, take}
use lib.Seq.{sets, sets-eq, take_at}
use Rattle.lists.specs.Bytes.{be}
use Rattle.lists.specs.Frames.{placed_whole}
use Rattle.lists.proofs.Frames.{nothing_put, put-behind}
use Rattle.lists.proofs.Runs.{sets_append}
use Rattle.flow.specs.Rules.{port_of}
use Rattle.flow.specs.declared.Rule.{Rule}
use Rattle.tag.specs.Tags.{tag_of}
use Rattle.message.specs.Layout.{event_kind, share_kind, acknowledgement_kind}
use Rattle.message.specs.Layout.{kind_at, sender_at, receiver_at, number_at, cause_at, prefix_at, length_at, port_at}
use Rattle.message.specs.Layout.{event_body, share_body, acknowledgement_body}
use Rattle.message.specs.Writing.{body_of, encode, length_of, is_message}
use Rattle.message.specs.declared.Message.{Message}
use Rattle.message.specs.declared.Message.TheVariants.{Event, Share, Acknowledgement}
use Rattle.message.proofs.Lengths.{body_length, body_length_lem, body_and_tag, encode_body}

-- the fields of each kind, each put behind the one before it
module _ (p : List ℕ) {m₁ m₂ m₃ m₄ : List ℕ} where
  pub event-put : (s c n x : ℕ) {m₅ : List ℕ} → event_body ≤ length p → m₁ ≡ placed_whole (event_kind ∷ []) p kind_at
      → m₂ ≡ placed_whole (s ∷ []) m₁ sender_at → m₃ ≡ placed_whole (c ∷ []) m₂ receiver_at
      → m₄ ≡ placed_whole (be 4 n) m₃ number_at → m₅ ≡ placed_whole (x ∷ []) m₄ cause_at
      → m₅ ≡ sets p 0 (body_of (Event s c n x))
  unfolding be
  event-put s c n x room e₁ e₂ e₃ e₄ e₅ =
      let kind = put-behind (event_kind ∷ []) kind_at (nothing_put p 0) refl (omega arith) e₁ in
      let switch = put-behind (s ∷ []) sender_at kind refl (omega arith) e₂ in
      let controller = put-behind (c ∷ []) receiver_at switch refl (omega arith) e₃ in
      let serial = put-behind (be 4 n) number_at controller refl (omega arith) e₄ in
      (put-behind (x ∷ []) cause_at serial refl (omega arith) e₅).is

  pub share-put : (c s n : ℕ) (r : Rule) {q : ℕ} {m₅ m₆ m₇ : List ℕ} → share_body ≤ length p → q ≡ port_of r.action
      → m₁ ≡ placed_whole (share_kind ∷ []) p kind_at → m₂ ≡ placed_whole (c ∷ []) m₁ sender_at
      → m₃ ≡ placed_whole (s ∷ []) m₂ receiver_at → m₄ ≡ placed_whole (be 4 n) m₃ number_at
      → m₅ ≡ placed_whole (be 4 r.prefix) m₄ prefix_at → m₆ ≡ placed_whole (r.length ∷ []) m₅ length_at
      → m₇ ≡ placed_whole (be 2 q) m₆ port_at → m₇ ≡ sets p 0 (body_of (Share c s n r))
  unfolding be
  share-put c s n r {q} room e e₁ e₂ e₃ e₄ e₅ e₆ e₇ =
      let kind = put-behind (share_kind ∷ []) kind_at (nothing_put p 0) refl (omega arith) e₁ in
      let controller = put-behind (c ∷ []) sender_at kind refl (omega arith) e₂ in
      let switch = put-behind (s ∷ []) receiver_at controller refl (omega arith) e₃ in
      let number = put-behind (be 4 n) number_at switch refl (omega arith) e₄ in
      let prefix = put-behind (be 4 r.prefix) prefix_at number refl (omega arith) e₅ in
      let length = put-behind (r.length ∷ []) length_at prefix refl (omega arith) e₆ in
      (put-behind (be 2 q) port_at length refl (omega arith) e₇).is
      ∙ ap (λ (y : ℕ). sets p 0 (share_kind ∷ c ∷ s ∷ be 4 n ++ be 4 r.prefix ++ r.length ∷ be 2 y)) e

  pub acknowledgement-put : (s c n : ℕ) → acknowledgement_body ≤ length p
      → m₁ ≡ placed_whole (acknowledgement_kind ∷ []) p kind_at → m₂ ≡ placed_whole (s ∷ []) m₁ sender_at
      → m₃ ≡ placed_whole (c ∷ []) m₂ receiver_at → m₄ ≡ placed_whole (be 4 n) m₃ number_at
      → m₄ ≡ sets p 0 (body_of (Acknowledgement s c n))
  unfolding be
  acknowledgement-put s c n room e₁ e₂ e₃ e₄ =
      let kind = put-behind (acknowledgement_kind ∷ []) kind_at (nothing_put p 0) refl (omega arith) e₁ in
      let switch = put-behind (s ∷ []) sender_at kind refl (omega arith) e₂ in
      let controller = put-behind (c ∷ []) receiver_at switch refl (omega arith) e₃ in
      (put-behind (be 4 n) number_at controller refl (omega arith) e₄).is

-- a message at the start of a part: its body, and then the tag of that
pub message_stored : (p key : List ℕ) (j : ℕ) {m n : Message} {q r : List ℕ} → m ≡ n → is_message n ≡ true
    → body_length n ≡ j → length_of m ≤ length p → q ≡ sets p 0 (body_of n) → r ≡ sets q j (tag_of key (take j q))
    → r ≡ sets p 0 (encode key m)
message_stored p key j {m} {n} {q} d y b h f g =
    let body = body_of n in
    let long : length body ≡ j = body_length_lem n ∙ b in
    let room : length_of n ≤ length p = rw d at h in
    let fits : 0 + length body ≤ length p = omega (arith, body_and_tag n y) in
    let front : take j q ≡ body = ap (take j) (f ∙ sets-eq body p 0 fits) ∙ take_at body _ j long in
    rw (d, encode_body key n y, sets_append, g, front, f)
    (ap (λ (i : ℕ). sets (sets p 0 body) i (tag_of key body)) (omega arith))
