-- What a slot holds was sent. After every list of calls from a setup each slot is empty, or its share came from its
-- controller, for this switch, with the tag of that controller's key. So a rule is applied only where a quorum of
-- different controllers each sent it, tagged with its own key.
use mathlib.Core.Path.{◌≡◌, refl, ap}
use mathlib.Core.Bool.{true}
use mathlib.Core.List.Memᴰ
use mathlib.Core.List.{List, [], ◌∷◌, ◌++◌, Memᴰ}
use Prim.Native.Nat.{ℕ, zero, suc, ◌≤◌, ◌<◌}
use native.Mathlib.Omega.{arith}
use lib.Dec.{leb, eqb}
use lib.ListN.{length, get_or, replicate}
use lib.Seq.{get_or-set_same, get_or-set_other, set_out}
use Rattle.answer.proofs.Asked.{reply-keeps}
use Rattle.answer.proofs.Bools.{by_bool, by_eq, by_le}
use Rattle.lists.specs.Kinds.{among, different}
use Rattle.flow.specs.Changes.{changed}
use Rattle.message.specs.Keys.{key_at}
use Rattle.message.specs.Reading.{decode, is_sealed}
use Rattle.message.specs.declared.End.TheVariants as ends
use Rattle.message.specs.declared.Message.TheVariants.{Share}
use Rattle.switch.specs.Slots.{quorum_of, empty_slot, controllers}
use Rattle.switch.specs.States.{setup_of}
use Rattle.switch.specs.Shares.{slot_of, stored}
use Rattle.switch.specs.Receiving.{received_by}
use Rattle.switch.specs.Writing.{message_for, is_there}
use Rattle.switch.specs.Calls.{Call, receives, writes, manages, reply_to, after}
use Rattle.switch.specs.declared.Reply.{Reply}
use Rattle.switch.specs.declared.Slot.{Slot}
use Rattle.switch.specs.declared.Switch.{Switch}
use Rattle.switch.proofs.Taken.{Arrives, Received, refused, repeated, held, made, received}
use Rattle.switch.proofs.Sent.{written_state}
use Rattle.switch.proofs.Moves.{Leaves, managed_leaves}
use Rattle.switch.proofs.Effects.{emptied_at, answered_1}
use Rattle.switch.proofs.Agreement.{agreement}

-- among the calls, bytes were received that are this share, from controller c for switch id, with the tag of the key of c
pub record Came (keys : List ℕ) (id : ℕ) (calls : List Call) (c : ℕ) (share : Slot) : Type 0 where
  pub bytes : List ℕ
  pub call : Memᴰ (receives bytes) calls
  pub read : decode ends.Switch bytes ≡ Share c id share.number share.rule
  pub sealed : is_sealed (key_at keys c) bytes ≡ true

-- each slot that is not empty is that of one of the n controllers, and what it holds came from this controller
abbrev pub SlotsCame : List ℕ → List Call → Switch → Type 0
SlotsCame keys calls s = (c : ℕ) → 0 < (slot_of s c).number
    → (c < s.n) × Came keys s.id calls c (slot_of s c)

-- from s to t a share's rule was applied, and this share came from each of a quorum of different controllers below n
pub record ByQuorum (keys : List ℕ) (calls : List Call) (s t : Switch) : Type 0 where
  pub share : Slot
  pub last : t.last ≡ share.number
  pub table : t.table ≡ changed share.rule s.table
  pub senders : List ℕ
  pub enough : quorum_of s.n ≤ length senders
  pub none_twice : different eqb senders ≡ true
  pub came : (c : ℕ) → among eqb c senders ≡ true → (c < s.n) × Came keys s.id calls c share

no_number : (n i : ℕ) → (get_or (replicate n empty_slot) i empty_slot).number ≡ 0
no_number zero i = refl
no_number (suc n) zero = refl
no_number (suc n) (suc i) = no_number n i

module _ (keys : List ℕ) (calls : List Call) where
  -- a setup, a refused one too, leaves every slot empty
  pub setup_came : (id n : ℕ) → SlotsCame keys calls (setup_of id n).state
  setup_came id n =
      reply-keeps (λ (r : Reply). SlotsCame keys calls r.state) _ _ _
      (λ k c some. absurd (omega (arith, no_number 16 c))) (λ y c some. absurd (omega (arith, no_number 16 c)))

  module _ (s : Switch) (all : SlotsCame keys calls s) where
    -- a share stored came by the bytes received, and no other slot changes
    stored_came : {bytes : List ℕ} {c : ℕ} {share : Slot} → Memᴰ (receives bytes) calls
        → Arrives s keys bytes c share → SlotsCame keys calls (stored s c share)
    stored_came {bytes} {c} {share} there a i =
        by_eq i c
        (λ e. by_le (length s.slots) c (λ out. rw (set_out s.slots c share out) (all i))
        (λ inside. rw (e, get_or-set_same s.slots c share empty_slot inside)
        (λ some. (a.known, record { bytes = bytes; call = there; read = a.read; sealed = a.sealed }))))
        (λ other. rw (get_or-set_other s.slots c i share empty_slot other) (all i))

    -- a rule applied does no more to the slots than empty some
    reception_came : {bytes : List ℕ} {k : ℕ} {t : Switch} → Memᴰ (receives bytes) calls
        → Received s keys bytes k t → SlotsCame keys calls t
    reception_came there (refused l) = all
    reception_came there (repeated a y) = all
    reception_came there (held a y few) = stored_came there a
    reception_came there (made {c} {share} a y enough) = λ i.
        let slots = (stored s c share).slots in
        let at = emptied_at share.number slots i in
        by_bool (leb (get_or slots i empty_slot).number share.number)
        (λ e. rw (at, e) (λ some. absurd (omega arith))) (λ e. rw (at, e) (stored_came there a i))

    leaves_came : {t : Switch} → Leaves s t → SlotsCame keys calls t
    leaves_came {t} l c some =
        let same : slot_of t c ≡ slot_of s c = ap (λ (slots : List Slot). get_or slots c empty_slot) l.slots in
        rw (same, l.n, l.id) (all c (rw same at some))

    pub call_came : (x : Call) → Memᴰ x calls → SlotsCame keys calls (reply_to keys s x).state
    call_came (receives bytes) there = reception_came there (received s keys bytes)
    call_came (writes kind c frame at) there =
        rw (written_state s keys c (message_for kind s c) (is_there kind s) frame at) all
    call_came (manages m) there = leaves_came (managed_leaves s m)

    -- what is answered 1 was applied by a quorum
    pub by_quorum : (bytes : List ℕ) → Memᴰ (receives bytes) calls → (received_by s keys bytes).answer ≡ 1
        → ByQuorum keys calls s (received_by s keys bytes).state
    by_quorum bytes there one =
        let m = answered_1 s keys bytes one in
        let now = stored s m.controller m.share in
        let agreed = agreement m.share now.slots in
        record {
          share = m.share;
          last = m.last;
          table = m.table;
          senders = controllers m.share now.slots;
          enough = omega (arith, m.quorum, agreed.as_many);
          none_twice = agreed.none_twice;
          came = λ c h.
              (rw (agreed.only_these c h).1 at (stored_came there m.arrives c))
              (omega (arith, m.arrives.passes.above));
        }

  -- calls that are all among the calls
  pub after_came : (s : Switch) (xs : List Call) → ((x : Call) → Memᴰ x xs → Memᴰ x calls)
      → SlotsCame keys calls s → SlotsCame keys calls (after keys s xs)
  unfolding after
  after_came s [] there all = all
  after_came s (x ∷ xs) there all =
      after_came (reply_to keys s x).state xs (λ y m. there y (Memᴰ.tail m))
      (call_came s all x (there x (Memᴰ.head refl)))

module _ (keys : List ℕ) (id n : ℕ) (xs : List Call) where
  -- after any calls from any setup, each slot is empty or what it holds came in these calls
  pub slots_came : SlotsCame keys xs (after keys (setup_of id n).state xs)
  slots_came = after_came keys xs (setup_of id n).state xs (λ x m. m) (setup_came keys xs id n)

  -- and a rule applied then came from each of a quorum, in these calls or with the bytes themselves
  pub made_came : (bytes : List ℕ) →
      let s = after keys (setup_of id n).state xs in
      (received_by s keys bytes).answer ≡ 1
      → ByQuorum keys (xs ++ receives bytes ∷ []) s (received_by s keys bytes).state
  made_came bytes =
      let calls = xs ++ receives bytes ∷ [] in
      let start = (setup_of id n).state in
      let all = after_came keys calls start xs (λ x m. Memᴰ.append_left _ m) (setup_came keys calls id n) in
      by_quorum keys calls (after keys start xs) all bytes (Memᴰ.append_right xs (Memᴰ.head refl))
