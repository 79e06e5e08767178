-- What was written stays among the messages that the protocol sees; what questions 12, 13 and 14 say of a sender; and a
-- tag that passes question 14 is the tag that the premise speaks of. Assumes nothing.
use mathlib.Core.Path.{◌≡◌, refl, sym, subst}
use mathlib.Core.Bool.{true, false, ◌&&◌}
use mathlib.Core.List.Memᴰ
use mathlib.Core.List.{List, [], ◌∷◌, Memᴰ}
use mathlib.Core.Logic.{⊎_elim}
use Prim.Native.Nat.{ℕ, ◌-◌, ◌≤◌, ◌<◌}
use native.Mathlib.Omega.{arith}
use lib.Dec.{ltb, leb, eqb}
use lib.ListN.{length, take, drop}
use borrow.Author.Tests.{ltb-true, eqb-true, lt-ltb, le-leb, eq-eqb}
use Rattle.answer.specs.Ask.{reply}
use Rattle.answer.proofs.Bools.{by_bool, and_parts, and_join, pick-keeps}
use Rattle.flow.specs.declared.Rule.{Rule}
use Rattle.tag.specs.Tags.{tag_length, tag_of}
use Rattle.tag.proofs.Tags.{equal_true, equal_self}
use Rattle.message.specs.Keys.{key_at}
use Rattle.message.specs.Reading.{decode, is_sealed}
use Rattle.message.specs.Senders.{sender_questions}
use Rattle.message.specs.declared.End.TheVariants as ends
use Rattle.message.specs.declared.Message.{Message}
use Rattle.message.specs.declared.Message.TheVariants.{Event, Share, Acknowledgement, Refused}
use Rattle.switch.specs.Calls.{receives, writes, manages}
use Rattle.controller.specs.Calls as controller-calls
use Rattle.protocol.proofs.Worlds as protocol-worlds
use Rattle.domain.specs.Calls.{Call, at_switch, at_controller, Done}
use Rattle.domain.specs.Premises.{Tagged, SwitchWrote, ControllerWrote}
use Rattle.domain.specs.Premises as premises
use Rattle.domain.proofs.View.{share_said, acknowledgement_said, said, messages, is_from}

module _ (m : protocol-worlds.Message Rule) where
  abbrev Among : List (protocol-worlds.Message Rule) → Type 0
  Among l = Memᴰ m l

  share_more : (c s : ℕ) (d : Message) (l : List (protocol-worlds.Message Rule)) → Among l → Among (share_said c s d l)
  share_more c s (Share i t k rule) l h = Memᴰ.tail h
  share_more c s (Event i t k x) l h = h
  share_more c s (Acknowledgement i t k) l h = h
  share_more c s (Refused k) l h = h

  acknowledgement_more : (s c : ℕ) (d : Message) (l : List (protocol-worlds.Message Rule)) → Among l
      → Among (acknowledgement_said s c d l)
  acknowledgement_more s c (Acknowledgement i t k) l h = Memᴰ.tail h
  acknowledgement_more s c (Event i t k x) l h = h
  acknowledgement_more s c (Share i t k rule) l h = h
  acknowledgement_more s c (Refused k) l h = h

  -- a call more
  said_more : (answer : ℕ) (x : Call) (bytes : List ℕ) (l : List (protocol-worlds.Message Rule)) → Among l
      → Among (said answer x bytes l)
  said_more answer (at_switch s (receives x)) bytes l h = h
  said_more answer (at_switch s (writes kind c frame at)) bytes l h =
      pick-keeps Among (eqb answer 0) _ _ (λ e. acknowledgement_more s c (decode ends.Controller bytes) l h) (λ e. h)
  said_more answer (at_switch s (manages y)) bytes l h = h
  said_more answer (at_controller c (controller-calls.receives x)) bytes l h = h
  said_more answer (at_controller c (controller-calls.writes_share s frame at)) bytes l h =
      pick-keeps Among (eqb answer 0) _ _ (λ e. share_more c s (decode ends.Switch bytes) l h) (λ e. h)
  said_more answer (at_controller c (controller-calls.manages y)) bytes l h = h

  -- what a call in the log said is among the messages
  said_in : (d : Done) → ((l : List (protocol-worlds.Message Rule)) → Among (said d.answer d.call d.written l))
      → (log : List Done) → Memᴰ d log → Among (messages log)
  unfolding messages
  said_in d says [] h = absurd (Memᴰ.not-nil h)
  said_in d says (e ∷ log) h =
      ⊎_elim
      (λ q. subst (λ (x : Done). Among (said x.answer x.call x.written (messages log))) q
      (says (messages log)))
      (λ t. said_more e.answer e.call e.written (messages log) (said_in d says log t)) (Memᴰ.cases_cons h)

-- what an end wrote, read as a message
share-there : (c s : ℕ) {d : Message} {i t k : ℕ} {rule : Rule} → d ≡ Share i t k rule
    → (l : List (protocol-worlds.Message Rule)) → Memᴰ (protocol-worlds.share c s k rule) (share_said c s d l)
share-there c s e l = rw e (Memᴰ.head refl)

acknowledgement-there : (s c : ℕ) {d : Message} {i t k : ℕ} → d ≡ Acknowledgement i t k
    → (l : List (protocol-worlds.Message Rule))
    → Memᴰ (protocol-worlds.acknowledgement s c k) (acknowledgement_said s c d l)
acknowledgement-there s c e l = rw e (Memᴰ.head refl)

pub share_said_lem : {log : List Done} {c s : ℕ} {bytes : List ℕ} → ControllerWrote log c s bytes → {i t k : ℕ}
    {rule : Rule} → decode ends.Switch bytes ≡ Share i t k rule
    → Memᴰ (protocol-worlds.share c s k rule) (messages log)
share_said_lem {log} {c} {s} (premises.by_controller h) e = said_in _ _ (share-there c s e) log h

pub acknowledgement_said_lem : {log : List Done} {s c : ℕ} {bytes : List ℕ} → SwitchWrote log s c bytes → {i t k : ℕ}
    → decode ends.Controller bytes ≡ Acknowledgement i t k
    → Memᴰ (protocol-worlds.acknowledgement s c k) (messages log)
acknowledgement_said_lem {log} {s} {c} (premises.by_switch h) e = said_in _ _ (acknowledgement-there s c e) log h

-- question 14 is the tag's own equation
pub sealed_tagged : (key bytes : List ℕ) → is_sealed key bytes ≡ true → Tagged key bytes
unfolding is_sealed
sealed_tagged key bytes h =
    let body = length bytes - tag_length in
    sym (equal_true (tag_of key (take body bytes)) (drop body bytes) (and_parts (leb tag_length (length bytes)) _ h).1)

pub tagged_sealed : (key bytes : List ℕ) → tag_length ≤ length bytes → Tagged key bytes → is_sealed key bytes ≡ true
unfolding is_sealed
tagged_sealed key bytes l t =
    and_join (leb tag_length (length bytes)) _ (le-leb tag_length (length bytes) l)
    (rw t (equal_self (tag_of key (take (length bytes - tag_length) bytes))))

-- a message from a known sender, for this end, with the tag of the sender's key
pub record From (all id : ℕ) (keys bytes : List ℕ) (sender receiver : ℕ) : Type 0 where
  pub known : sender < all
  pub here : receiver ≡ id
  pub sealed : is_sealed (key_at keys sender) bytes ≡ true

module _ (all id : ℕ) (keys bytes : List ℕ) (sender receiver : ℕ) where
  pub is_from_lem : is_from all id keys bytes sender receiver ≡ true → From all id keys bytes sender receiver
  is_from_lem e =
      let a = and_parts (ltb sender all && eqb receiver id) (is_sealed (key_at keys sender) bytes) e in
      let b = and_parts (ltb sender all) (eqb receiver id) a.0 in
      record { known = ltb-true _ _ b.0; here = eqb-true _ _ b.1; sealed = a.1 }

  -- it passes the questions, and any other is refused by one of them
  module _ {A : Type 0} (refusal : ℕ → A) (next : A) where
    pub from_asked : From all id keys bytes sender receiver
        → reply (sender_questions all id keys bytes sender receiver) refusal next ≡ next
    unfolding reply
    from_asked f = rw (lt-ltb _ _ f.known, eq-eqb receiver id f.here, f.sealed)

    pub not-from : is_from all id keys bytes sender receiver ≡ false
        → (q : ℕ) × (10 ≤ q)
        × (reply (sender_questions all id keys bytes sender receiver) refusal next ≡ refusal q)
    unfolding reply
    not-from e =
        by_bool (ltb sender all)
        (λ a. by_bool (eqb receiver id)
        (λ b. let c : is_sealed (key_at keys sender) bytes ≡ false = rw (a, b) at e in (14, omega arith, rw (a, b, c)))
        (λ b. (13, omega arith, rw (a, b))))
        (λ a. (12, omega arith, rw a))
