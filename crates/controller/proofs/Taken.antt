-- Every case that there is when bytes are received: refused with the number of a question, an event offered, an
-- acknowledgement repeated or taken; each with what it says of the bytes, and its whole reply. Assumes nothing.
use mathlib.Core.Path.{◌≡◌, refl, ap, ◌∙◌}
use mathlib.Core.Bool.{true}
use mathlib.Core.List.{List}
use Prim.Native.Nat.{ℕ, ◌*◌, ◌≤◌, ◌<◌}
use lib.Dec.{ltb}
use lib.ListN.{length}
use borrow.Author.Tests.{ltb-true, ltb-false, eqb-true, lt-ltb, eq-eqb}
use Rattle.answer.specs.Ask.{reply, first_no}
use Rattle.answer.proofs.Asked.{reply-from, answered}
use Rattle.answer.proofs.Bools.{by_bool}
use Rattle.message.specs.Keys.{key_length, key_at}
use Rattle.message.specs.Reading.{decode, is_sealed}
use Rattle.message.specs.Senders.{sender_questions}
use Rattle.message.specs.declared.End.TheVariants as ends
use Rattle.message.specs.declared.Message.{Message}
use Rattle.message.specs.declared.Message.TheVariants.{Event, Acknowledgement}
use Rattle.message.proofs.Ends.{by_controller, from_10}
use Rattle.controller.specs.States.{unchanged, controller_ok, state_questions}
use Rattle.controller.specs.Acknowledgements.{acknowledged_of, serial_of, acknowledge, offers}
use Rattle.controller.specs.Acknowledgements.{take_acknowledgement, take_event}
use Rattle.controller.specs.Receiving.{received_by}
use Rattle.controller.specs.declared.Controller.{Controller}
use Rattle.controller.specs.declared.Reply.{Reply}

-- a message from switch s that has passed all questions of its bytes
pub record Arrives (c : Controller) (keys bytes : List ℕ) (s : ℕ) (m : Message) : Type 0 where
  pub limits : controller_ok c ≡ true
  pub store : length keys ≡ key_length * 16
  pub message : decode ends.Controller bytes ≡ m
  pub known : s < 16
  pub sealed : is_sealed (key_at keys s) bytes ≡ true

-- the reply to bytes
pub data Received (c : Controller) (keys bytes : List ℕ) : Reply → Type 0 where
  refused : {k : ℕ} → 10 ≤ k → Received c keys bytes (unchanged c k)
  offered : {s serial cause : ℕ} → Arrives c keys bytes s (Event s c.id serial cause)
      → serial_of c s < serial → Received c keys bytes (offers c s serial cause)
  repeated : {s number : ℕ} → Arrives c keys bytes s (Acknowledgement s c.id number)
      → number ≤ acknowledged_of c s → Received c keys bytes (unchanged c 2)
  acknowledged : {s number : ℕ} → Arrives c keys bytes s (Acknowledgement s c.id number)
      → acknowledged_of c s < number → Received c keys bytes (unchanged (acknowledge c s number) 0)

module _ (c : Controller) (keys bytes : List ℕ) where
  abbrev Replies : Reply → Type 0
  Replies = Received c keys bytes

  -- what it says that every answer is yes, of the state and of the sender
  arrives : {s to : ℕ} (m : ℕ → Message) → first_no (state_questions c (length keys)) ≡ 0
      → decode ends.Controller bytes ≡ m to → first_no (sender_questions 16 c.id keys bytes s to) ≡ 0
      → Arrives c keys bytes s (m c.id)
  arrives {s} {to} m state d sender =
      let limits = answered (state_questions c (length keys)) refl state in
      let known = answered (sender_questions 16 c.id keys bytes s to) refl sender in
      record {
        limits = limits 20;
        store = eqb-true _ _ (limits 21);
        message = d ∙ ap m (eqb-true _ _ (known 13));
        known = ltb-true _ _ (known 12);
        sealed = known 14;
      }

  -- an event and an acknowledgement after these questions
  module _ (state : first_no (state_questions c (length keys)) ≡ 0) where
    event-taken : {s to serial cause : ℕ} → decode ends.Controller bytes ≡ Event s to serial cause
        → first_no (sender_questions 16 c.id keys bytes s to) ≡ 0 → Replies (take_event c s serial cause)
    event-taken {s} {to} {serial} {cause} d sender =
        let a = arrives (λ t. Event s t serial cause) state d sender in
        reply-from Replies 10 _ _ _ refl (λ k h. refused h) (λ own. offered a (ltb-true _ _ (answered _ refl own 22)))

    acknowledgement-taken : {s to number : ℕ} → decode ends.Controller bytes ≡ Acknowledgement s to number
        → first_no (sender_questions 16 c.id keys bytes s to) ≡ 0 → Replies (take_acknowledgement c s number)
    acknowledgement-taken {s} {to} {number} d sender =
        let a = arrives (λ t. Acknowledgement s t number) state d sender in
        by_bool (ltb (acknowledged_of c s) number)
        (λ e. rw e (acknowledged a (ltb-true _ _ e)))
        (λ e. rw e (repeated a (ltb-false _ _ e)))

  -- the questions in order: the first that is answered no refuses, and what passes all of them is taken
  pub received : Received c keys bytes (received_by c keys bytes)
  unfolding received_by
  received =
      reply-from Replies 10 _ _ _ refl (λ k h. refused h)
      (λ state. by_controller bytes
      (λ l kind d. rw d (reply-from Replies 10 _ _ _ refl (λ k h. refused h) (event-taken state d)))
      (λ l kind d. rw d (reply-from Replies 10 _ _ _ refl (λ k h. refused h) (acknowledgement-taken state d)))
      (λ k h d. rw d (refused (from_10 h))))

  -- and back: what has passed these questions is taken
  pub event_arrival : {s serial cause : ℕ} → Arrives c keys bytes s (Event s c.id serial cause)
      → received_by c keys bytes ≡ take_event c s serial cause
  unfolding received_by reply
  event_arrival a =
      rw (a.limits, eq-eqb _ _ a.store, a.message, lt-ltb _ _ a.known, eq-eqb c.id c.id refl, a.sealed)

  pub acknowledgement_arrival : {s number : ℕ} → Arrives c keys bytes s (Acknowledgement s c.id number)
      → received_by c keys bytes ≡ take_acknowledgement c s number
  unfolding received_by reply
  acknowledgement_arrival a =
      rw (a.limits, eq-eqb _ _ a.store, a.message, lt-ltb _ _ a.known, eq-eqb c.id c.id refl, a.sealed)
