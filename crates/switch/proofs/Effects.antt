-- What the answers say. A reception answered 1 applied a rule that a quorum agrees on, one answered 0 holds a share,
-- one answered 2 met a repeat, and with any other the state stays; then what raising an event and a lookup come to.
-- Assumes nothing.
use mathlib.Core.Path.{◌≡◌, refl, sym, ap, ◌∙◌}
use mathlib.Core.Bool.{true, false}
use mathlib.Core.List.{List, [], ◌∷◌, map}
use Prim.Native.Nat.{ℕ, ◌+◌, ◌≤◌, ◌<◌}
use native.Mathlib.Omega.{arith}
use lib.Count.{ones}
use lib.ListN.{length, get_or, set, get_or-map}
use lib.Seq.{get_or-set_same, get_or-set_other, map-set_same}
use borrow.Author.Tests.{ltb-true, leb-true, leb-false, le-leb, lt-leb}
use Rattle.std.specs.Prelude.{Option, Some, None, Result, Ok, Err}
use Rattle.answer.specs.Ask.{Numbered, reply, first_no}
use Rattle.answer.proofs.Asked.{none_asked, asked, reply_ap, answered, reply-from, reply-keeps}
use Rattle.flow.specs.Tables.{entries_of}
use Rattle.flow.specs.Changes.{changed}
use Rattle.flow.specs.Lookups.{lookup_of, found_said}
use Rattle.std.specs.Prelude.{Option, Some, None}
use Rattle.switch.specs.Slots.{quorum_of, empty_slot, holds, agreeing, emptied}
use Rattle.switch.specs.States.{switch_ok}
use Rattle.switch.specs.Shares.{slot_of, stored}
use Rattle.switch.specs.Receiving.{received_by}
use Rattle.switch.specs.Raising.{next_event, with_event, raised_by}
use Rattle.switch.specs.Lookups.{looked_up, looked_said}
use Rattle.switch.specs.declared.Raised.{Raised}
use Rattle.switch.specs.declared.Reply.{Reply}
use Rattle.switch.specs.declared.Slot.{Slot}
use Rattle.switch.specs.declared.Stepped.{Stepped}
use Rattle.switch.specs.declared.Switch.{Switch}
use Rattle.switch.proofs.Taken.{Arrives, Received, refused, repeated, held, made, received}

-- answer 1 and the state t: with this share a quorum agrees, and its rule is applied
pub record Made (s : Switch) (keys bytes : List ℕ) (t : Switch) : Type 0 where
  pub controller : ℕ
  pub share : Slot
  pub arrives : Arrives s keys bytes controller share
  pub new : holds share (slot_of s controller) ≡ false
  pub quorum : quorum_of s.n ≤ ones (agreeing share (stored s controller share).slots)
  pub last : t.last ≡ share.number
  pub table : t.table ≡ changed share.rule s.table
  pub slots : t.slots ≡ map (emptied share.number) s.slots
  pub raised : t.raised ≡ s.raised

-- answer 0: the share is in its sender's slot, and no quorum agrees yet
pub record Held (s : Switch) (keys bytes : List ℕ) (t : Switch) : Type 0 where
  pub controller : ℕ
  pub share : Slot
  pub arrives : Arrives s keys bytes controller share
  pub new : holds share (slot_of s controller) ≡ false
  pub short : ones (agreeing share (stored s controller share).slots) < quorum_of s.n
  pub last : t.last ≡ s.last
  pub table : t.table ≡ s.table
  pub slots : t.slots ≡ set s.slots controller share
  pub raised : t.raised ≡ s.raised

-- answer 2: the slot of its sender held the share before
pub record Repeated (s : Switch) (keys bytes : List ℕ) (t : Switch) : Type 0 where
  pub controller : ℕ
  pub share : Slot
  pub arrives : Arrives s keys bytes controller share
  pub old : holds share (slot_of s controller) ≡ true
  pub state : t ≡ s

-- a slot after the rule of a number was applied
emptied_low : (number : ℕ) (slot : Slot) → slot.number ≤ number → emptied number slot ≡ empty_slot
emptied_low number slot h = rw (le-leb _ _ h)

emptied_high : (number : ℕ) (slot : Slot) → number < slot.number → emptied number slot ≡ slot
emptied_high number slot h = rw (lt-leb _ _ h)

pub emptied_at : (number : ℕ) (slots : List Slot) (i : ℕ)
    → get_or (map (emptied number) slots) i empty_slot ≡ emptied number (get_or slots i empty_slot)
emptied_at number slots i =
    ap (get_or (map (emptied number) slots) i) (sym (emptied_low number empty_slot (omega arith)))
    ∙ get_or-map (emptied number) slots i empty_slot

-- the share itself is emptied too, whatever its sender's slot held up to its number
share-emptied : (share : Slot) (slots : List Slot) (c : ℕ) → (get_or slots c empty_slot).number ≤ share.number
    → map (emptied share.number) (set slots c share) ≡ map (emptied share.number) slots
share-emptied share slots c h =
    let number = share.number in
    map-set_same (emptied number) slots c share empty_slot
    (emptied_low number share (omega arith) ∙ sym (emptied_low number (get_or slots c empty_slot) h))

-- what each answer says: by the cases of a reception
module _ {s : Switch} {keys bytes : List ℕ} where
  made_by_lem : {t : Switch} → Received s keys bytes 1 t → Made s keys bytes t
  made_by_lem (refused l) = absurd (omega arith)
  made_by_lem (made {c} {share} a y enough) = record {
    controller = c;
    share = share;
    arrives = a;
    new = y;
    quorum = leb-true _ _ enough;
    last = refl;
    table = refl;
    slots = share-emptied share s.slots c a.passes.latest;
    raised = refl;
  }

  held_by : {t : Switch} → Received s keys bytes 0 t → Held s keys bytes t
  held_by (refused l) = absurd (omega arith)
  held_by (held {c} {share} a y few) = record {
    controller = c;
    share = share;
    arrives = a;
    new = y;
    short = leb-false _ _ few;
    last = refl;
    table = refl;
    slots = refl;
    raised = refl;
  }

  repeated_by : {t : Switch} → Received s keys bytes 2 t → Repeated s keys bytes t
  repeated_by (refused l) = absurd (omega arith)
  repeated_by (repeated {c} {share} a y) =
      record { controller = c; share = share; arrives = a; old = y; state = refl }

  refused_by : {k : ℕ} {t : Switch} → Received s keys bytes k t → 2 < k → (10 ≤ k) × (t ≡ s)
  refused_by (refused l) h = (l, refl)
  refused_by (repeated a y) h = absurd (omega arith)
  refused_by (held a y few) h = absurd (omega arith)
  refused_by (made a y enough) h = absurd (omega arith)

module _ (s : Switch) (keys bytes : List ℕ) where
  pub answered_1 : (received_by s keys bytes).answer ≡ 1 → Made s keys bytes (received_by s keys bytes).state
  answered_1 h = made_by_lem (rw h at (received s keys bytes))

  pub answered_0 : (received_by s keys bytes).answer ≡ 0 → Held s keys bytes (received_by s keys bytes).state
  answered_0 h = held_by (rw h at (received s keys bytes))

  pub answered_2 : (received_by s keys bytes).answer ≡ 2 → Repeated s keys bytes (received_by s keys bytes).state
  answered_2 h = repeated_by (rw h at (received s keys bytes))

  -- any other answer is a question's number, and leaves the state
  pub answered_other : 2 < (received_by s keys bytes).answer
      → (10 ≤ (received_by s keys bytes).answer) × ((received_by s keys bytes).state ≡ s)
  answered_other = refused_by (received s keys bytes)

-- slot by slot: once a rule is applied, those with its number or a lower one are empty, its sender's among them, and
-- the others are as they were
module _ (s : Switch) (keys bytes : List ℕ) (t : Switch) (m : Made s keys bytes t) where
  slot_after : (i : ℕ) → slot_of t i ≡ emptied m.share.number (slot_of s i)
  slot_after i = rw m.slots (emptied_at m.share.number s.slots i)

  pub slot_emptied : (i : ℕ) → (slot_of s i).number ≤ m.share.number → slot_of t i ≡ empty_slot
  slot_emptied i h = slot_after i ∙ emptied_low m.share.number (slot_of s i) h

  pub sender-emptied : slot_of t m.controller ≡ empty_slot
  sender-emptied = slot_emptied m.controller m.arrives.passes.latest

  pub slot_stays : (i : ℕ) → m.share.number < (slot_of s i).number → slot_of t i ≡ slot_of s i
  slot_stays i h = slot_after i ∙ emptied_high m.share.number (slot_of s i) h

-- while it is held, its sender's slot holds it, and every other is as it was
module _ (s : Switch) (keys bytes : List ℕ) (t : Switch) (h : Held s keys bytes t) where
  pub slot_stored : h.controller < length s.slots
      → slot_of t h.controller ≡ h.share
  slot_stored l = rw h.slots (get_or-set_same s.slots h.controller _ empty_slot l)

  pub slot_kept : (i : ℕ) → (i ≡ h.controller → ⊥) → slot_of t i ≡ slot_of s i
  slot_kept i other = rw h.slots (get_or-set_other s.slots h.controller i _ empty_slot other)

-- an event raised, and the state t: the next serial, with the cause given, and all else as it was
pub record NewEvent (s : Switch) (x : ℕ) (t : Switch) : Type 0 where
  pub limits : switch_ok s ≡ true
  pub below : s.raised.serial < 4294967295
  pub serial : t.raised.serial ≡ s.raised.serial + 1
  pub cause : t.raised.cause ≡ x
  pub id : t.id ≡ s.id
  pub n : t.n ≡ s.n
  pub last : t.last ≡ s.last
  pub table : t.table ≡ s.table
  pub slots : t.slots ≡ s.slots

-- an event is raised where questions 20 and 27 are answered yes; else the state stays
module _ (s : Switch) (x : ℕ) where
  pub raised_good : (raised_by s x).answer ≡ 0 → NewEvent s x (raised_by s x).state
  unfolding raised_by
  raised_good =
      reply-from (λ (r : Reply). r.answer ≡ 0 → NewEvent s x r.state) 1 _ _ _ refl (λ k h e. absurd (omega arith))
      (λ y. reply-from (λ (r : Stepped). r.answer ≡ 0 → NewEvent s x (with_event s r).state) 1 _ _ _ refl
      (λ k h e. absurd (omega arith))
      (λ l e. record {
        limits = answered _ refl y 20;
        below = ltb-true _ _ (answered _ refl l 27);
        serial = refl;
        cause = refl;
        id = refl;
        n = refl;
        last = refl;
        table = refl;
        slots = refl;
      }))

  pub raised_refused : ((raised_by s x).answer ≡ 0 → ⊥) → (raised_by s x).state ≡ s
  unfolding raised_by
  raised_refused =
      reply-keeps (λ (r : Reply). (r.answer ≡ 0 → ⊥) → r.state ≡ s) _ _ _ (λ k n. refl)
      (λ y. reply-keeps (λ (r : Stepped). (r.answer ≡ 0 → ⊥) → (with_event s r).state ≡ s) _ _ _ (λ k n. refl)
      (λ l n. absurd (n refl)))

  -- within its limits a switch raises its event as it is raised in place
  pub raised_in_place : switch_ok s ≡ true → raised_by s x ≡ with_event s (next_event s.raised x)
  unfolding raised_by
  raised_in_place ok = asked _ _ 20 _ _ ok ∙ none_asked _ _

-- refused, the event stays as it was
pub event-refused : (e : Raised) (x : ℕ) → ((next_event e x).answer ≡ 0 → ⊥) → (next_event e x).raised ≡ e
event-refused e x =
    reply-keeps (λ (r : Stepped). (r.answer ≡ 0 → ⊥) → r.raised ≡ e) _ _ _ (λ k n. refl) (λ l n. absurd (n refl))

-- what a lookup found is what flow's lookup found
found_said_lem : (f : Option ℕ) → looked_said (Ok f) ≡ found_said f
found_said_lem (Some port) = refl
found_said_lem None = refl

no_number : (f : Option ℕ) → (found_said f).0 ≡ 0
no_number (Some port) = refl
no_number None = refl

abbrev OkOf : Option ℕ → Result (Option ℕ) ℕ
OkOf o = Ok o

inside : (o q : Option ℕ) → OkOf o ≡ OkOf q → o ≡ q
inside o q h = cc

module _ (s : Switch) (a : ℕ) where
  -- a lookup asks question 20, and then it is flow's lookup in the entries
  pub looked_said_lem : looked_said (looked_up s a)
      ≡ reply ((20, switch_ok s) ∷ []) (λ k. (k, [])) (found_said (lookup_of a (entries_of s.table)))
  looked_said_lem =
      reply_ap looked_said _ Err _
      ∙ ap (reply ((20, switch_ok s) ∷ []) (λ k. (k, []))) (found_said_lem (lookup_of a (entries_of s.table)))

  looked-number : (looked_said (looked_up s a)).0 ≡ first_no ((20, switch_ok s) ∷ [])
  looked-number =
      ap (λ (x : Numbered). x.0) looked_said_lem ∙ reply_ap (λ (x : Numbered). x.0) _ _ _
      ∙ ap (reply _ (λ k. k)) (no_number (lookup_of a (entries_of s.table)))

  pub looked-good : switch_ok s ≡ true → looked_up s a ≡ Ok (lookup_of a (entries_of s.table))
  looked-good y = asked Err _ 20 _ [] y ∙ none_asked Err _

  passing : (looked_said (looked_up s a)).0 ≡ 0 → switch_ok s ≡ true
  passing h = answered _ refl (sym looked-number ∙ h) 20

  pub looked-port : {port : ℕ} → looked_up s a ≡ Ok (Some port)
      → (switch_ok s ≡ true) × (lookup_of a (entries_of s.table) ≡ Some port)
  looked-port h = let y = passing (ap (λ (l : Result (Option ℕ) ℕ). (looked_said l).0) h) in (y, inside _ _ (sym (looked-good y) ∙ h))

  pub looked-nothing : looked_up s a ≡ Ok None
      → (switch_ok s ≡ true) × (lookup_of a (entries_of s.table) ≡ None)
  looked-nothing h = let y = passing (ap (λ (l : Result (Option ℕ) ℕ). (looked_said l).0) h) in (y, inside _ _ (sym (looked-good y) ∙ h))
