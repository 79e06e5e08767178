-- What the answers say. A reception answered 0 offers an event or takes an acknowledgement, which drops just the undone
-- changes that it makes done; one answered 2 met a repeat, and with any other the state stays. A decision answered 0
-- numbers its plan's changes and holds those not done; with any other the state stays. Assumes nothing.
use mathlib.Core.Path.{◌≡◌, refl, ap, ◌∙◌}
use mathlib.Core.Bool.{Bool, true, false, not, ◌&&◌}
use mathlib.Core.List.{List, [], ◌∷◌, ◌++◌, append-nil}
use mathlib.Core.Logic.{◌⊎◌, inl, inr}
use Prim.Native.Nat.{ℕ, ◌+◌, ◌≤◌, ◌<◌}
use native.Mathlib.Omega.{arith}
use lib.Dec.{ltb, leb, eqb}
use lib.ListN.{length, get_or, set}
use lib.Seq.{get_or-set_same, get_or-set_other}
use borrow.Author.Tests.{le-ltb, lt-ltb, le-leb, lt-leb, eq-eqb, ne_eqb}
use Rattle.answer.specs.Ask.{reply}
use Rattle.answer.proofs.Asked.{reply_ap}
use Rattle.answer.proofs.Bools.{by_eq, by_le}
use Rattle.lists.specs.Counts.{passing}
use Rattle.lists.proofs.Passing.{passing_none, passing-append, passing-same}
use Rattle.lists.proofs.Stores.{set_grows}
use Rattle.message.specs.declared.Message.TheVariants.{Acknowledgement}
use Rattle.message.specs.declared.Message.TheVariants as kinds
use Rattle.playbook.specs.Books.{has_trigger}
use Rattle.playbook.specs.Books as books
use Rattle.playbook.specs.Plans.{changes_for}
use Rattle.playbook.proofs.Listed.{no_changes}
use Rattle.controller.specs.Changes.{empty_undone, undone_of, is_undone, still_undone, numbered_from}
use Rattle.controller.specs.States.{unchanged, controller_ok}
use Rattle.controller.specs.Acknowledgements.{acknowledged_of, serial_of, acknowledge}
use Rattle.controller.specs.Acknowledgements.{event_of, offer_said, offers, take_event}
use Rattle.controller.specs.Receiving.{received_by}
use Rattle.controller.specs.Decisions.{given_by, held_after, decided, decided_by}
use Rattle.controller.specs.declared.Controller.{Controller}
use Rattle.std.specs.Prelude.{Some, None}
use Rattle.controller.specs.declared.Reply.{Reply}
use Rattle.controller.specs.declared.Undone.{Undone}
use Rattle.controller.proofs.Within.{within, held_fits}
use Rattle.controller.proofs.Numbering.{held_meaning, still_few, given-length, still_again}
use Rattle.controller.proofs.Taken.{Arrives, Received, refused, offered, repeated, acknowledged, received}
use Rattle.controller.proofs.Taken.{acknowledgement_arrival}
use Rattle.controller.proofs.Deciding.{Decides, decision_good, decision_taken, decision_refused}
use Rattle.controller.proofs.Kept.{acknowledge-kept}

-- a change that a number acknowledged by a switch makes done
abbrev pub done_by : ℕ → ℕ → Undone → Bool
done_by s number u = eqb u.switch s && leb u.number number

-- answer 0 to an event: it is offered, and the state stays
pub record Offered (c : Controller) (keys bytes : List ℕ) (r : Reply) : Type 0 where
  pub switch : ℕ
  pub serial : ℕ
  pub cause : ℕ
  pub arrives : Arrives c keys bytes switch (kinds.Event switch c.id serial cause)
  pub above : serial_of c switch < serial
  pub offer : r.offer ≡ Some (event_of switch serial cause)
  pub state : r.state ≡ c

-- answer 0 to an acknowledgement: its number is the switch's, and the changes that are done now are dropped
pub record Acknowledged (c : Controller) (keys bytes : List ℕ) (r : Reply) : Type 0 where
  pub switch : ℕ
  pub number : ℕ
  pub arrives : Arrives c keys bytes switch (Acknowledgement switch c.id number)
  pub above : acknowledged_of c switch < number
  pub offer : r.offer ≡ None
  pub state : r.state ≡ acknowledge c switch number
  pub new : switch < length c.progress.acknowledged → acknowledged_of r.state switch ≡ number
  pub others : (i : ℕ) → (i ≡ switch → ⊥) → acknowledged_of r.state i ≡ acknowledged_of c i
  pub undone : switch < length c.progress.acknowledged
      → undone_of r.state ≡ passing (λ u. not (done_by switch number u)) (undone_of c)

-- answer 2: its number is at most the switch's
pub record Repeated (c : Controller) (keys bytes : List ℕ) (r : Reply) : Type 0 where
  pub switch : ℕ
  pub number : ℕ
  pub arrives : Arrives c keys bytes switch (Acknowledgement switch c.id number)
  pub old : number ≤ acknowledged_of c switch
  pub offer : r.offer ≡ None
  pub state : r.state ≡ c

-- an undone change once a number is acknowledged: done where that is of its switch and not below its own
undone_still : (numbers : List ℕ) (s number : ℕ) (u : Undone) → s < length numbers
    → get_or numbers u.switch 0 < u.number
    → is_undone (set numbers s number) u ≡ not (done_by s number u)
undone_still numbers s number u long above =
    by_eq u.switch s
    (λ e. rw (e, eq-eqb s s refl, get_or-set_same numbers s number 0 long)
    (by_le u.number number
    (λ l. rw (le-leb _ _ l, le-ltb _ _ l)) (λ l. rw (lt-leb _ _ l, lt-ltb _ _ l))))
    (λ n. rw (ne_eqb _ _ n, get_or-set_other numbers s u.switch number 0 n, lt-ltb _ _ above))

module _ (c : Controller) (h : controller_ok c ≡ true) where
  -- so just those are dropped
  pub dropped : (s number : ℕ) → s < length c.progress.acknowledged
      → still_undone (set c.progress.acknowledged s number) (undone_of c)
      ≡ passing (λ u. not (done_by s number u)) (undone_of c)
  dropped s number long =
      let us = undone_of c in
      passing-same _ _ us empty_undone
      (λ i n. undone_still c.progress.acknowledged s number (get_or us i empty_undone) long
      (held_fits c (within c h) i empty_undone n).above)

  -- the undone changes that an acknowledgement leaves, as a list
  pub acknowledge_undone : (s number : ℕ)
      → undone_of (acknowledge c s number)
      ≡ still_undone (set c.progress.acknowledged s number) (undone_of c)
  acknowledge_undone s number =
      held_meaning _ (still_few (set c.progress.acknowledged s number) c.progress.undone (within c h).count)

-- what each answer says: by the cases of a reception
module _ {c : Controller} {keys bytes : List ℕ} where
  acknowledged-by : (s number : ℕ) → Arrives c keys bytes s (Acknowledgement s c.id number)
      → acknowledged_of c s < number → Acknowledged c keys bytes (unchanged (acknowledge c s number) 0)
  acknowledged-by s number a above = record {
    switch = s;
    number = number;
    arrives = a;
    above = above;
    offer = refl;
    state = refl;
    new = get_or-set_same c.progress.acknowledged s number 0;
    others = λ i. get_or-set_other c.progress.acknowledged s i number 0;
    undone = λ long. acknowledge_undone c a.limits s number ∙ dropped c a.limits s number long;
  }

  taken_by : {r : Reply} → Received c keys bytes r → r.answer ≡ 0
      → Offered c keys bytes r ⊎ Acknowledged c keys bytes r
  taken_by (refused l) h = absurd (omega arith)
  taken_by (offered {s} {serial} {cause} a above) h = inl (record {
    switch = s;
    serial = serial;
    cause = cause;
    arrives = a;
    above = above;
    offer = refl;
    state = refl;
  })
  taken_by (repeated a old) h = absurd (omega arith)
  taken_by (acknowledged {s} {number} a above) h = inr (acknowledged-by s number a above)

  repeated_by : {r : Reply} → Received c keys bytes r → r.answer ≡ 2 → Repeated c keys bytes r
  repeated_by (refused l) h = absurd (omega arith)
  repeated_by (offered a above) h = absurd (omega arith)
  repeated_by (repeated {s} {number} a old) h =
      record { switch = s; number = number; arrives = a; old = old; offer = refl; state = refl }
  repeated_by (acknowledged a above) h = absurd (omega arith)

  refused_by : {r : Reply} → Received c keys bytes r → (r.answer ≡ 0 → ⊥) → (r.answer ≡ 2 → ⊥)
      → (10 ≤ r.answer) × (r ≡ unchanged c r.answer)
  refused_by (refused l) n m = (l, refl)
  refused_by (offered a above) n m = absurd (n refl)
  refused_by (repeated a old) n m = absurd (m refl)
  refused_by (acknowledged a above) n m = absurd (n refl)

module _ (c : Controller) (keys bytes : List ℕ) where
  pub answered_0 : (received_by c keys bytes).answer ≡ 0
      → Offered c keys bytes (received_by c keys bytes) ⊎ Acknowledged c keys bytes (received_by c keys bytes)
  answered_0 = taken_by (received c keys bytes)

  pub answered_2 : (received_by c keys bytes).answer ≡ 2 → Repeated c keys bytes (received_by c keys bytes)
  answered_2 = repeated_by (received c keys bytes)

  -- any other answer is a question's number, and leaves the state and offers nothing
  pub answered_other : ((received_by c keys bytes).answer ≡ 0 → ⊥) → ((received_by c keys bytes).answer ≡ 2 → ⊥)
      → (10 ≤ (received_by c keys bytes).answer)
      × (received_by c keys bytes ≡ unchanged c (received_by c keys bytes).answer)
  answered_other = refused_by (received c keys bytes)

  -- what an event offers says its own numbers, and a refused one says nothing
  pub offer_said_lem : (s serial cause : ℕ) → offer_said (take_event c s serial cause).offer
      ≡ reply ((22, ltb (serial_of c s) serial) ∷ []) (λ k. (0, [])) (0, s ∷ serial ∷ cause ∷ [])
  offer_said_lem s serial cause = reply_ap (λ (r : Reply). offer_said r.offer) _ (unchanged c) (offers c s serial cause)

  -- the same bytes once more: an event is offered again, an acknowledgement taken is a repeat
  pub offered_again : Offered c keys bytes (received_by c keys bytes)
      → received_by (received_by c keys bytes).state keys bytes ≡ received_by c keys bytes
  offered_again o = ap (λ (t : Controller). received_by t keys bytes) o.state

  pub acknowledged_again : (a : Acknowledged c keys bytes (received_by c keys bytes))
      → a.switch < length c.progress.acknowledged
      → received_by (received_by c keys bytes).state keys bytes ≡ unchanged (received_by c keys bytes).state 2
  acknowledged_again a long =
      let t = acknowledge c a.switch a.number in
      let read = get_or-set_same c.progress.acknowledged a.switch a.number 0 long in
      rw a.state (acknowledgement_arrival t keys bytes {s = a.switch} {number = a.number} (record {
        limits = acknowledge-kept c a.arrives.limits a.switch a.number;
        store = a.arrives.store;
        message = a.arrives.message;
        known = a.arrives.known;
        sealed = a.arrives.sealed;
      }) ∙ rw (le-ltb (acknowledged_of t a.switch) a.number (omega arith)))

-- a decision of switch s answered 0, and the state t: the plan's changes get the next numbers in listed order, and
-- those that are not done follow the undone ones
pub record DecisionTaken (c : Controller) (s serial cause : ℕ) (t : Controller) : Type 0 where
  pub decides : Decides c s serial cause
  pub new : s < length c.progress.serials → serial_of t s ≡ serial
  pub others : (i : ℕ) → (i ≡ s → ⊥) → serial_of t i ≡ serial_of c i
  pub acknowledged : t.progress.acknowledged ≡ c.progress.acknowledged
  pub last : t.progress.last ≡ c.progress.last + length (changes_for c.playbook (s, cause))
  pub undone : undone_of t ≡ undone_of c ++ still_undone c.progress.acknowledged (given_by c (s, cause))
  pub id : t.id ≡ c.id
  pub n : t.n ≡ c.n
  pub playbook : t.playbook ≡ c.playbook

module _ (c : Controller) (s serial cause : ℕ) where
  decided_by_lem : Decides c s serial cause → DecisionTaken c s serial cause (decided c s serial cause)
  decided_by_lem d = record {
    decides = d;
    new = get_or-set_same c.progress.serials s serial 0;
    others = λ i. get_or-set_other c.progress.serials s i serial 0;
    acknowledged = refl;
    last = ap (λ (k : ℕ). c.progress.last + k)
        (given-length (c.progress.last + 1) (c.progress.last + 1) (changes_for c.playbook (s, cause)));
    undone = held_meaning (held_after c (s, cause)) d.room;
    id = refl;
    n = refl;
    playbook = refl;
  }

  pub decided_0 : (decided_by c s serial cause).answer ≡ 0
      → DecisionTaken c s serial cause (decided_by c s serial cause).state
  decided_0 h = let d = decision_good c s serial cause h in rw (decision_taken c s serial cause d) (decided_by_lem d)

  pub decided_other : ((decided_by c s serial cause).answer ≡ 0 → ⊥) → (decided_by c s serial cause).state ≡ c
  decided_other n = ap (λ (r : Reply). r.state) (decision_refused c s serial cause n)

  -- without a plan no number is given, and the undone changes stay
  pub without_plan : has_trigger (s, cause) (books.book_of c.playbook).plans ≡ false
      → (decided_by c s serial cause).answer ≡ 0
      → ((decided_by c s serial cause).state.progress.last ≡ c.progress.last)
      × (undone_of (decided_by c s serial cause).state ≡ undone_of c)
  unfolding numbered_from
  without_plan none h =
      let d = decided_0 h in
      let empty = no_changes c.playbook (s, cause) none in (
        d.last ∙ rw empty (omega arith),
        d.undone ∙ rw (empty, passing_none) (append-nil (undone_of c)),
      )

-- where the undone changes are those of a list that are not done, they are so of it after an acknowledgement, and of it
-- with the numbers given after a decision
module _ (c : Controller) (all : List Undone) (held : undone_of c ≡ still_undone c.progress.acknowledged all) where
  pub acknowledge-leaves : (s number : ℕ) → controller_ok c ≡ true → acknowledged_of c s ≤ number
      → undone_of (acknowledge c s number) ≡ still_undone (acknowledge c s number).progress.acknowledged all
  acknowledge-leaves s number h grows =
      let next = set c.progress.acknowledged s number in
      acknowledge_undone c h s number
      ∙ ap (still_undone next) held
      ∙ still_again c.progress.acknowledged next all (λ i. set_grows c.progress.acknowledged s number i grows)

  pub decided-leaves : (s serial cause : ℕ) → length (held_after c (s, cause)) ≤ 64
      → undone_of (decided c s serial cause) ≡ still_undone c.progress.acknowledged (all ++ given_by c (s, cause))
  decided-leaves s serial cause room =
      held_meaning (held_after c (s, cause)) room
      ∙ rw (held, passing-append (is_undone c.progress.acknowledged) all (given_by c (s, cause)))
