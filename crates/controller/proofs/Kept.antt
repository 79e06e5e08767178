-- What calls keep: a setup answered 0 makes a state within its limits, every call leaves it so, and none lowers an
-- acknowledged number, a decided serial or the last number given, or changes the id, the number of controllers or the
-- playbook. Assumes nothing.
use mathlib.Core.Path.{◌≡◌, refl, ap, ◌∙◌}
use mathlib.Core.Bool.{true, false, and-false}
use mathlib.Core.List.{List, []}
use Prim.Native.Nat.{ℕ, ◌+◌, ◌≤◌}
use native.Mathlib.Omega.{arith}
use lib.ListN.{length, set}
use Rattle.answer.proofs.Asked.{refused, answered, reply-from}
use Rattle.answer.proofs.Bools.{and_join}
use Rattle.lists.specs.Arrays.{every}
use Rattle.lists.specs.Rising.{rising_from}
use Rattle.lists.proofs.Passing.{rising_passing}
use Rattle.lists.proofs.Stores.{set_grows}
use Rattle.lists.proofs.Tails.{every_append}
use Rattle.playbook.specs.Books.{Trigger, no_plans, store_of}
use Rattle.playbook.specs.Plans.{changes_for}
use Rattle.playbook.specs.Storing.{stored_ok}
use Rattle.playbook.specs.declared.Playbook.{Playbook}
use Rattle.playbook.proofs.Listed.{plan_changes}
use Rattle.controller.specs.Changes.{held_of, undone_of, numbers_of, is_undone, still_undone}
use Rattle.controller.specs.States.{unchanged, progressed, in_range, fresh, setup_of, undone_ok, controller_ok}
use Rattle.controller.specs.Acknowledgements.{acknowledged_of, serial_of, acknowledge}
use Rattle.controller.specs.Receiving.{received_by}
use Rattle.controller.specs.Decisions.{given_by, held_after, decided, decided_by}
use Rattle.controller.specs.Writing.{share_written}
use Rattle.controller.specs.Calls.{decides, Call, receives, writes_share, manages, reply_to, after}
use Rattle.controller.specs.declared.Controller.{Controller}
use Rattle.controller.specs.declared.Reply.{Reply}
use Rattle.controller.specs.declared.Undone.{Undone}
use Rattle.controller.proofs.Within.{Within, within, obeys}
use Rattle.controller.proofs.Numbering.{held_meaning, held_unused, still_few, given-length, given_rising}
use Rattle.controller.proofs.Numbering.{given_fits, fits_higher, fits_still, rising_on}
use Rattle.controller.proofs.Moves.{Moves, stays, takes_acknowledgement_lem, takes_decision, moves, after-keeps}

-- a setup: refused, or a state to which nothing has happened
module _ (id n : ℕ) (p : Playbook) where
  pub setup-refused : in_range id n ≡ false → setup_of id n p ≡ unchanged (fresh 0 0 (store_of no_plans)) 20
  setup-refused e = refused (unchanged (fresh 0 0 (store_of no_plans))) _ 20 _ [] e

  pub setup-good : (setup_of id n p).answer ≡ 0 → (in_range id n ≡ true) × ((setup_of id n p).state ≡ fresh id n p)
  setup-good =
      reply-from (λ (r : Reply). r.answer ≡ 0 → (in_range id n ≡ true) × (r.state ≡ fresh id n p)) 1 _ _ _ refl
      (λ k h e. absurd (omega arith)) (λ y e. (answered _ refl y 20, refl))

  fresh_kept : in_range id n ≡ true → stored_ok p ≡ true → controller_ok (fresh id n p) ≡ true
  unfolding controller_ok every rising_from
  fresh_kept e s = rw (e, s, held_unused [] (omega arith))

  pub setup-kept : (setup_of id n p).answer ≡ 0 → stored_ok p ≡ true → controller_ok (setup_of id n p).state ≡ true
  setup-kept h s = let g = setup-good h in rw g.1 (fresh_kept g.0 s)

  -- with a playbook such as no reader stores the state is past its limits, so by `past_refused` every call refuses it
  pub setup_unread : stored_ok p ≡ false → controller_ok (fresh id n p) ≡ false
  unfolding controller_ok
  setup_unread s = rw (s, and-false)

-- and so is the state of a refused setup
pub zero-refused : controller_ok (fresh 0 0 (store_of no_plans)) ≡ false
unfolding controller_ok
zero-refused = refl

-- an undone list of at most 64 in its places, in a state that is else within its limits
module _ (c : Controller) (w : Within c) (acknowledged serials : List ℕ) (last : ℕ) (us : List Undone) where
  held_kept : length us ≤ 64 → every (undone_ok acknowledged last) us ≡ true → rising_from 0 (numbers_of us) ≡ true
      → controller_ok (progressed c (record {
        acknowledged = acknowledged;
        serials = serials;
        last = last;
        undone = held_of us;
      })) ≡ true
  held_kept few each rising =
      let read = held_meaning us few in
      obeys _ (record {
        some = w.some;
        few = w.few;
        known = w.known;
        count = few;
        each = rw read each;
        rising = rw read rising;
        unused = held_unused us few;
        stored = w.stored;
      })

module _ (c : Controller) (h : controller_ok c ≡ true) where
  -- any number acknowledged
  pub acknowledge-kept : (s number : ℕ) → controller_ok (acknowledge c s number) ≡ true
  acknowledge-kept s number =
      let w = within c h in
      let next = set c.progress.acknowledged s number in
      let us = undone_of c in
      held_kept c w next c.progress.serials c.progress.last (still_undone next us)
      (still_few next c.progress.undone w.count)
      (fits_still c.progress.acknowledged c.progress.last next us w.each)
      (rising_passing (is_undone next) _ 0 us w.rising)

  -- the numbers that a decision gives fit, and rise from the last one on
  given-each : (t : Trigger)
      → every (undone_ok c.progress.acknowledged (c.progress.last + length (given_by c t)))
      (still_undone c.progress.acknowledged (given_by c t)) ≡ true
  given-each t =
      let cs = changes_for c.playbook t in
      let many = given-length (c.progress.last + 1) (c.progress.last + 1) cs in
      let each : every (undone_ok [] (c.progress.last + length (given_by c t))) (given_by c t) ≡ true =
      given_fits _ _ _ cs (omega arith) (omega arith) (omega arith)
      (plan_changes c.playbook t (within c h).stored) in
      fits_still [] _ c.progress.acknowledged (given_by c t) each

  -- so with the undone ones before them the numbers rise
  pub held_rises : (t : Trigger) → rising_from 0 (numbers_of (held_after c t)) ≡ true
  held_rises t =
      let w = within c h in
      let last = c.progress.last in
      rising_on c.progress.acknowledged last (undone_of c) _ w.each w.rising
      (rising_passing _ _ last (given_by c t) (given_rising (last + 1) last _))

  pub decided-kept : (s serial cause : ℕ) → length (held_after c (s, cause)) ≤ 64
      → controller_ok (decided c s serial cause) ≡ true
  decided-kept s serial cause few =
      let w = within c h in
      let us = undone_of c in
      let top = c.progress.last + length (given_by c (s, cause)) in
      held_kept c w c.progress.acknowledged (set c.progress.serials s serial) top (held_after c (s, cause)) few
      (every_append _ us _ ∙ and_join _ _
      (fits_higher c.progress.acknowledged c.progress.last top us (omega arith) w.each)
      (given-each (s, cause)))
      (held_rises (s, cause))

-- a state t that came of the state c: its setup is the same, and none of its numbers is lower
pub record Grown (c t : Controller) : Type 0 where
  pub id : t.id ≡ c.id
  pub n : t.n ≡ c.n
  pub playbook : t.playbook ≡ c.playbook
  pub acknowledged : (s : ℕ) → acknowledged_of c s ≤ acknowledged_of t s
  pub serials : (s : ℕ) → serial_of c s ≤ serial_of t s
  pub last : c.progress.last ≤ t.progress.last

pub grown_same : (c : Controller) → Grown c c
grown_same c = record {
  id = refl;
  n = refl;
  playbook = refl;
  acknowledged = λ s. omega arith;
  serials = λ s. omega arith;
  last = omega arith;
}

pub grown_again : {c t u : Controller} → Grown c t → Grown t u → Grown c u
grown_again g h = record {
  id = h.id ∙ g.id;
  n = h.n ∙ g.n;
  playbook = h.playbook ∙ g.playbook;
  acknowledged = λ s. omega (arith, g.acknowledged s, h.acknowledged s);
  serials = λ s. omega (arith, g.serials s, h.serials s);
  last = omega (arith, g.last, h.last);
}

module _ (keys : List ℕ) (c : Controller) where
  kept : {x : Call} {r : Reply} → Moves keys c x r → controller_ok c ≡ true → controller_ok r.state ≡ true
  kept stays h = h
  kept (takes_acknowledgement_lem {bytes} {s} {number} a above) h = acknowledge-kept c h s number
  kept (takes_decision {s} {serial} {cause} d) h = decided-kept c h s serial cause d.room

  grown : {x : Call} {r : Reply} → Moves keys c x r → Grown c r.state
  grown stays = grown_same c
  grown (takes_acknowledgement_lem {bytes} {s} {number} a above) = record {
    id = refl;
    n = refl;
    playbook = refl;
    acknowledged = λ i. set_grows c.progress.acknowledged s number i (omega arith);
    serials = λ i. omega arith;
    last = omega arith;
  }
  grown (takes_decision {s} {serial} {cause} d) = record {
    id = refl;
    n = refl;
    playbook = refl;
    acknowledged = λ i. omega arith;
    serials = λ i. set_grows c.progress.serials s serial i (omega (arith, d.above));
    last = omega arith;
  }

  module _ (x : Call) where
    pub call_kept : controller_ok c ≡ true → controller_ok (reply_to keys c x).state ≡ true
    call_kept = kept (moves keys c x)

    pub call_grows : Grown c (reply_to keys c x).state
    call_grows = grown (moves keys c x)

  -- a state past its limits gets 20 from every call, and stays
  pub past_refused : (x : Call) → controller_ok c ≡ false → reply_to keys c x ≡ unchanged c 20
  unfolding received_by decided_by share_written
  past_refused (receives bytes) h = refused _ _ 20 _ _ h
  past_refused (writes_share s frame at) h = ap (λ (r : Reply × List ℕ). r.0) (refused _ _ 20 _ _ h)
  past_refused (manages (decides s serial cause)) h = refused _ _ 20 _ _ h

-- the same of lists of calls
module _ (keys : List ℕ) (c : Controller) (xs : List Call) where
  pub after_kept : controller_ok c ≡ true → controller_ok (after keys c xs) ≡ true
  after_kept = after-keeps (λ t. controller_ok t ≡ true) keys (call_kept keys) c xs

  pub after_grows : Grown c (after keys c xs)
  after_grows = after-keeps (Grown c) keys (λ t x g. grown_again g (call_grows keys t x)) c xs (grown_same c)

  pub after-refused : controller_ok c ≡ false → after keys c xs ≡ c
  after-refused h = after-keeps (λ t. t ≡ c) keys (λ t x e. rw (e, past_refused keys c x h)) c xs refl
