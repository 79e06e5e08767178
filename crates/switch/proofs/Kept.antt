-- What calls keep: a setup answered 0 makes a state within its limits, every call leaves it so, and none lowers the
-- last applied number or changes the id, the number of controllers or how many slots there are.
use mathlib.Core.Path.{◌≡◌, refl, ap, ◌∙◌}
use mathlib.Core.Bool.{true, false}
use mathlib.Core.List.{List, []}
use Prim.Native.Nat.{ℕ, ◌≤◌, ◌<◌}
use native.Mathlib.Omega.{arith}
use lib.ListN.{length, replicate, length-set, length-map}
use lib.Seq.{take-set-lt, drop-set-lt}
use lib.Dec.{ltb, leb}
use borrow.Author.Tests.{lt-ltb, leb-false}
use Rattle.answer.proofs.Asked.{refused, answered, reply-from, reply-keeps}
use Rattle.answer.proofs.Bools.{by_bool, or_left, or_right}
use Rattle.lists.specs.Arrays.{every_tail, every}
use Rattle.lists.proofs.Rising.{rising_last}
use Rattle.lists.proofs.Stores.{take-map, drop-map}
use Rattle.lists.proofs.Tails.{replicate-every, every_take, every_drop, every_set, every_map}
use Rattle.flow.specs.Rules.{well_formed}
use Rattle.flow.specs.Tables.{entries_of}
use Rattle.flow.specs.Changes.{room_for}
use Rattle.flow.proofs.Kept.{table_ok_lem, apply_table}
use Rattle.switch.specs.Slots.{empty_slot, slot_empty, slot_ok, emptied}
use Rattle.switch.specs.States.{unchanged, in_range, fresh, setup_of, switch_ok}
use Rattle.switch.specs.Shares.{stored, applied}
use Rattle.switch.specs.Raising.{raised_by}
use Rattle.switch.specs.Receiving.{received_by}
use Rattle.switch.specs.Writing.{written}
use Rattle.switch.specs.Calls.{raises, Call, receives, writes, manages, reply_to, after}
use Rattle.switch.specs.declared.Reply.{Reply}
use Rattle.switch.specs.declared.Slot.{Slot}
use Rattle.switch.specs.declared.Switch.{Switch}
use Rattle.switch.proofs.Within.{within, obeys}
use Rattle.switch.proofs.Moves.{Moves, shares_left, share-stored, rule-applied, moves, numbers-made, after-keeps}

-- a setup: refused, or a state to which nothing has happened
module _ (id n : ℕ) where
  pub setup-refused : in_range id n ≡ false → setup_of id n ≡ unchanged (fresh 0 0) 20
  setup-refused e = refused (unchanged (fresh 0 0)) _ 20 _ [] e

  pub setup-good : (setup_of id n).answer ≡ 0 → (in_range id n ≡ true) × ((setup_of id n).state ≡ fresh id n)
  setup-good =
      reply-from (λ (r : Reply). r.answer ≡ 0 → (in_range id n ≡ true) × (r.state ≡ fresh id n)) 1 _ _ _ refl
      (λ k h e. absurd (omega arith)) (λ y e. (answered _ refl y 20, refl))

  fresh_kept : in_range id n ≡ true → switch_ok (fresh id n) ≡ true
  unfolding switch_ok every_tail every
  fresh_kept e =
      let slots = replicate 16 empty_slot in
      let held = every_take (slot_ok 0) n slots (replicate-every (slot_ok 0) empty_slot 16 refl) in
      let unused = every_drop slot_empty n slots (replicate-every slot_empty empty_slot 16 refl) in
      rw (e, table_ok_lem [] (omega arith) refl, held, unused)

  pub setup-kept : (setup_of id n).answer ≡ 0 → switch_ok (setup_of id n).state ≡ true
  setup-kept h = let g = setup-good h in rw g.1 (fresh_kept g.0)

  -- sixteen slots, of a refused setup too
  pub setup_slots : length (setup_of id n).state.slots ≡ 16
  setup_slots = reply-keeps (λ (r : Reply). length r.state.slots ≡ 16) _ _ _ (λ k. refl) (λ y. refl)

-- the state of a refused setup is past its limits, so by `past_refused` every later call refuses it
pub zero-refused : switch_ok (fresh 0 0) ≡ false
unfolding switch_ok
zero-refused = refl

-- a slot after the rule of a number was applied: above it or empty; and it stays empty
emptied_ok : (number : ℕ) (slot : Slot) → slot_ok number (emptied number slot) ≡ true
emptied_ok number slot =
    by_bool (leb slot.number number) (λ e. rw e (or_right (ltb number 0) _ refl))
    (λ e. rw e (or_left (ltb number slot.number) _ (lt-ltb _ _ (leb-false slot.number number e))))

emptied_empty : (number : ℕ) (slot : Slot) → slot_empty slot ≡ true → slot_empty (emptied number slot) ≡ true
emptied_empty number slot h = by_bool (leb slot.number number) (λ e. rw e) (λ e. rw e h)

module _ (s : Switch) where
  -- a share stored for a known controller, with a number above the last applied one
  pub stored-kept : (c : ℕ) (share : Slot) → switch_ok s ≡ true → c < s.n → s.last < share.number
      → switch_ok (stored s c share) ≡ true
  stored-kept c share h known above =
      let w = within s h in
      obeys (stored s c share) (record {
        known = w.known;
        some = w.some;
        few = w.few;
        table = w.table;
        held = rw (take-set-lt s.n s.slots c share known)
            (every_set (slot_ok s.last) _ c share w.held (or_left _ _ (lt-ltb _ _ above)));
        unused = rw (drop-set-lt s.n s.slots c share known) w.unused;
      })

  -- a rule applied that the table has room for
  pub applied-kept : (share : Slot) → switch_ok s ≡ true → well_formed share.rule ≡ true
      → room_for share.rule (entries_of s.table) ≡ true → switch_ok (applied s share) ≡ true
  applied-kept share h formed room =
      let w = within s h in
      let empty = emptied share.number in
      obeys (applied s share) (record {
        known = w.known;
        some = w.some;
        few = w.few;
        table = apply_table share.rule s.table formed w.table room;
        held = rw (take-map empty s.n s.slots)
            (every_map (slot_ok share.number) (slot_ok s.last) empty (λ x e. emptied_ok share.number x) _
            w.held);
        unused = rw (drop-map empty s.n s.slots)
            (every_map slot_empty slot_empty empty (emptied_empty share.number) _ w.unused);
      })

module _ (keys : List ℕ) (s : Switch) where
  kept : {t : Switch} {ks : List ℕ} → Moves keys s t ks → switch_ok s ≡ true → switch_ok t ≡ true
  kept (shares_left l) h = l.limits h
  kept (share-stored a few) h = stored-kept s _ _ h a.known a.passes.above
  kept (rule-applied {bytes} {c} {share} a) h =
      let held = stored-kept s c share h a.known a.passes.above in
      applied-kept (stored s c share) share held a.passes.formed a.passes.room

  names : {t : Switch} {ks : List ℕ} → Moves keys s t ks → (t.id ≡ s.id) × (t.n ≡ s.n)
  names (shares_left l) = (l.id, l.n)
  names (share-stored a few) = (refl, refl)
  names (rule-applied a) = (refl, refl)

  as_many : {t : Switch} {ks : List ℕ} → Moves keys s t ks → length t.slots ≡ length s.slots
  as_many (shares_left l) = ap length l.slots
  as_many (share-stored {bytes} {c} {share} a few) = length-set s.slots c share
  as_many (rule-applied {bytes} {c} {share} a) =
      length-map (stored s c share).slots (emptied share.number) ∙ length-set s.slots c share

  module _ (x : Call) where
    pub call_kept : switch_ok s ≡ true → switch_ok (reply_to keys s x).state ≡ true
    call_kept = kept (moves keys s x)

    pub last_grows : s.last ≤ (reply_to keys s x).state.last
    last_grows = let n = numbers-made keys s (moves keys s x) in omega (arith, rising_last _ _ n.0, n.1)

    pub call_names : ((reply_to keys s x).state.id ≡ s.id) × ((reply_to keys s x).state.n ≡ s.n)
    call_names = names (moves keys s x)

    pub call_slots : length (reply_to keys s x).state.slots ≡ length s.slots
    call_slots = as_many (moves keys s x)

  -- a state past its limits gets 20 from every call, and stays
  pub past_refused : (x : Call) → switch_ok s ≡ false → reply_to keys s x ≡ unchanged s 20
  unfolding received_by raised_by written
  past_refused (receives bytes) h = refused _ _ 20 _ _ h
  past_refused (writes kind c frame at) h = ap (λ (r : Reply × List ℕ). r.0) (refused _ _ 20 _ _ h)
  past_refused (manages (raises cause)) h = refused _ _ 20 _ _ h

-- the same of lists of calls
module _ (keys : List ℕ) (s : Switch) (xs : List Call) where
  pub after_kept : switch_ok s ≡ true → switch_ok (after keys s xs) ≡ true
  after_kept = after-keeps (λ t. switch_ok t ≡ true) keys (call_kept keys) s xs

  pub after_grows : s.last ≤ (after keys s xs).last
  after_grows =
      after-keeps (λ t. s.last ≤ t.last) keys (λ t x h. omega (arith, last_grows keys t x)) s xs (omega arith)

  pub after_names : ((after keys s xs).id ≡ s.id) × ((after keys s xs).n ≡ s.n)
  after_names =
      after-keeps (λ t. (t.id ≡ s.id) × (t.n ≡ s.n)) keys
      (λ t x h. let a = call_names keys t x in (a.0 ∙ h.0, a.1 ∙ h.1)) s xs (refl, refl)

  pub after_slots : length (after keys s xs).slots ≡ length s.slots
  after_slots =
      after-keeps (λ t. length t.slots ≡ length s.slots) keys (λ t x h. call_slots keys t x ∙ h) s xs refl

  pub after-refused : switch_ok s ≡ false → after keys s xs ≡ s
  after-refused h = after-keeps (λ t. t ≡ s) keys (λ t x e. rw (e, past_refused keys s x h)) s xs refl
