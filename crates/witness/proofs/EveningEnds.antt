-- What each end does on the worked evening, computed from the ends' own definitions. No tag is computed: what is sealed
-- with a key passes the check with that key. Assumes nothing.
use mathlib.Core.Path.{◌≡◌, refl, sym, ap, ◌∙◌}
use mathlib.Core.Bool.{true}
use mathlib.Core.List.{List, [], ◌∷◌}
use Prim.Native.Nat.{ℕ, ◌*◌, ◌^◌, ◌<◌}
use native.Mathlib.Omega.{arith}
use lib.Count.{ones, ones_in}
use lib.Dec.{ltb, eqb}
use lib.ListN.{length, replicate}
use borrow.Author.Tests.{ltb-true, eqb-true, lt-ltb, eq-eqb}
use Rattle.answer.specs.Ask.{Question, reply, first_no}
use Rattle.answer.proofs.Asked.{answered}
use Rattle.lists.specs.Arrays.{pad, every_tail, every}
use Rattle.lists.specs.Bytes.{num, field, part}
use Rattle.lists.specs.Counts.{passing}
use Rattle.lists.specs.Kinds.{among, kinds}
use Rattle.lists.specs.Rising.{rising_from}
use Rattle.lists.proofs.Numbers.{bytes-tested}
use Rattle.flow.specs.Tables.{table_ok}
use Rattle.flow.specs.Changes.{set_entry}
use Rattle.message.specs.Keys.{key_length}
use Rattle.message.specs.Layout.{share_length}
use Rattle.message.specs.Writing.{length_of}
use Rattle.message.specs.declared.Message.TheVariants.{Share}
use Rattle.message.proofs.Inverse.{decode-encode, encode-sealed}
use Rattle.playbook.specs.Books.{keys_on, last_count, count_last}
use Rattle.playbook.specs.Plans.{plan_of, changes_for}
use Rattle.playbook.specs.Reading.{read_from}
use Rattle.playbook.specs.declared.Change.{Change}
use Rattle.switch.specs.Slots.{slot_for, agreeing}
use Rattle.switch.specs.States as switch
use Rattle.switch.specs.States.{switch_ok}
use Rattle.switch.specs.Shares.{stored, applied, take_share}
use Rattle.switch.specs.Receiving.{received_by}
use Rattle.switch.specs.declared.Switch.{Switch}
use Rattle.controller.specs.Changes.{undone_of, numbers_of, numbered, numbered_from}
use Rattle.controller.specs.States as controller
use Rattle.controller.specs.States.{unchanged, controller_ok}
use Rattle.controller.specs.Decisions.{given_by, held_after, decided, decided_by}
use Rattle.controller.specs.Writing.{share_for, share_written}
use Rattle.controller.specs.declared.Controller.{Controller}
use Rattle.controller.specs.declared.Reply.{Reply}
use Rattle.controller.specs.declared.Undone.{Undone}
use Rattle.controller.proofs.Deciding.{decision_taken}
use Rattle.controller.proofs.Kept.{decided-kept}
use Rattle.controller.proofs.Sent.{ready_sent, share-bytes}
use Rattle.controller.proofs.Waiting.{lowest_found}
use Rattle.protocol.specs.Families.{count_below}
use Rattle.domain.specs.Settings.{Valid, playbook, switch_keys, controller_keys}
use Rattle.domain.specs.Agreement.{agreed_changes}
use Rattle.domain.proofs.Ends.{controller-set, controller-start}
use Rattle.message.proofs.Stores.{joined_length, joined_at}
use Rattle.witness.specs.Evening.{outage, evening, by_port, share}

pub valid : Valid evening
unfolding count_below every_tail every read_from reply num field keys_on kinds among last_count count_last
valid = record {
  some = omega arith;
  few = omega arith;
  straying = omega arith;
  keys = λ c known s l. refl;
  bytes = bytes-tested evening.book refl;
  read = refl;
}

-- the plan: one flow, the far switch before the near one
abbrev pub far : Change
far = record { flow = 0; switch = 2; rule = by_port 3 }

abbrev pub near : Change
near = record { flow = 0; switch = 5; rule = by_port 2 }

plan_is : changes_for (playbook evening) (5, 1) ≡ far ∷ near ∷ []
unfolding read_from reply num field keys_on kinds among last_count count_last plan_of pad
plan_is = refl

-- its changes with their numbers
abbrev pub changes : List Undone
changes = numbered 1 1 far ∷ numbered 1 2 near ∷ []

pub agreed_are : agreed_changes (playbook evening) (outage ∷ []) ≡ changes
unfolding agreed_changes numbered_from read_from reply num field keys_on kinds among last_count count_last plan_of pad
agreed_are = refl

rising : rising_from 0 (numbers_of changes) ≡ true
unfolding rising_from
rising = refl

-- a controller before it takes the decision, and after
module _ (c : ℕ) where
  abbrev pub unaware : Controller
  unaware = controller.fresh c 4 (playbook evening)

  abbrev pub aware : Controller
  aware = decided unaware 5 1 1

  given : given_by unaware (5, 1) ≡ changes
  unfolding numbered_from
  given = rw plan_is

  held : held_after unaware (5, 1) ≡ changes
  unfolding passing
  held = rw given

  undone : undone_of aware ≡ changes
  unfolding pad
  undone = rw held

  module _ (l : c < 4) where
    within : controller_ok unaware ≡ true
    within =
        ap (λ (r : Reply). controller_ok r.state) (sym (controller-set evening valid c l))
        ∙ (controller-start evening valid c l).ok

    pub agrees_0 : decided_by unaware 5 1 1 ≡ unchanged aware 0
    agrees_0 =
        decision_taken unaware 5 1 1 (record {
          limits = within;
          known = omega arith;
          above = omega arith;
          numbers = rw given (omega arith);
          room = rw held (omega arith);
        })

    -- its share for switch 2 is that of change 1, the lowest undone one
    pub writes_0 : (share_written aware (controller_keys evening c) 2 (replicate share_length 0) 0).0.answer ≡ 0
    writes_0 =
        ready_sent aware (controller_keys evening c) 2 (replicate share_length 0) 0
        (decided-kept unaware within 5 1 1 (rw held (omega arith)))
        (joined_length (evening.key c) 16 (valid.keys c l)) (omega arith) (omega arith) (numbered 1 1 far)
        (rw undone (lowest_found changes rising (omega arith)))

    pub writes-share :
        part (length_of (share_for aware 2)) 0
        (share_written aware (controller_keys evening c) 2 (replicate share_length 0) 0).1
        ≡ share c 2 1 3
    writes-share =
        let key = joined_at (evening.key c) 16 (valid.keys c l) 2 (omega arith) in
        share-bytes aware (controller_keys evening c) 2 (replicate share_length 0) 0 writes_0
        ∙ rw (undone, lowest_found changes rising (omega arith), key)

-- a share with a good tag that arrives at a switch meets the questions of its number and rule
module _ (t : Switch) (c k port : ℕ) where
  abbrev fitting : List Question
  fitting =
      (1, switch_ok t)
      ∷ (2, eqb t.n 4)
      ∷ (3, ltb c 4)
      ∷ (4, ltb k (256 ^ 4))
      ∷ (5, ltb 0 port)
      ∷ (6, ltb port (256 ^ 2))
      ∷ []

  abbrev keys : ℕ → List ℕ
  keys i = evening.key i t.id

  comes : first_no fitting ≡ 0
      → received_by t (switch_keys evening t.id) (share c t.id k port) ≡ take_share t c (slot_for k (by_port port))
  unfolding received_by reply
  comes h =
      let yes = answered fitting refl h in
      let four : t.n ≡ 4 = eqb-true _ _ (yes 2) in
      let known : c < 4 = ltb-true _ _ (yes 3) in
      let store : length (switch_keys evening t.id) ≡ key_length * t.n =
      joined_length keys 4 (λ i m. refl) ∙ ap (λ (n : ℕ). key_length * n) (sym four) in
      let m = Share c t.id k (by_port port) in
      rw (
        yes 1,
        eq-eqb _ _ store,
        decode-encode (keys c) m (ltb-true _ _ (yes 4), omega arith, ltb-true _ _ (yes 6)) (yes 5),
        lt-ltb c t.n (rw four known),
        eq-eqb t.id t.id refl,
        joined_at keys 4 (λ i m. refl) c known,
        encode-sealed (keys c) m refl,
      )

-- switch 2: nothing yet; the stray's share; controller 1's beside it; and change 1 made with controller 2's
abbrev pub fresh2 : Switch
fresh2 = switch.fresh 2 4

abbrev pub misled2 : Switch
misled2 = stored fresh2 3 (slot_for 1 (by_port 9))

abbrev pub waiting2 : Switch
waiting2 = stored misled2 1 (slot_for 1 (by_port 3))

abbrev pub made2 : Switch
made2 = let share = slot_for 1 (by_port 3) in applied (stored waiting2 2 share) share

pub misled : received_by fresh2 (switch_keys evening 2) (share 3 2 1 9) ≡ switch.unchanged misled2 0
unfolding switch_ok table_ok every_tail every pad take_share reply among agreeing ones ones_in
misled = comes fresh2 3 1 9 refl

pub holds : received_by misled2 (switch_keys evening 2) (share 1 2 1 3) ≡ switch.unchanged waiting2 0
unfolding switch_ok table_ok every_tail every pad take_share reply among agreeing ones ones_in
holds = comes misled2 1 1 3 refl

pub repeats : received_by waiting2 (switch_keys evening 2) (share 1 2 1 3) ≡ switch.unchanged waiting2 2
unfolding switch_ok table_ok every_tail every pad take_share reply among agreeing ones ones_in
repeats = comes waiting2 1 1 3 refl

pub makes : received_by waiting2 (switch_keys evening 2) (share 2 2 1 3) ≡ switch.unchanged made2 1
unfolding switch_ok table_ok every_tail every pad take_share reply among agreeing ones ones_in
makes = comes waiting2 2 1 3 refl

pub late : received_by made2 (switch_keys evening 2) (share 0 2 1 3) ≡ switch.unchanged made2 16
unfolding switch_ok table_ok every_tail every pad take_share reply among agreeing ones ones_in set_entry
late = comes made2 0 1 3 refl

-- switch 5: the stray's share of change 2, ahead of its turn
abbrev pub fresh5 : Switch
fresh5 = switch.fresh 5 4

pub ahead : received_by fresh5 (switch_keys evening 5) (share 3 5 2 2) ≡ switch.unchanged (stored fresh5 3 (slot_for 2 (by_port 2))) 0
unfolding switch_ok table_ok every_tail every pad take_share reply among agreeing ones ones_in
ahead = comes fresh5 3 2 2 refl
