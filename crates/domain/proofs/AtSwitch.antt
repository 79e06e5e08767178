-- A call at a switch is the protocol's: bytes received are a share taken or nothing, an acknowledgement written is one,
-- and every other call is nothing.
use mathlib.Core.Path.{◌≡◌, refl, sym, ap, ap₂, ◌∙◌}
use mathlib.Core.Bool.{true, false, ◌&&◌}
use mathlib.Core.List.{List, ◌∷◌}
use Prim.Native.Nat.{ℕ, ◌*◌, ◌^◌, ◌≤◌, ◌<◌}
use native.Mathlib.Omega.{arith}
use lib.Dec.{ltb, eqb}
use lib.ListN.{length, get_or}
use borrow.Author.Tests.{eqb-true, eq-eqb, ne_eqb}
use Rattle.answer.specs.Ask.{pick, reply}
use Rattle.answer.proofs.Asked.{refused}
use Rattle.answer.proofs.Bools.{by_bool, pick-keeps, pick_same}
use Rattle.flow.specs.Rules.{well_formed}
use Rattle.flow.specs.declared.Rule.{Rule}
use Rattle.flow.specs.declared.Table.{Table}
use Rattle.message.specs.Keys.{key_length, key_at}
use Rattle.message.specs.Reading.{decode}
use Rattle.message.specs.Senders.{sender_questions}
use Rattle.message.specs.declared.End.TheVariants as ends
use Rattle.message.specs.declared.Message.TheVariants.{Share, Refused}
use Rattle.message.specs.Writing.{encode}
use Rattle.message.proofs.Ends.{by_switch, share-number, from_10, decode-event}
use Rattle.message.proofs.Lengths.{encode-length}
use Rattle.switch.specs.Slots.{slot_for}
use Rattle.switch.specs.States.{unchanged}
use Rattle.switch.specs.Shares.{take_share}
use Rattle.switch.specs.Receiving.{received_by}
use Rattle.switch.specs.Slots.{empty_slot}
use Rattle.switch.specs.Writing.{Kind, event, acknowledgement}
use Rattle.switch.specs.Writing.{event_for, acknowledgement_for, event_written, acknowledgement_written}
use Rattle.switch.specs.Calls as switch-calls
use Rattle.switch.specs.Calls.{Managing, receives, writes, manages}
use Rattle.switch.specs.declared.Switch.{Switch}
use Rattle.switch.proofs.Moves.{Leaves, managed_leaves}
use Rattle.switch.proofs.Sent.{written_state, sent-bytes, acknowledgement-sent}
use Rattle.protocol.specs.Families.{upd}
use Rattle.protocol.proofs.Ends as protocol
use Rattle.protocol.proofs.Worlds as protocol-worlds
use Rattle.protocol.proofs.Families.{upd_at, upd_ap}
use Rattle.protocol.proofs.Steps.{other_stays}
use Rattle.domain.specs.Settings.{Setting, Valid, switch_keys}
use Rattle.domain.specs.Calls.{at_switch, Run, switch_writes, step}
use Rattle.domain.specs.Premises.{Unforged}
use Rattle.domain.specs.Premises as premises
use Rattle.domain.proofs.View.{domain_of, view_slot, view_switch, view_reply, said, messages, made_in, made_so, view, seen}
use Rattle.domain.proofs.View.{acknowledgement_said, is_from, Seen}
use Rattle.message.proofs.Stores.{joined_length, joined_at}
use Rattle.domain.proofs.Shares.{share_view}
use Rattle.domain.proofs.Agreed.{all_trusted}
use Rattle.domain.proofs.Ends.{SwitchFine}
use Rattle.domain.proofs.Messages.{share_said_lem, sealed_tagged, From, is_from_lem, from_asked, not-from}

module _ (S : Setting) (v : Valid S) (r : Run) (s : ℕ) (l : s < 16) (f : SwitchFine S s (r.switches s)) where
  abbrev D : protocol.Domain Rule Table
  D = domain_of S

  abbrev t : Switch
  t = r.switches s

  abbrev keys : List ℕ
  keys = switch_keys S s

  store : length keys ≡ key_length * t.n
  store = joined_length (λ c. S.key c s) S.n (λ c m. v.keys c m s l) ∙ ap (λ (n : ℕ). key_length * n) (sym f.n)

  -- a call that leaves what is seen of the switch, and says and makes nothing, is not seen
  unseen : (x : switch-calls.Call) → view_switch (switch-calls.reply_to keys t x).state ≡ view_switch t
      → said (switch-calls.reply_to keys t x).answer (at_switch s x) (switch_writes keys t x) (messages r.log)
      ≡ messages r.log
      → made_in (switch-calls.reply_to keys t x).answer (at_switch s x) (made_so r.log) ≡ made_so r.log
      → view (step S r (at_switch s x)) ≡ view r
  unfolding step messages made_so
  unseen x same no_word none =
      let switches : (u : ℕ) → view_switch (upd r.switches s (switch-calls.reply_to keys t x).state u)
      ≡ view_switch (r.switches u) =
      λ u. upd_at (λ u z. view_switch z ≡ view_switch (r.switches u)) r.switches s _ u same (λ n. refl) in
      λ i. record {
        switches = λ u. switches u i;
        controllers = (view r).controllers;
        written = no_word i;
        made = none i;
      }

  module _ (bytes : List ℕ) where
    -- refused bytes
    refused_unseen : (q : ℕ) → 10 ≤ q → received_by t keys bytes ≡ unchanged t q
        → view (step S r (at_switch s (receives bytes))) ≡ view r
    refused_unseen q high e =
        unseen (receives bytes) (rw e) refl (rw (e, ne_eqb q 1 (λ z. omega arith)))

    -- a share read, before its sender is asked for
    module _ (c to k : ℕ) (rule : Rule) (d : decode ends.Switch bytes ≡ Share c to k rule) where
      share_asked : received_by t keys bytes
          ≡ reply (sender_questions t.n t.id keys bytes c to) (unchanged t) (take_share t c (slot_for k rule))
      unfolding received_by reply
      share_asked = rw (f.ok, eq-eqb _ _ store, d)

      share-read : received_by t keys bytes
          ≡ reply (sender_questions S.n s keys bytes c to) (unchanged t) (take_share t c (slot_for k rule))
      share-read =
          share_asked
          ∙ ap₂ (λ (n id : ℕ). reply (sender_questions n id keys bytes c to) (unchanged t) (take_share t c (slot_for k rule)))
          f.n f.id

      from-taken : From S.n s keys bytes c to → received_by t keys bytes ≡ take_share t c (slot_for k rule)
      from-taken from = share-read ∙ from_asked S.n s keys bytes c to (unchanged t) (take_share t c (slot_for k rule)) from

      module _ (from : From S.n s keys bytes c to) (formed : well_formed rule ≡ true) where
        -- seen as it is
        share_seen_lem : view (step S r (at_switch s (receives bytes)))
            ≡ protocol-worlds.step D (view r) (protocol-worlds.takes_share s c k rule)
        unfolding step messages made_so protocol-worlds.step
        share_seen_lem =
            let reply = received_by t keys bytes in
            let is : view_reply reply ≡ protocol.take_share D (view_switch t) c k rule =
            ap view_reply (from-taken from)
            ∙ share_view S t f.ok f.n f.slots c (rw f.n from.known) (slot_for k rule) formed in
            let made : made_in reply.answer (at_switch s (receives bytes)) (made_so r.log)
            ≡ pick (eqb (protocol.take_share D (view_switch t) c k rule).answer 1)
            (record { switch = s; number = k; content = rule } ∷ made_so r.log) (made_so r.log) =
            rw (share-number bytes d, d, ap (λ (p : protocol.Reply Rule Table). p.answer) is) in
            let switches : (u : ℕ) → view_switch (upd r.switches s reply.state u)
            ≡ upd (λ i. view_switch (r.switches i)) s (protocol.take_share D (view_switch t) c k rule).state u =
            λ u. upd_ap view_switch r.switches s reply.state u
            ∙ ap (λ (p : protocol.Reply Rule Table). upd (λ i. view_switch (r.switches i)) s p.state u) is in
            λ i. record {
              switches = λ u. switches u i;
              controllers = (view r).controllers;
              written = messages r.log;
              made = made i;
            }

        share_allowed : Unforged S r (at_switch s (receives bytes))
            → protocol-worlds.Allowed D (view r) (protocol-worlds.takes_share s c k rule)
        share_allowed honest = (
          from.known,
          λ keeps.
              let key = joined_at (λ i. S.key i s) S.n (λ i m. v.keys i m s l) c from.known in
              share_said_lem (honest c (rw (d, from.here) premises.share) (from.known, keeps)
              (sealed_tagged (S.key c s) bytes (rw key at from.sealed))) d,
          all_trusted S v _,
        )

      -- refused by 12, 13, 14 or 15
      refused_seen : (is_from S.n s keys bytes c to && well_formed rule) ≡ false → (q : ℕ) → 10 ≤ q
          → received_by t keys bytes ≡ unchanged t q → Seen S r (at_switch s (receives bytes))
      unfolding seen
      refused_seen fails q high e = record {
        is = rw (d, fails) (refused_unseen q high e ∙ sym (other_stays D (view r)));
        allowed = rw (d, fails) tt;
      }

      malformed : From S.n s keys bytes c to → well_formed rule ≡ false → received_by t keys bytes ≡ unchanged t 15
      unfolding take_share
      malformed from fails = from-taken from ∙ refused _ _ 15 _ _ fails

      read_seen : Unforged S r (at_switch s (receives bytes)) → Seen S r (at_switch s (receives bytes))
      unfolding seen
      read_seen honest =
          by_bool (is_from S.n s keys bytes c to)
          (λ e.
          let from = is_from_lem S.n s keys bytes c to e in
          by_bool (well_formed rule)
          (λ y. record {
            is = rw (d, e, y) (share_seen_lem from y);
            allowed = rw (d, e, y) (share_allowed from y honest);
          })
          (λ y. refused_seen (rw (e, y)) 15 (omega arith) (malformed from y)))
          (λ e.
          let x = not-from S.n s keys bytes c to (unchanged t) (take_share t c (slot_for k rule)) e in
          refused_seen (rw e) x.0 x.1 (share-read ∙ x.2))

    -- whatever is received
    pub received_seen : Unforged S r (at_switch s (receives bytes)) → Seen S r (at_switch s (receives bytes))
    unfolding seen
    received_seen honest =
        by_switch bytes
        (λ long kind d. read_seen _ _ _ _ d honest)
        (λ k h d.
        let no : received_by t keys bytes ≡ unchanged t k = not-read k d in
        record { is = rw d (refused_unseen k (from_10 h) no ∙ sym (other_stays D (view r))); allowed = rw d tt })
      where
        not-read : (k : ℕ) → decode ends.Switch bytes ≡ Refused k → received_by t keys bytes ≡ unchanged t k
        not-read k d = unfold received_by reply in rw (f.ok, eq-eqb _ _ store, d)

  -- a call that no other end sees
  leaves_view : {u : Switch} → Leaves t u → view_switch u ≡ view_switch t
  leaves_view left = λ i. record {
    last = left.last i;
    table = left.table i;
    slots = λ c. view_slot (get_or (left.slots i) c empty_slot);
  }

  pub managed_seen : (m : Managing) → Seen S r (at_switch s (manages m))
  unfolding seen
  managed_seen m = record {
    is = unseen (manages m) (leaves_view (managed_leaves t m)) refl refl ∙ sym (other_stays D (view r));
    allowed = tt;
  }

  module _ (c : ℕ) (frame : List ℕ) (at : ℕ) where
    -- an event written is read as an event, and says nothing
    event_said : (event_written t keys c frame at).0.answer ≡ 0
        → acknowledgement_said s c (decode ends.Controller (switch_writes keys t (writes event c frame at)))
        (messages r.log)
        ≡ messages r.log
    event_said e =
        let m = event_for t c in
        let key = key_at keys c in
        let bytes = sent-bytes t keys c m (ltb 0 t.raised.serial) frame at e in
        rw (bytes, decode-event (encode key m) (encode-length key m) refl)

    event_seen : Seen S r (at_switch s (writes event c frame at))
    unfolding seen
    event_seen =
        let same = pick_same {A = protocol-worlds.Call Rule} (eqb (event_written t keys c frame at).0.answer 0) protocol-worlds.other in
        record {
          is = rw same (unseen (writes event c frame at)
              (ap view_switch (written_state t keys c (event_for t c) _ frame at))
              (pick-keeps (λ l. l ≡ messages r.log) (eqb (event_written t keys c frame at).0.answer 0) _ _
              (λ e. event_said (eqb-true _ _ e)) (λ e. refl))
              refl
              ∙ sym (other_stays D (view r)));
          allowed = rw same tt;
        }

    -- an acknowledgement written is read as that of the last applied number
    module _ (small : t.last < 256 ^ 4) where
      abbrev answer : ℕ
      answer = (acknowledgement_written t keys c frame at).0.answer

      written_seen_lem : answer ≡ 0
          → view (step S r (at_switch s (writes acknowledgement c frame at)))
          ≡ protocol-worlds.step D (view r) (protocol-worlds.writes_acknowledgement s c)
      unfolding step messages made_so protocol-worlds.step
      written_seen_lem e =
          let read = (acknowledgement-sent t keys c frame at e small).read in
          let same = written_state t keys c (acknowledgement_for t c) true frame at in
          let left = (acknowledgement_written t keys c frame at).0.state in
          let switches : (u : ℕ) → view_switch (upd r.switches s left u) ≡ view_switch (r.switches u) =
          λ u. upd_at (λ u z. view_switch z ≡ view_switch (r.switches u)) r.switches s left u (ap view_switch same)
          (λ n. refl) in
          let written : said answer (at_switch s (writes acknowledgement c frame at))
          (switch_writes keys t (writes acknowledgement c frame at)) (messages r.log)
          ≡ protocol-worlds.acknowledgement s c t.last ∷ messages r.log =
          rw (e, read) in
          λ i. record {
            switches = λ u. switches u i;
            controllers = (view r).controllers;
            written = written i;
            made = made_so r.log;
          }

      acknowledgement_seen_lem : Seen S r (at_switch s (writes acknowledgement c frame at))
      unfolding seen
      acknowledgement_seen_lem =
          by_bool (eqb answer 0)
          (λ e. record { is = rw e (written_seen_lem (eqb-true _ _ e)); allowed = rw e tt })
          (λ e. record {
            is = rw e (unseen (writes acknowledgement c frame at)
                (ap view_switch (written_state t keys c (acknowledgement_for t c) true frame at)) (rw e) refl
                ∙ sym (other_stays D (view r)));
            allowed = rw e tt;
          })

      -- a message of either kind written
      pub writing_seen : (kind : Kind) → Seen S r (at_switch s (writes kind c frame at))
      writing_seen event = event_seen
      writing_seen acknowledgement = acknowledgement_seen_lem
