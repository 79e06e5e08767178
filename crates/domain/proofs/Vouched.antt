-- A share answered 1 was written earlier by some controller that keeps the rules: in the protocol that controller's
-- message is among those written, a message is there only if its writing stands in the log, and what was written names
-- its controller and its switch.
use mathlib.Core.Path.{◌≡◌, sym, ap, ◌∙◌, subst}
use mathlib.Core.List.Memᴰ
use mathlib.Core.List.{List, [], ◌∷◌, ◌++◌, Memᴰ}
use mathlib.Core.Logic.{◌⊎◌, inl, inr, ⊎_elim}
use Prim.Native.Nat.{ℕ}
use native.Mathlib.Omega.{arith}
use lib.Dec.{eqb}
use borrow.Author.Tests.{eqb-true}
use Rattle.answer.proofs.Bools.{by_bool}
use Rattle.lists.specs.Bytes.{field}
use Rattle.flow.specs.declared.Rule.{Rule}
use Rattle.flow.specs.declared.Table.{Table}
use Rattle.message.specs.Layout.{number_at}
use Rattle.message.specs.Reading.{decode}
use Rattle.message.specs.declared.End.TheVariants as ends
use Rattle.message.specs.declared.Message.{Message}
use Rattle.message.specs.declared.Message.TheVariants.{Event, Share, Acknowledgement, Refused}
use Rattle.message.proofs.Ends.{share-number}
use Rattle.switch.specs.Calls.{receives, writes, manages}
use Rattle.controller.specs.Calls as controller-calls
use Rattle.controller.specs.Calls.{writes_share}
use Rattle.protocol.specs.Runs.{run}
use Rattle.protocol.proofs.Ends as protocol
use Rattle.protocol.proofs.Worlds as protocol-worlds
use Rattle.protocol.proofs.Vouched as protocol-vouched
use Rattle.protocol.proofs.Vouched.{start_vouched, call_vouched}
use Rattle.domain.specs.Settings.{Setting, Valid, Keeps}
use Rattle.domain.specs.Calls.{Call, at_switch, at_controller, Done, Run, start, step}
use Rattle.domain.specs.Premises.{ControllerWrote, FromController, InRun, Unforged, Premises}
use Rattle.domain.specs.Premises as premises
use Rattle.domain.specs.Vouched.{Voucher, Vouched}
use Rattle.domain.proofs.View.{domain_of, share_said, acknowledgement_said, said, messages, rule_in, view, seen}
use Rattle.domain.proofs.Agreed.{laws}
use Rattle.domain.proofs.Reached.{Begun, Reached, ranged, start_view, call_seen, call_reached, run-keeps}
use Rattle.domain.proofs.Wrote.{latest, logged, Named, start_named, named_after}
use Rattle.domain.proofs.Numbers.{made_of, share-made}

never : {C : Type 0} → ◌≡◌ {A = ℕ} 0 1 → C
never e = absurd (omega arith)

-- one call more
wrote_more : {log : List Done} {c s : ℕ} {bytes : List ℕ} (d : Done) → ControllerWrote log c s bytes
    → ControllerWrote (d ∷ log) c s bytes
wrote_more d (premises.by_controller h) = premises.by_controller (Memᴰ.tail h)

-- a share among the messages was written
module _ (c s k : ℕ) (rule : Rule) where
  abbrev this : protocol-worlds.Message Rule
  this = protocol-worlds.share c s k rule

  abbrev Among : List (protocol-worlds.Message Rule) → Type 0
  Among l = Memᴰ this l

  record Written (log : List Done) : Type 0 where
    bytes : List ℕ
    wrote : ControllerWrote log c s bytes
    from : ℕ
    to : ℕ
    read : decode ends.Switch bytes ≡ Share from to k rule

  by_acknowledgement : (i j : ℕ) (m : Message) (l : List (protocol-worlds.Message Rule))
      → Among (acknowledgement_said i j m l) → Among l
  by_acknowledgement i j (Acknowledgement a b n) l h = ⊎_elim (λ e. never cc) (λ t. t) (Memᴰ.cases_cons h)
  by_acknowledgement i j (Event a b n x) l h = h
  by_acknowledgement i j (Share a b n r) l h = h
  by_acknowledgement i j (Refused q) l h = h

  by_share : (i j : ℕ) (m : Message) (l : List (protocol-worlds.Message Rule)) → Among (share_said i j m l)
      → Among l ⊎ ((i ≡ c) × (j ≡ s) × (a : ℕ) × (b : ℕ) × (m ≡ Share a b k rule))
  by_share i j (Share a b n r) l h =
      ⊎_elim
      (λ e.
      let controller : i ≡ c = cc in
      let switch : j ≡ s = cc in
      let number : n ≡ k = cc in
      let same : r ≡ rule = cc in
      inr (controller, switch, a, b, λ q. Share a b (number q) (same q))) inl (Memᴰ.cases_cons h)
  by_share i j (Event a b n x) l h = inl h
  by_share i j (Acknowledgement a b n) l h = inl h
  by_share i j (Refused q) l h = inl h

  by_call : (log : List Done) (answer : ℕ) (x : Call) (bytes : List ℕ) (l : List (protocol-worlds.Message Rule))
      → Among (said answer x bytes l)
      → Among l ⊎ Written (record { call = x; answer = answer; written = bytes } ∷ log)
  by_call log answer (at_switch i (receives x)) bytes l h = inl h
  by_call log answer (at_switch i (writes kind j frame at)) bytes l h =
      inl (by_bool (eqb answer 0) (λ e. by_acknowledgement i j (decode ends.Controller bytes) l (rw e at h))
      (λ e. rw e at h))
  by_call log answer (at_switch i (manages m)) bytes l h = inl h
  by_call log answer (at_controller i (controller-calls.receives x)) bytes l h = inl h
  by_call log answer (at_controller i (controller-calls.manages m)) bytes l h = inl h
  by_call log answer (at_controller i (writes_share j frame at)) bytes l h =
      by_bool (eqb answer 0)
      (λ e. ⊎_elim inl
      (λ r. inr (record {
        bytes = bytes;
        wrote = premises.by_controller {frame = frame} {at = at} (Memᴰ.head (λ q. record {
          call = at_controller (sym r.0 q) (writes_share (sym r.1 q) frame at);
          answer = sym (eqb-true answer 0 e) q;
          written = bytes;
        }));
        from = r.2;
        to = r.3;
        read = r.4;
      }))
      (by_share i j (decode ends.Switch bytes) l (rw e at h)))
      (λ e. inl (rw e at h))

  written_so : (log : List Done) → Among (messages log) → Written log
  unfolding messages
  written_so [] h = absurd (Memᴰ.not-nil h)
  written_so (d ∷ log) h =
      ⊎_elim
      (λ t.
      let w = written_so log t in
      record { bytes = w.bytes; wrote = wrote_more d w.wrote; from = w.from; to = w.to; read = w.read })
      (λ w. w) (by_call log d.answer d.call d.written (messages log) h)

-- what names a controller and a switch, read as a share
names_both : {c s : ℕ} {m : Message} → FromController c s m → {i t k : ℕ} {rule : Rule} → m ≡ Share i t k rule
    → m ≡ Share c s k rule
names_both {c} {s} (premises.share {number} {rule}) {k = k} {rule = r} e =
    let one : number ≡ k = cc in
    let two : rule ≡ r = cc in
    λ q. Share c s (one q) (two q)

module _ (S : Setting) (v : Valid S) where
  abbrev D : protocol.Domain Rule Table
  D = domain_of S

  record Kept (r : Run) : Type 0 where
    seen : protocol-vouched.Vouched D (view r)
    named : Named S r.log
    vouched : Vouched S r.log

  module _ (r : Run) (R : Reached S r) (x : Call) (h : InRun S r x) (honest : Unforged S r x)
      (begun : Begun S (step S r x)) (K : Kept r) where
    seen_after : protocol-vouched.Vouched D (view (step S r x))
    seen_after =
        let s = call_seen S v r R x h honest begun in
        subst (protocol-vouched.Vouched D) (sym s.is)
        (call_vouched D (laws S v (ranged S v)) (view r) R.invariant K.seen (seen S r x) s.allowed)

    -- a share answered 1 by this very call
    module _ (s : ℕ) (bytes written : List ℕ)
        (is : record { call = at_switch s (receives bytes); answer = 1; written = written } ≡ latest S r x) where
      there : Memᴰ (record { call = at_switch s (receives bytes); answer = 1; written = written }) (step S r x).log
      there = rw (logged S r x) (Memᴰ.head is)

      -- what a controller wrote it wrote before
      before : {c t : ℕ} {own : List ℕ} → ControllerWrote (step S r x).log c t own → ControllerWrote r.log c t own
      before {c} {t} (premises.by_controller {frame} {at} m) =
          ⊎_elim
          (λ e.
          let other : at_controller c (writes_share t frame at) ≡ at_switch s (receives bytes) =
          ap (λ (d : Done). d.call) (e ∙ sym is) in
          never cc)
          (λ t. premises.by_controller t) (Memᴰ.cases_cons (rw (logged S r x) at m))

      voucher : Voucher S r.log s bytes
      voucher =
          let read = (call_reached S v r R x h honest begun).read s bytes written there in
          let by = seen_after.by (made_of s bytes) (share-made s bytes written (step S r x).log there) in
          let c = by.controller in
          let keeps : Keeps S c = (by.known, by.keeps) in
          let w = written_so c s _ _ (step S r x).log by.wrote in
          let wrote = before w.wrote in
          let number : field bytes number_at 4 ≡ read.1 = share-number bytes read.3 in
          let rule : rule_in (decode ends.Switch bytes) ≡ read.2 = ap rule_in read.3 in
          record {
            sender = read.0;
            number = read.1;
            rule = read.2;
            arrived = read.3;
            controller = c;
            keeps = keeps;
            own = w.bytes;
            wrote = wrote;
            same = names_both (K.named.shares c s w.bytes keeps wrote) w.read
                ∙ (λ i. Share c s (number i) (rule i));
          }

    vouched_after : Vouched S (step S r x).log
    vouched_after [] earlier s bytes written e =
        let both = sym e ∙ logged S r x in
        let is : record { call = at_switch s (receives bytes); answer = 1; written = written } ≡ latest S r x = cc in
        let past : r.log ≡ earlier = cc in
        subst (λ (l : List Done). Voucher S l s bytes) past (voucher s bytes written is)
    vouched_after (l ∷ later) earlier s bytes written e =
        let both = sym (logged S r x) ∙ e in
        let past : r.log ≡ later ++ record { call = at_switch s (receives bytes); answer = 1; written = written } ∷ earlier =
        cc in
        K.vouched later earlier s bytes written past

    kept : Kept (step S r x)
    kept = record { seen = seen_after; named = named_after S r R K.named x; vouched = vouched_after }

  none_answered : Vouched S []
  none_answered [] earlier s bytes written e = never cc
  none_answered (l ∷ later) earlier s bytes written e = never cc

  pub run_vouched : (calls : List Call) → Premises S calls → Vouched S (run (step S) (start S) calls).log
  run_vouched calls p =
      (run-keeps S v Kept kept (record {
        seen = subst (protocol-vouched.Vouched D) (sym (start_view S v)) (start_vouched D);
        named = start_named S;
        vouched = none_answered;
      }) calls p).vouched
