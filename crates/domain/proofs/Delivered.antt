-- What an end would write now, once it is delivered, is what the protocol takes: the acknowledgement of a switch always
-- there, and the share of a change that is ready in the protocol.
use mathlib.Core.Path.{◌≡◌, refl, sym, ap, ◌∙◌}
use mathlib.Core.Bool.{true}
use mathlib.Core.List.{List, ◌++◌}
use Prim.Native.Nat.{ℕ, ◌+◌, ◌*◌, ◌^◌, ◌≤◌, ◌<◌}
use native.Mathlib.Omega.{arith}
use lib.ListN.{length}
use borrow.Author.Tests.{lt-ltb, le-leb, eq-eqb}
use Rattle.answer.specs.Ask.{reply}
use Rattle.answer.proofs.Bools.{and_join, and_parts}
use Rattle.flow.specs.Rules.{rule_key, prefix_ok, port_ok}
use Rattle.flow.specs.declared.Rule.{Rule}
use Rattle.flow.specs.declared.Table.{Table}
use Rattle.message.specs.Keys.{key_length, key_at}
use Rattle.message.specs.Layout.{acknowledgement_length}
use Rattle.message.specs.Reading.{decode, is_sealed}
use Rattle.message.specs.Writing.{encode, is_message}
use Rattle.message.specs.declared.End.TheVariants as ends
use Rattle.message.specs.declared.Message.TheVariants.{Share, Acknowledgement}
use Rattle.playbook.specs.Printing.{InRange}
use Rattle.switch.specs.Calls as switch-calls
use Rattle.switch.specs.Writing.{written, acknowledgement_written}
use Rattle.switch.specs.declared.Switch.{Switch}
use Rattle.controller.specs.Changes.{undone_of}
use Rattle.controller.specs.Calls as controller-calls
use Rattle.controller.specs.declared.Controller.{Controller}
use Rattle.controller.specs.declared.Undone.{Undone}
use Rattle.controller.proofs.Waiting.{Readied, ready_found}
use Rattle.controller.proofs.Within.{within}
use Rattle.protocol.proofs.Ends as protocol
use Rattle.protocol.proofs.Worlds as protocol-worlds
use Rattle.domain.specs.Settings.{Decision, Setting, Valid, playbook, switch_keys, controller_keys}
use Rattle.domain.specs.Calls.{at_switch, at_controller, Run}
use Rattle.domain.specs.Ideals.{change_of}
use Rattle.domain.specs.Claim.{agreed}
use Rattle.domain.specs.Rounds.{acknowledgement_now, share_now}
use Rattle.domain.proofs.Courses.{Fine, agreed-few}
use Rattle.domain.proofs.View.{domain_of, view_controller, is_from, seen}
use Rattle.message.proofs.Inverse.{decode-encode, encode-sealed}
use Rattle.message.proofs.Stores.{joined_length, joined_at}
use Rattle.domain.proofs.Agreed.{change-fine}
use Rattle.domain.proofs.Undone.{given-few, ready_readied}
use Rattle.domain.proofs.Ends.{SwitchFine, ControllerFine}

-- a message that passes the questions of its sender
from_is : (all id : ℕ) (keys bytes : List ℕ) (sender : ℕ) → sender < all → is_sealed (key_at keys sender) bytes ≡ true
    → is_from all id keys bytes sender id ≡ true
from_is all id keys bytes sender known sealed =
    and_join _ _ (and_join _ _ (lt-ltb sender all known) (eq-eqb id id refl)) sealed

module _ (S : Setting) (v : Valid S) where
  abbrev D : protocol.Domain Rule Table
  D = domain_of S

  -- the two ends of a pair have the same key
  pub switch-key : (s c : ℕ) → s < 16 → c < S.n → key_at (switch_keys S s) c ≡ S.key c s
  switch-key s c l known = joined_at (λ i. S.key i s) S.n (λ i m. v.keys i m s l) c known

  pub controller-key : (c s : ℕ) → c < S.n → s < 16 → key_at (controller_keys S c) s ≡ S.key c s
  controller-key c s known l = joined_at (S.key c) 16 (v.keys c known) s l

  -- an acknowledgement: its switch writes it wherever it fits, and its controller takes it
  module _ (r : Run) (s c : ℕ) (l : s < 16) (known : c < S.n) (f : SwitchFine S s (r.switches s)) where
    abbrev t : Switch
    t = r.switches s

    pub acknowledgement-answered : (frame : List ℕ) (at : ℕ) → at + acknowledgement_length ≤ length frame
        → (acknowledgement_written t (switch_keys S s) c frame at).0.answer ≡ 0
    unfolding written reply
    acknowledgement-answered frame at fits =
        let store = joined_length (λ i. S.key i s) S.n (λ i m. v.keys i m s l)
        ∙ ap (λ (n : ℕ). key_length * n) (sym f.n) in
        rw (f.ok, eq-eqb _ _ store, lt-ltb c t.n (rw f.n known), le-leb (at + acknowledgement_length) (length frame) fits)

    pub acknowledgement-delivered : t.last < 256 ^ 4 → (u : Run)
        → seen S u (at_controller c (controller-calls.receives (encode (S.key c s) (acknowledgement_now r s c))))
        ≡ protocol-worlds.takes_acknowledgement c s t.last
    unfolding seen
    acknowledgement-delivered small u =
        let m = acknowledgement_now r s c in
        let bytes = encode (S.key c s) m in
        let read : decode ends.Controller bytes ≡ Acknowledgement s c t.last =
        decode-encode (S.key c s) m small refl ∙ ap (λ (i : ℕ). Acknowledgement i c t.last) f.id in
        let sealed : is_sealed (key_at (controller_keys S c) s) bytes ≡ true =
        rw (controller-key c s known l) (encode-sealed (S.key c s) m refl) in
        rw (read, from_is 16 c (controller_keys S c) bytes s l sealed)

  -- a share of a change that is ready in the protocol
  module _ (r : Run) (c : ℕ) (known : c < S.n) (ranged : InRange (playbook S)) (ds rest : List Decision)
      (begins : S.agreed ≡ ds ++ rest) (f : ControllerFine S c ds (r.controllers c)) (k : ℕ)
      (ready : protocol-worlds.Ready D (view_controller (r.controllers c)) k) where
    abbrev b : Controller
    b = r.controllers c

    abbrev u : Undone
    u = change_of (agreed S) k

    is_agreed_lem : protocol-worlds.Agreed D k
    is_agreed_lem =
        (ready.positive, omega (arith, ready.given, given-few S c ds rest begins b f))

    fine : Fine (playbook S) k u
    fine = change-fine S v ranged k is_agreed_lem

    readied : Readied u.switch (undone_of b) u
    readied = ready_readied S v ranged c ds rest begins b f k ready

    -- is there, and its switch takes it
    pub share-there : is_message (share_now r c u.switch) ≡ true
    share-there = rw (ready_found (undone_of b) (within b f.ok).rising u.switch u readied)

    share_is : share_now r c u.switch ≡ Share b.id u.switch u.number u.rule
    share_is = rw (ready_found (undone_of b) (within b f.ok).rising u.switch u readied)

    pub share-read : decode ends.Switch (encode (S.key c u.switch) (share_now r c u.switch))
        ≡ Share c u.switch k u.rule
    share-read =
        let s = u.switch in
        let key = S.key c s in
        let m = Share b.id s u.number u.rule in
        let few = agreed-few (playbook S) S.agreed in
        let n = fine.numbered in
        let port = (and_parts (prefix_ok (rule_key u.rule)) (port_ok u.rule.action) fine.formed).1 in
        ap (λ x. decode ends.Switch (encode key x)) share_is
        ∙ decode-encode key m (omega (arith, is_agreed_lem.1), fine.in-range.0, fine.in-range.1) port
        ∙ (λ i. Share (f.id i) s (n i) u.rule)

    pub share-delivered : (w : Run)
        → seen S w (at_switch u.switch (switch-calls.receives
        (encode (S.key c u.switch) (share_now r c u.switch))))
        ≡ protocol-worlds.takes_share u.switch c k u.rule
    unfolding seen
    share-delivered w =
        let s = u.switch in
        let key = S.key c s in
        let m = share_now r c s in
        let sealed : is_sealed (key_at (switch_keys S s) c) (encode key m) ≡ true =
        rw (switch-key s c fine.known known) (encode-sealed key m share-there) in
        rw (share-read, from_is S.n s (switch_keys S s) (encode key m) c known sealed, fine.formed)
