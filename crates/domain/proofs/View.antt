-- A setting as a domain of the protocol, a run as a world of it, and a call of the run as the protocol's. Here nothing
-- is claimed.
use mathlib.Core.Path.{◌≡◌}
use mathlib.Core.Bool.{Bool, true, ◌&&◌}
use mathlib.Core.List.{List, [], ◌∷◌}
use Prim.Native.Nat.{ℕ}
use lib.Dec.{ltb, eqb}
use lib.ListN.{length}
use Rattle.answer.specs.Ask.{pick}
use Rattle.lists.specs.Bytes.{field}
use Rattle.flow.specs.Rules.{same_rule, well_formed, empty_rule}
use Rattle.flow.specs.Tables.{entries_of, table_of}
use Rattle.flow.specs.Changes.{changed, room_for}
use Rattle.flow.specs.declared.Rule.{Rule}
use Rattle.flow.specs.declared.Table.{Table}
use Rattle.message.specs.Keys.{key_at}
use Rattle.message.specs.Layout.{number_at}
use Rattle.message.specs.Reading.{decode, is_sealed}
use Rattle.message.specs.declared.End.TheVariants as ends
use Rattle.message.specs.declared.Message.{Message}
use Rattle.message.specs.declared.Message.TheVariants.{Event, Share, Acknowledgement, Refused}
use Rattle.switch.specs.Slots.{quorum_of}
use Rattle.switch.specs.Shares.{slot_of}
use Rattle.switch.specs.Writing.{message_for, message_written}
use Rattle.switch.specs.Calls.{receives, writes, manages}
use Rattle.switch.specs.declared.Reply.{Reply}
use Rattle.switch.specs.declared.Slot.{Slot}
use Rattle.switch.specs.declared.Switch.{Switch}
use Rattle.controller.specs.Acknowledgements.{acknowledged_of}
use Rattle.controller.specs.Readiness.{related}
use Rattle.controller.specs.Decisions.{decided_by}
use Rattle.controller.specs.Writing.{share_for, share_written}
use Rattle.controller.specs.Calls as controller-calls
use Rattle.controller.specs.declared.Controller.{Controller}
use Rattle.protocol.proofs.Ends as protocol
use Rattle.protocol.proofs.Worlds as protocol-worlds
use Rattle.protocol.proofs.Worlds.{World}
use Rattle.domain.specs.Settings.{Setting, switch_keys, controller_keys}
use Rattle.domain.specs.Calls.{Call, at_switch, at_controller, Done, Run, step}
use Rattle.domain.specs.Ideals.{change_of}
use Rattle.domain.specs.Claim.{agreed}

-- the agreed changes by number, rules as contents, flow tables as tables, every controller a member
abbrev pub domain_of : Setting → protocol.Domain Rule Table
domain_of S = record {
  controllers = S.n;
  strays = S.strays;
  total = length (agreed S);
  switch = λ k. (change_of (agreed S) k).switch;
  content = λ k. (change_of (agreed S) k).rule;
  waits = λ k j. ltb 0 j && ltb j k && related (change_of (agreed S) k) (change_of (agreed S) j);
  same = same_rule;
  none = empty_rule;
  empty = table_of [];
  apply = changed;
  room = λ r t. room_for r (entries_of t);
  member = λ t c. true;
  quorum = λ t. quorum_of S.n;
}

-- the states of the ends
abbrev pub view_slot : Slot → protocol.Slot Rule
view_slot slot = record { number = slot.number; content = slot.rule }

abbrev pub view_switch : Switch → protocol.Switch Rule Table
view_switch s = record { last = s.last; table = s.table; slots = λ c. view_slot (slot_of s c) }

abbrev pub view_reply : Reply → protocol.Reply Rule Table
view_reply r = record { answer = r.answer; state = view_switch r.state }

abbrev pub view_controller : Controller → protocol.Controller
view_controller c = record { last = c.progress.last; acknowledged = λ s. acknowledged_of c s }

-- what was written, before what was written earlier
abbrev pub share_said : ℕ → ℕ → Message → List (protocol-worlds.Message Rule) → List (protocol-worlds.Message Rule)
share_said c s (Share i t k rule) l = protocol-worlds.share c s k rule ∷ l
share_said c s (Event i t k x) l = l
share_said c s (Acknowledgement i t k) l = l
share_said c s (Refused k) l = l

abbrev pub acknowledgement_said : ℕ → ℕ → Message → List (protocol-worlds.Message Rule)
    → List (protocol-worlds.Message Rule)
acknowledgement_said s c (Acknowledgement i t k) l = protocol-worlds.acknowledgement s c k ∷ l
acknowledgement_said s c (Event i t k x) l = l
acknowledgement_said s c (Share i t k rule) l = l
acknowledgement_said s c (Refused k) l = l

abbrev pub said : ℕ → Call → List ℕ → List (protocol-worlds.Message Rule) → List (protocol-worlds.Message Rule)
said answer (at_switch s (receives x)) bytes l = l
said answer (at_switch s (writes kind c frame at)) bytes l =
    pick (eqb answer 0) (acknowledgement_said s c (decode ends.Controller bytes) l) l
said answer (at_switch s (manages m)) bytes l = l
said answer (at_controller c (controller-calls.receives x)) bytes l = l
said answer (at_controller c (controller-calls.writes_share s frame at)) bytes l =
    pick (eqb answer 0) (share_said c s (decode ends.Switch bytes) l) l
said answer (at_controller c (controller-calls.manages m)) bytes l = l

unfoldable pub messages : List Done → List (protocol-worlds.Message Rule)
messages [] = []
messages (d ∷ log) = said d.answer d.call d.written (messages log)

-- the shares answered 1
abbrev pub rule_in : Message → Rule
rule_in (Share c s k rule) = rule
rule_in (Event s c k x) = empty_rule
rule_in (Acknowledgement s c k) = empty_rule
rule_in (Refused k) = empty_rule

abbrev pub made_in : ℕ → Call → List (protocol-worlds.Made Rule) → List (protocol-worlds.Made Rule)
made_in answer (at_switch s (receives bytes)) l =
    pick (eqb answer 1)
    (record { switch = s; number = field bytes number_at 4; content = rule_in (decode ends.Switch bytes) } ∷ l) l
made_in answer (at_switch s (writes kind c frame at)) l = l
made_in answer (at_switch s (manages m)) l = l
made_in answer (at_controller c x) l = l

unfoldable pub made_so : List Done → List (protocol-worlds.Made Rule)
made_so [] = []
made_so (d ∷ log) = made_in d.answer d.call (made_so log)

abbrev pub view : Run → World Rule Table
view r = record {
  switches = λ s. view_switch (r.switches s);
  controllers = λ c. view_controller (r.controllers c);
  written = messages r.log;
  made = made_so r.log;
}

-- whether a message that names this sender and receiver passes 12, 13 and 14 at the end with an id, where so many
-- senders are known
abbrev pub is_from : ℕ → ℕ → List ℕ → List ℕ → ℕ → ℕ → Bool
is_from all id keys bytes sender receiver =
    ltb sender all && eqb receiver id && is_sealed (key_at keys sender) bytes

-- what the protocol sees of a share that arrived, of an acknowledgement that did, of what a switch wrote for a
-- controller, and of a ready change's share
abbrev pub share_seen : Setting → ℕ → List ℕ → Message → protocol-worlds.Call Rule
share_seen S s bytes (Share c to k rule) =
    pick (is_from S.n s (switch_keys S s) bytes c to && well_formed rule)
    (protocol-worlds.takes_share s c k rule) protocol-worlds.other
share_seen S s bytes (Event i t k x) = protocol-worlds.other
share_seen S s bytes (Acknowledgement i t k) = protocol-worlds.other
share_seen S s bytes (Refused k) = protocol-worlds.other

abbrev pub acknowledgement_seen : Setting → ℕ → List ℕ → Message → protocol-worlds.Call Rule
acknowledgement_seen S c bytes (Acknowledgement s to k) =
    pick (is_from 16 c (controller_keys S c) bytes s to)
    (protocol-worlds.takes_acknowledgement c s k) protocol-worlds.other
acknowledgement_seen S c bytes (Event i t k x) = protocol-worlds.other
acknowledgement_seen S c bytes (Share i t k rule) = protocol-worlds.other
acknowledgement_seen S c bytes (Refused k) = protocol-worlds.other

abbrev pub written_seen : ℕ → ℕ → Message → protocol-worlds.Call Rule
written_seen s c (Acknowledgement i t k) = protocol-worlds.writes_acknowledgement s c
written_seen s c (Event i t k x) = protocol-worlds.other
written_seen s c (Share i t k rule) = protocol-worlds.other
written_seen s c (Refused k) = protocol-worlds.other

abbrev pub ready_seen : ℕ → Message → protocol-worlds.Call Rule
ready_seen c (Share i t k rule) = protocol-worlds.writes_share c k
ready_seen c (Event i t k x) = protocol-worlds.other
ready_seen c (Acknowledgement i t k) = protocol-worlds.other
ready_seen c (Refused k) = protocol-worlds.other

module _ (S : Setting) where
  -- the protocol's call
  unfoldable pub seen : Run → Call → protocol-worlds.Call Rule
  seen r (at_switch s (receives bytes)) = share_seen S s bytes (decode ends.Switch bytes)
  seen r (at_switch s (writes kind c frame at)) =
      pick (eqb (message_written kind (r.switches s) (switch_keys S s) c frame at).0.answer 0)
      (written_seen s c (message_for kind (r.switches s) c)) protocol-worlds.other
  seen r (at_switch s (manages m)) = protocol-worlds.other
  seen r (at_controller c (controller-calls.receives bytes)) =
      acknowledgement_seen S c bytes (decode ends.Controller bytes)
  seen r (at_controller c (controller-calls.writes_share s frame at)) =
      pick (eqb (share_written (r.controllers c) (controller_keys S c) s frame at).0.answer 0)
      (ready_seen c (share_for (r.controllers c) s)) protocol-worlds.other
  seen r (at_controller c (controller-calls.manages (controller-calls.decides s serial cause))) =
      protocol-worlds.decides c (decided_by (r.controllers c) s serial cause).state.progress.last

-- a call is the protocol's, and one that is allowed there
pub record Seen (S : Setting) (r : Run) (x : Call) : Type 0 where
  pub is : view (step S r x) ≡ protocol-worlds.step (domain_of S) (view r) (seen S r x)
  pub allowed : protocol-worlds.Allowed (domain_of S) (view r) (seen S r x)
