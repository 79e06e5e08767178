-- What one record does to the controller, the switch and the place that it names (document 01, "Rehearsal program"), by
-- the ends' own definitions: a share or an acknowledgement is made in a frame of its own, which alters no state, and
-- delivered.
use Rattle.std.specs.Prelude.{ℕ, List, [], Result, Ok, Err, length, replicate, drop, eqb}
use Rattle.answer.specs.Ask.{pick}
use Rattle.message.specs.Keys.{key_at}
use Rattle.message.specs.Layout.{acknowledgement_length}
use Rattle.message.specs.Writing.{encode}
use Rattle.switch.specs.States as switches
use Rattle.switch.specs.Receiving as switch-receives
use Rattle.switch.specs.Writing.{acknowledgement_written}
use Rattle.switch.specs.declared.Reply as switch
use Rattle.switch.specs.declared.Switch.{Switch}
use Rattle.controller.specs.Changes.{undone_of}
use Rattle.controller.specs.States as controllers
use Rattle.controller.specs.Receiving as controller-receives
use Rattle.controller.specs.Decisions.{decided_by}
use Rattle.controller.specs.Writing.{share_for, share_written}
use Rattle.controller.specs.declared.Reply as controller
use Rattle.controller.specs.declared.Controller.{Controller}
use Rattle.rehearsal.specs.Worlds.{switch_keys, controller_keys, longest_share, stored, bytes_of}
use Rattle.rehearsal.specs.declared.Kind.{Kind}
use Rattle.rehearsal.specs.declared.Kind.TheVariants.{Decide, Send, Report, Raw, Keep, Deliver}
use Rattle.rehearsal.specs.declared.Moved.{Moved}
use Rattle.rehearsal.specs.declared.Place.{Place}
use Rattle.rehearsal.specs.declared.Record.{Record}
use Rattle.rehearsal.specs.declared.Share.{Share}

-- bytes delivered to the switch with a number
abbrev pub delivered : ℕ → Switch → ℕ → List ℕ → switch.Reply
delivered n s to bytes = switch-receives.received_by s (switch_keys n to) bytes

-- the current share of the controller with a number, for a switch: the bytes of its message, where writing it into a
-- frame with room for the longest share is answered 0, and else that answer
unfoldable pub share_made : Controller → ℕ → ℕ → Result Share ℕ
share_made c from to =
    let keys = controller_keys from in
    let k = (share_written c keys to (replicate longest_share 0) 0).0.answer in
    pick (eqb k 0) (Ok (stored (encode (key_at keys to) (share_for c to)))) (Err k)

-- the number that answers the making of a share, and the share; one that was not made has no bytes
abbrev pub answer_of : Result Share ℕ → ℕ
answer_of (Ok share) = 0
answer_of (Err k) = k

abbrev pub share_of : Result Share ℕ → Share
share_of (Ok share) = share
share_of (Err k) = stored []

-- send: the share that was made is delivered
abbrev pub arrives : ℕ → Switch → ℕ → Result Share ℕ → switch.Reply
arrives n s to (Ok share) = delivered n s to (bytes_of share)
arrives n s to (Err k) = switches.unchanged s k

unfoldable pub sent : ℕ → Controller → Switch → ℕ → ℕ → switch.Reply
sent n c s from to = arrives n s to (share_made c from to)

-- report: the same for the acknowledgement
unfoldable pub reported : ℕ → Switch → Controller → ℕ → ℕ → controller.Reply
reported n s c from to =
    let w = acknowledgement_written s (switch_keys n from) to (replicate acknowledgement_length 0) 0 in
    pick (eqb w.0.answer 0) (controller-receives.received_by c (controller_keys to) w.1)
    (controllers.unchanged c w.0.answer)

-- keep: the share that was made is stored; a refused one alters no place
abbrev pub kept : Result Share ℕ → ℕ → Place → Place
kept (Ok share) to p = record { switch = to; share = share }
kept (Err k) to p = p

module _ (c : Controller) (s : Switch) (p : Place) where
  -- the controller replied: the figure is how many changes it has undone
  abbrev pub by_controller : controller.Reply → Moved
  by_controller r = record {
    answer = r.answer;
    figure = length (undone_of r.state);
    controller = r.state;
    switch = s;
    place = p;
  }

  -- the switch replied: the figure is its last applied number
  abbrev pub by_switch : switch.Reply → Moved
  by_switch r = record {
    answer = r.answer;
    figure = r.state.last;
    controller = c;
    switch = r.state;
    place = p;
  }

  -- a share was made for the place
  abbrev pub by_place : Result Share ℕ → ℕ → Moved
  by_place m to = record {
    answer = answer_of m;
    figure = s.last;
    controller = c;
    switch = s;
    place = kept m to p;
  }

  -- a record carried out, with its bytes and what it names
  unfoldable pub carried_out : ℕ → Kind → Record → List ℕ → Moved
  carried_out n Decide r bytes = by_controller (decided_by c r.switch r.serial r.cause)
  carried_out n Send r bytes = by_switch (sent n c s r.controller r.switch)
  carried_out n Report r bytes = by_controller (reported n s c r.switch r.controller)
  carried_out n Raw r bytes = by_switch (delivered n s r.switch (drop 2 bytes))
  carried_out n Keep r bytes = by_place (share_made c r.controller r.switch) r.switch
  carried_out n Deliver r bytes = by_switch (delivered n s p.switch (bytes_of p.share))
