-- `put` meets its contract, kind by kind: a body, and then its tag. Assumes nothing.
use mathlib.Core.Path.{refl}
use Prim.Native.Nat.{◌≤◌}
use native.Mathlib.Omega.{arith}
use lib.ListN.{length}
use Rattle.message.specs.Layout.{event_body, share_body, acknowledgement_body}
use Rattle.message.specs.Layout.{event_length, share_length, acknowledgement_length}
use Rattle.message.proofs.Frames.{message_stored}
use Rattle.message.proofs.writing.put.Goals as goal

pub put_event-requires : goal.put_event-requires
put_event-requires c =
    let event-room : event_length ≤ length c.args.part.now = rw c.in-Event.is at c.requires in
    omega (arith, event-room)

pub seal-requires : goal.seal-requires
seal-requires c =
    let event-room : event_length ≤ length c.args.part.now = rw c.in-Event.is at c.requires in
    omega (arith, event-room)

pub put_share-requires : goal.put_share-requires
put_share-requires c =
    let share-room : share_length ≤ length c.args.part.now = rw c.in-Share.is at c.requires in
    omega (arith, share-room)

pub seal-requires-in-Share : goal.seal-requires-in-Share
seal-requires-in-Share c =
    let share-room : share_length ≤ length c.args.part.now = rw c.in-Share.is at c.requires in
    omega (arith, share-room)

pub put_acknowledgement-requires : goal.put_acknowledgement-requires
put_acknowledgement-requires c =
    let acknowledgement-room : acknowledgement_length ≤ length c.args.part.now = rw c.in-Acknowledgement.is at c.requires in
    omega (arith, acknowledgement-room)

pub seal-requires-in-Acknowledgement : goal.seal-requires-in-Acknowledgement
seal-requires-in-Acknowledgement c =
    let acknowledgement-room : acknowledgement_length ≤ length c.args.part.now = rw c.in-Acknowledgement.is at c.requires in
    omega (arith, acknowledgement-room)

pub returns-in-Event : goal.returns-in-Event
returns-in-Event c = message_stored c.args.part.now _ event_body c.in-Event.is refl refl c.requires c.put_event.ensures
    c.seal.ensures

pub returns-in-Share : goal.returns-in-Share
returns-in-Share c = message_stored c.args.part.now _ share_body c.in-Share.is refl refl c.requires c.put_share.ensures
    c.seal-in-Share.ensures

pub returns-in-Acknowledgement : goal.returns-in-Acknowledgement
returns-in-Acknowledgement c = message_stored c.args.part.now _ acknowledgement_body c.in-Acknowledgement.is refl refl c.requires
    c.put_acknowledgement.ensures c.seal-in-Acknowledgement.ensures

pub returns-in-Refused : goal.returns-in-Refused
returns-in-Refused c = rw c.in-Refused.is
