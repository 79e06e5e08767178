-- For tellers: what each record did beside its line, and the same with one controller's shares dropped (document 02,
-- N9). What the lines mean is in Scripts.antt and rests on nothing here; where nobody's shares are dropped the deeds have
-- these lines (`told_lines`, proofs/Telling.antt).
use Rattle.std.specs.Prelude.{ℕ, zero, suc, ◌+◌, ◌-◌, Bool, true, false, not, ◌&&◌, List, [], ◌∷◌, length, take, drop, get_or, ltb, eqb}
use Rattle.std.specs.Prelude.{Option, Some, None, Result, Ok, Err}
use Rattle.std.specs.Int.Count.{ones}
use Rattle.answer.specs.Ask.{pick, reply}
use Rattle.lists.specs.Arrays.{pad}
use Rattle.lists.specs.Bytes.{byte_at}
use Rattle.message.specs.Layout.{sender_at}
use Rattle.message.specs.Reading.{decode}
use Rattle.message.specs.declared.End.TheVariants as ends
use Rattle.message.specs.declared.Message.{Message}
use Rattle.message.specs.declared.Message.TheVariants as messages
use Rattle.playbook.specs.Books.{no_plans, store_of}
use Rattle.switch.specs.Slots.{slot_for, empty_slot, agreeing}
use Rattle.switch.specs.States as switches
use Rattle.switch.specs.declared.Reply as switch
use Rattle.switch.specs.declared.Slot.{Slot}
use Rattle.switch.specs.declared.Switch.{Switch}
use Rattle.controller.specs.Awaiting.{first_on, first_awaited}
use Rattle.controller.specs.Changes.{undone_of}
use Rattle.controller.specs.Decisions.{decided_by}
use Rattle.controller.specs.declared.Controller.{Controller}
use Rattle.controller.specs.declared.Undone.{Undone}
use Rattle.rehearsal.specs.Limits.{most_lines}
use Rattle.rehearsal.specs.Worlds.{stored, bytes_of, world_of}
use Rattle.rehearsal.specs.Records.{size_of, naming, record_at}
use Rattle.rehearsal.specs.Steps.{delivered, share_made, answer_of, share_of, reported, by_controller, by_switch, by_place}
use Rattle.rehearsal.specs.Effects.{no_switch, no_controller, place_of, switch_of, record_questions, with_ends}
use Rattle.rehearsal.specs.Scripts.{line_of, script_in, input_questions, world_in}
use Rattle.rehearsal.specs.declared.Deed.{Deed}
use Rattle.rehearsal.specs.declared.Delay.{Delay}
use Rattle.rehearsal.specs.declared.Kind.{Kind}
use Rattle.rehearsal.specs.declared.Kind.TheVariants.{Decide, Send, Report, Raw, Keep, Deliver}
use Rattle.rehearsal.specs.declared.Line.{Line}
use Rattle.rehearsal.specs.declared.Moved.{Moved}
use Rattle.rehearsal.specs.declared.Place.{Place}
use Rattle.rehearsal.specs.declared.Record.{Record}
use Rattle.rehearsal.specs.declared.Share.{Share}
use Rattle.rehearsal.specs.declared.Told.{Told}
use Rattle.rehearsal.specs.declared.Wish.{Wish}
use Rattle.rehearsal.specs.declared.World.{World}

-- the share that a record makes, or has delivered; a decision and a report have none
unfoldable pub share_in : Controller → Place → Kind → Record → List ℕ → Result Share ℕ
share_in c p Decide r bytes = Ok (stored [])
share_in c p Send r bytes = share_made c r.controller r.switch
share_in c p Report r bytes = Ok (stored [])
share_in c p Raw r bytes = Ok (stored (drop 2 bytes))
share_in c p Keep r bytes = share_made c r.controller r.switch
share_in c p Deliver r bytes = Ok p.share

-- whether bytes on their way to a switch are dropped: a share's second byte names its sender
unfoldable pub drops : Option ℕ → List ℕ → Bool
drops None bytes = false
drops (Some c) bytes = ltb sender_at (length bytes) && eqb (byte_at bytes sender_at) c

-- a share that was made reaches a switch, or is dropped: then the switch stays, and the answer is 26, as of nothing sent
unfoldable pub arrived : Option ℕ → ℕ → Switch → ℕ → Result Share ℕ → switch.Reply
arrived d n s to (Err k) = switches.unchanged s k
arrived d n s to (Ok share) =
    reply ((26, not (drops d (bytes_of share))) ∷ []) (switches.unchanged s) (delivered n s to (bytes_of share))

-- a record carried out with its share, where some are dropped
unfoldable pub carried_but : Option ℕ → Controller → Switch → Place → ℕ → Kind → Record → Result Share ℕ → Moved
carried_but d c s p n Decide r m = by_controller c s p (decided_by c r.switch r.serial r.cause)
carried_but d c s p n Send r m = by_switch c s p (arrived d n s r.switch m)
carried_but d c s p n Report r m = by_controller c s p (reported n s c r.switch r.controller)
carried_but d c s p n Raw r m = by_switch c s p (arrived d n s r.switch m)
carried_but d c s p n Keep r m = by_place c s p m r.switch
carried_but d c s p n Deliver r m = by_switch c s p (arrived d n s p.switch m)

-- what a switch reads in bytes: a share's sender, number and rule
abbrev pub no_wish : Wish
no_wish = record { shared = false; sender = 0; slot = empty_slot }

abbrev pub wish_of : Message → Wish
wish_of (messages.Event s c n x) = no_wish
wish_of (messages.Share c s n r) = record { shared = true; sender = c; slot = slot_for n r }
wish_of (messages.Acknowledgement s c n) = no_wish
wish_of (messages.Refused k) = no_wish

abbrev pub wish_in : List ℕ → Wish
wish_in bytes = wish_of (decode ends.Switch bytes)

-- the controller that a record is about: the one that it names, or the sender of the share that arrives
abbrev pub controller_of : Kind → Record → Wish → ℕ
controller_of Decide r w = r.controller
controller_of Send r w = r.controller
controller_of Report r w = r.controller
controller_of Raw r w = w.sender
controller_of Keep r w = r.controller
controller_of Deliver r w = w.sender

-- how many slots hold a share; none holds what is no share
unfoldable pub agreeing_with : Wish → List Slot → ℕ
agreeing_with w slots = pick w.shared (ones (agreeing w.slot slots)) 0

-- why nothing was ready for a switch: its first change, and the first one that this waits for
abbrev pub no_delay : Delay
no_delay = record { waiting = 0; awaited = 0; switch = 0 }

abbrev pub delay_by : Undone → Undone → Delay
delay_by u v = record { waiting = u.number; awaited = v.number; switch = v.switch }

unfoldable pub delay_of : ℕ → List Undone → ℕ → Delay
delay_of answer us to =
    let u = first_on to us in
    pick (eqb answer 26) (delay_by u (first_awaited u us)) no_delay

-- a record that is refused before anything is made or delivered, and bytes that are none
unfoldable pub plain_deed : Bool → Record → ℕ → ℕ → Deed
plain_deed found r to q = record {
  found = found;
  item = r;
  begun = false;
  controller = r.controller;
  switch = to;
  answer = q;
  figure = 0;
  share = stored [];
  wish = no_wish;
  agreeing = 0;
  replaced = 0;
  numbers = 0;
  last = 0;
  delay = no_delay;
}

abbrev pub no_record : Record
no_record = naming Decide 0 0 0

abbrev pub broken_deed : ℕ → Deed
broken_deed q = plain_deed false no_record 0 q

-- a record that was carried out: the slots of its switch before and after it, the last numbers of its controller before
-- and after it
unfoldable pub begun_deed : Record → ℕ → ℕ → ℕ → Share → List Slot → List Slot → ℕ → ℕ → Delay → Deed
begun_deed r to answer figure share slots after before last delay =
    let w = wish_in (bytes_of share) in
    record {
      found = true;
      item = r;
      begun = true;
      controller = controller_of r.kind r w;
      switch = to;
      answer = answer;
      figure = figure;
      share = share;
      wish = w;
      agreeing = agreeing_with w after;
      replaced = (get_or slots (controller_of r.kind r w) empty_slot).number;
      numbers = last - before;
      last = last;
      delay = delay;
    }

-- the deed by a controller and a switch as they were before it, its share, and what it did
abbrev pub deed_by : Record → ℕ → Controller → Switch → Result Share ℕ → Moved → Deed
deed_by r to c s made m =
    begun_deed r to m.answer m.figure (share_of made) s.slots m.switch.slots c.progress.last
    m.controller.progress.last (delay_of (answer_of made) (undone_of c) to)

-- a record that passed its questions, in a world: the ends that it names, its share, what it did, and the world after it
abbrev pub controller_in : World → Record → Controller
controller_in w r = get_or w.controllers r.controller no_controller

abbrev pub switch_in : World → Record → Switch
switch_in w r = get_or w.switches (switch_of r.kind r (place_of w r)) no_switch

abbrev pub made_in : World → Record → List ℕ → Result Share ℕ
made_in w r bytes = share_in (controller_in w r) (place_of w r) r.kind r bytes

abbrev pub moved_in : Option ℕ → World → Record → List ℕ → Moved
moved_in d w r bytes =
    carried_but d (controller_in w r) (switch_in w r) (place_of w r) w.n r.kind r (made_in w r bytes)

abbrev pub deed_in : Option ℕ → World → Record → List ℕ → Deed
deed_in d w r bytes =
    deed_by r (switch_of r.kind r (place_of w r)) (controller_in w r) (switch_in w r) (made_in w r bytes)
    (moved_in d w r bytes)

abbrev pub world_but : Option ℕ → World → Record → List ℕ → World
world_but d w r bytes =
    with_ends w r.controller (switch_of r.kind r (place_of w r)) r.place (moved_in d w r bytes)

-- deeds and the world after the last, with one deed more in front
abbrev pub Tale : Type 0
Tale = List Deed × World

abbrev pub first : Deed → Tale → Tale
first x t = (x ∷ t.0, t.1)

-- a script, record after record, as `lines_from` goes through it
abbrev pub record_deeds : Option ℕ → World → Record → List ℕ → (World → Tale) → Tale
record_deeds d w r bytes rest =
    reply (record_questions w.n r (place_of w r))
    (λ q. first (plain_deed true r (switch_of r.kind r (place_of w r)) q) (rest w))
    (first (deed_in d w r bytes) (rest (world_but d w r bytes)))

abbrev pub next_deeds : Option ℕ → World → Result Record ℕ → List ℕ → (ℕ → World → Tale) → Tale
next_deeds d w (Err q) b on = (broken_deed q ∷ [], w)
next_deeds d w (Ok r) b on = record_deeds d w r (take (size_of r.kind) b) (on (size_of r.kind - 1))

unfoldable pub deeds_from : Option ℕ → ℕ → List ℕ → World → Tale
deeds_from d skip [] w = ([], w)
deeds_from d (suc skip) (x ∷ xs) w = deeds_from d skip xs w
deeds_from d zero (x ∷ xs) w =
    next_deeds d w (record_at (x ∷ xs)) (x ∷ xs) (λ skip next. deeds_from d skip xs next)

-- a rehearsal told: the number of the question that refuses the input, or 0, the deeds in an array, and the last world
abbrev pub told_by : ℕ → Tale → Told
told_by q t = record { answer = q; deeds = pad most_lines (broken_deed 0) t.0; count = length t.0; world = t.1 }

unfoldable pub told_of : Option ℕ → List ℕ → Told
told_of d input =
    reply (input_questions input) (λ q. told_by q ([], world_of 0 (store_of no_plans)))
    (told_by 0 (deeds_from d 0 (script_in input) (world_in input)))

-- the lines that are told: of deeds, with the ordinals from k on, and of a rehearsal
unfoldable pub deed_lines : ℕ → List Deed → List Line
deed_lines k [] = []
deed_lines k (x ∷ xs) = line_of k x.answer x.figure ∷ deed_lines (k + 1) xs

unfoldable pub lines_told : Told → List Line
lines_told t =
    pick (eqb t.answer 0) (deed_lines 1 (take t.count t.deeds)) (line_of 0 t.answer 0 ∷ [])
