-- What one record does to the switches: answered 1, its switch carries out the rule of the share that arrived, which is
-- well formed, and the share's number is its last applied one; all other tables and such numbers stay. And what each
-- record keeps, a script keeps.
use mathlib.Core.Path.{◌≡◌, refl, sym}
use mathlib.Core.Bool.{Bool, true, false, ◌&&◌, and-true}
use mathlib.Core.List.{List, [], ◌∷◌}
use Prim.Native.Nat.{ℕ, zero, suc, ◌-◌, ◌<◌}
use native.Mathlib.Omega.{arith}
use borrow.Author.Tests.{eq-eqb, ne_eqb}
use lib.Dec.{eqb}
use lib.ListN.{length, take, get_or, set, replicate, length-set}
use lib.Seq.{get_or-set_same, get_or-set_other}
use Rattle.std.specs.Prelude.{Option, Result, Ok, Err}
use Rattle.answer.specs.Ask.{reply}
use Rattle.answer.proofs.Asked.{reply-from}
use Rattle.answer.proofs.Bools.{by_bool, by_eq}
use Rattle.flow.specs.Rules.{well_formed}
use Rattle.flow.specs.Changes.{changed}
use Rattle.flow.specs.declared.Rule.{Rule}
use Rattle.message.specs.Layout.{acknowledgement_length}
use Rattle.message.specs.Reading.{decode}
use Rattle.message.specs.declared.End.TheVariants as ends
use Rattle.message.specs.declared.Message.TheVariants.{Share}
use Rattle.switch.specs.Slots.{slot_for}
use Rattle.switch.specs.Writing as switch-writes
use Rattle.switch.specs.declared.Reply as switch
use Rattle.switch.specs.declared.Slot.{Slot}
use Rattle.switch.specs.declared.Switch.{Switch}
use Rattle.switch.proofs.Taken as switch-takes
use Rattle.controller.specs.Writing.{share_written}
use Rattle.controller.specs.declared.Controller.{Controller}
use Rattle.controller.specs.declared.Reply as controller
use Rattle.controller.proofs.Deciding.{Decided, declined, taken, decision}
use Rattle.controller.proofs.Taken as controller-takes
use Rattle.rehearsal.specs.Worlds.{switch_keys, controller_keys, longest_share, bytes_of}
use Rattle.rehearsal.specs.Records.{size_of, record_at}
use Rattle.rehearsal.specs.Steps.{share_made, answer_of, share_of, reported}
use Rattle.rehearsal.specs.Effects.{no_switch, place_of, switch_of, record_questions}
use Rattle.rehearsal.specs.Deeds.{share_in, drops, arrived, carried_but, wish_in, plain_deed, broken_deed, begun_deed}
use Rattle.rehearsal.specs.Deeds.{controller_in, switch_in, moved_in, deed_in, world_but, Tale, next_deeds, deeds_from}
use Rattle.rehearsal.specs.declared.Deed.{Deed}
use Rattle.rehearsal.specs.declared.Kind.{Kind}
use Rattle.rehearsal.specs.declared.Kind.TheVariants.{Decide, Send, Report, Raw, Keep, Deliver}
use Rattle.rehearsal.specs.declared.Place.{Place}
use Rattle.rehearsal.specs.declared.Record.{Record}
use Rattle.rehearsal.specs.declared.Share as made
use Rattle.rehearsal.specs.declared.World.{World}

-- a switch s becomes t: whether the rule of a share was applied
pub data Does (share : Slot) (s : Switch) : Bool → Switch → Type 0 where
  applies : {t : Switch} → well_formed share.rule ≡ true → t.table ≡ changed share.rule s.table
      → t.last ≡ share.number → Does share s true t
  leaves : {t : Switch} → t.table ≡ s.table → t.last ≡ s.last → Does share s false t

-- with any answer but 1
other_leaves : (share : Slot) (s : Switch) (k : ℕ) {t : Switch} → (k ≡ 1 → ⊥) → t.table ≡ s.table → t.last ≡ s.last
    → Does share s (eqb k 1) t
other_leaves share s k other table last = rw (ne_eqb k 1 other) (leaves table last)

-- what a switch reads in a share's bytes
share-read : (bytes : List ℕ) {c to number : ℕ} {rule : Rule} → decode ends.Switch bytes ≡ Share c to number rule
    → (wish_in bytes).slot ≡ slot_for number rule
share-read bytes e = rw e

-- bytes that reach a switch, by the cases of a reception
reception : {s : Switch} {keys bytes : List ℕ} {k : ℕ} {t : Switch} → switch-takes.Received s keys bytes k t
    → Does (wish_in bytes).slot s (eqb k 1) t
reception {s} {keys} {bytes} (switch-takes.refused {k} l) = other_leaves _ s k (λ e. omega arith) refl refl
reception (switch-takes.repeated a y) = leaves refl refl
reception (switch-takes.held a y few) = leaves refl refl
reception {s} {keys} {bytes} (switch-takes.made a y enough) =
    rw (share-read bytes a.read) (applies a.passes.formed refl refl)

-- a share on its way, which may have been refused when it was made, or be dropped
arrival : (d : Option ℕ) (n : ℕ) (s : Switch) (to : ℕ) (m : Result made.Share ℕ) → (answer_of m ≡ 1 → ⊥)
    → Does (wish_in (bytes_of (share_of m))).slot s (eqb (arrived d n s to m).answer 1) (arrived d n s to m).state
unfolding arrived reply
arrival d n s to (Ok share) other =
    let bytes = bytes_of share in
    by_bool (drops d bytes) (λ gone. rw gone (leaves refl refl))
    (λ there. rw there (reception (switch-takes.received s (switch_keys n to) bytes)))
arrival d n s to (Err k) other = other_leaves _ s k other refl refl

-- no other step is answered 1: a share made
refused_other : (c : Controller) (from to : ℕ)
    → (share_written c (controller_keys from) to (replicate longest_share 0) 0).0.answer ≡ 1 → ⊥
unfolding share_written
refused_other c from to =
    reply-from (λ (r : controller.Reply × List ℕ). r.0.answer ≡ 1 → ⊥) 10 _ _ _ refl (λ k h e. omega arith)
    (λ y e. omega arith)

made_other : (c : Controller) (from to : ℕ) → answer_of (share_made c from to) ≡ 1 → ⊥
unfolding share_made
made_other c from to =
    let k = (share_written c (controller_keys from) to (replicate longest_share 0) 0).0.answer in
    by_bool (eqb k 0) (λ there. rw there (λ e. omega arith)) (λ none. rw none (refused_other c from to))

-- a decision
decided_other : {c : Controller} {s serial cause : ℕ} {r : controller.Reply} → Decided c s serial cause r
    → r.answer ≡ 1 → ⊥
decided_other (declined l) e = omega arith
decided_other (taken h) e = omega arith

-- an acknowledgement written, and received
written_other : (s : Switch) (keys : List ℕ) (c : ℕ) (frame : List ℕ) (at : ℕ)
    → (switch-writes.acknowledgement_written s keys c frame at).0.answer ≡ 1 → ⊥
unfolding switch-writes.written
written_other s keys c frame at =
    reply-from (λ (r : switch.Reply × List ℕ). r.0.answer ≡ 1 → ⊥) 10 _ _ _ refl (λ k h e. omega arith)
    (λ y e. omega arith)

received_other : {c : Controller} {keys bytes : List ℕ} {r : controller.Reply}
    → controller-takes.Received c keys bytes r → r.answer ≡ 1 → ⊥
received_other (controller-takes.refused l) e = omega arith
received_other (controller-takes.offered a above) e = omega arith
received_other (controller-takes.repeated a old) e = omega arith
received_other (controller-takes.acknowledged a above) e = omega arith

reported_other : (n : ℕ) (s : Switch) (c : Controller) (from to : ℕ) → (reported n s c from to).answer ≡ 1 → ⊥
unfolding reported
reported_other n s c from to =
    let frame : List ℕ = replicate acknowledgement_length 0 in
    let w = switch-writes.acknowledgement_written s (switch_keys n from) to frame 0 in
    by_bool (eqb w.0.answer 0)
    (λ there. rw there (received_other (controller-takes.received c (controller_keys to) w.1)))
    (λ none. rw none (written_other s (switch_keys n from) to frame 0))

-- every kind of record
record_does : (d : Option ℕ) (c : Controller) (s : Switch) (p : Place) (n : ℕ) (kind : Kind) (r : Record)
    (bytes : List ℕ)
    → let made = share_in c p kind r bytes in
    let moved = carried_but d c s p n kind r made in
    Does (wish_in (bytes_of (share_of made))).slot s (eqb moved.answer 1) moved.switch
unfolding carried_but share_in
record_does d c s p n Decide r bytes =
    other_leaves _ s _ (decided_other (decision c r.switch r.serial r.cause)) refl refl
record_does d c s p n Send r bytes = arrival d n s r.switch _ (made_other c r.controller r.switch)
record_does d c s p n Report r bytes =
    other_leaves _ s _ (reported_other n s c r.switch r.controller) refl refl
record_does d c s p n Raw r bytes = arrival d n s r.switch _ (λ e. omega arith)
record_does d c s p n Keep r bytes = other_leaves _ s _ (made_other c r.controller r.switch) refl refl
record_does d c s p n Deliver r bytes = arrival d n s p.switch _ (λ e. omega arith)

-- the switch with a number, in a world
abbrev pub switch_at : ℕ → World → Switch
switch_at s w = get_or w.switches s no_switch

-- a deed between two worlds: as many switches, and what it does to each
pub record Between (w : World) (x : Deed) (v : World) : Type 0 where
  pub switches : length v.switches ≡ length w.switches
  pub does : (s : ℕ) → s < length w.switches
      → Does x.wish.slot (switch_at s w) (eqb x.answer 1 && eqb x.switch s) (switch_at s v)

and-false : (b : Bool) → (b && false) ≡ false
and-false true = refl
and-false false = refl

-- every switch, where the one with number k was put back
switch_does : (s k : ℕ) (l : List Switch) (share : Slot) (made : Bool) (t : Switch) → s < length l
    → Does share (get_or l k no_switch) made t
    → Does share (get_or l s no_switch) (made && eqb k s) (get_or (set l k t) s no_switch)
switch_does s k l share made t there does =
    by_eq k s
    (λ e. rw (e, eq-eqb s s refl, and-true, get_or-set_same l s t no_switch there) (rw e at does))
    (λ n. rw (ne_eqb k s n, and-false made, get_or-set_other l k s t no_switch (λ e. n (sym e))) (leaves refl refl))

-- a deed with any answer but 1 that leaves the world
world_left : (w : World) (x : Deed) → (x.answer ≡ 1 → ⊥) → Between w x w
world_left w x other =
    record { switches = refl; does = λ s there. rw (ne_eqb x.answer 1 other) (leaves refl refl) }

-- a record that passed its questions
record_between : (d : Option ℕ) (w : World) (r : Record) (bytes : List ℕ)
    → Between w (deed_in d w r bytes) (world_but d w r bytes)
unfolding begun_deed
record_between d w r bytes =
    let to = switch_of r.kind r (place_of w r) in
    let moved = moved_in d w r bytes in
    record {
      switches = length-set w.switches to moved.switch;
      does = λ s there.
          switch_does s to w.switches _ _ moved.switch there
          (record_does d (controller_in w r) (switch_in w r) (place_of w r) w.n r.kind r bytes);
    }

-- bytes that are no record are refused with a question's number
abbrev Asked : Result Record ℕ → Type 0
Asked (Err q) = q ≡ 1 → ⊥
Asked (Ok r) = Unit {0}

read_asked : (b : List ℕ) → Asked (record_at b)
unfolding record_at
read_asked b = reply-from Asked 10 _ _ _ refl (λ k h e. omega arith) (λ y. tt)

-- what holds of no deeds, and of deeds with one more in front, holds of a script
module _ (d : Option ℕ) (P : World → List Deed → World → Type 0) (none : (w : World) → P w [] w)
    (more : (w v u : World) (x : Deed) (xs : List Deed) → Between w x v → P v xs u → P w (x ∷ xs) u) where
  abbrev Keeps : World → Tale → Type 0
  Keeps w t = P w t.0 t.1

  next_keep : (w : World) (r : Result Record ℕ) (b : List ℕ) (tells : ℕ → World → Tale) → Asked r
      → ((skip : ℕ) (next : World) → Keeps next (tells skip next)) → Keeps w (next_deeds d w r b tells)
  unfolding plain_deed
  next_keep w (Err q) b tells other rest = more w w w (broken_deed q) [] (world_left w (broken_deed q) other) (none w)
  next_keep w (Ok r) b tells other rest =
      let bytes = take (size_of r.kind) b in
      let skip = size_of r.kind - 1 in
      let to = switch_of r.kind r (place_of w r) in
      reply-from (Keeps w) 10 (record_questions w.n r (place_of w r)) _ _ refl
      (λ q l.
      let x = plain_deed true r to q in
      more w w _ x _ (world_left w x (λ e. omega arith)) (rest skip w))
      (λ pass. more w (world_but d w r bytes) _ (deed_in d w r bytes) _ (record_between d w r bytes)
      (rest skip (world_but d w r bytes)))

  pub deeds_keep : (skip : ℕ) (script : List ℕ) (w : World)
      → P w (deeds_from d skip script w).0 (deeds_from d skip script w).1
  unfolding deeds_from
  deeds_keep skip [] w = none w
  deeds_keep (suc skip) (x ∷ script) w = deeds_keep skip script w
  deeds_keep zero (x ∷ script) w =
      next_keep w (record_at (x ∷ script)) (x ∷ script) (λ skip next. deeds_from d skip script next)
      (read_asked (x ∷ script)) (λ skip next. deeds_keep skip script next)
