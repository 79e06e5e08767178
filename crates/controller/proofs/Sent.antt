-- What a controller writes for a switch: answered 0, the bytes at the offset are the share of its ready change, sealed
-- with its key and read as that share there, and every other byte of the frame is as it was; with any other answer the
-- whole frame is. The state stays, so writing again gives the same bytes. Assumes nothing.
use mathlib.Core.Path.{◌≡◌, refl, sym, ap, ◌∙◌}
use mathlib.Core.Bool.{Bool, true, false}
use mathlib.Core.List.{List, [], ◌∷◌}
use Prim.Native.Nat.{ℕ, ◌+◌, ◌*◌, ◌≤◌, ◌<◌}
use native.Mathlib.Omega.{arith}
use lib.Dec.{ltb}
use lib.ListN.{length, take, drop}
use borrow.Author.Tests.{ltb-true, leb-true, eqb-true, lt-ltb, le-leb, eq-eqb}
use Rattle.answer.specs.Ask.{Question, pick, reply, first_no}
use Rattle.answer.proofs.Asked.{reply_ap, all_yes, some_no, answered, reply-keeps}
use Rattle.answer.proofs.Bools.{tf}
use Rattle.lists.specs.Frames.{placed}
use Rattle.message.specs.Keys.{key_length, key_at}
use Rattle.message.specs.Layout.{share_length}
use Rattle.message.specs.Writing.{encode, length_of, is_message}
use Rattle.message.specs.Ranges.{InRange}
use Rattle.message.specs.declared.Message.TheVariants.{Share}
use Rattle.message.proofs.Written.{Sent, placed_message, sent}
use Rattle.controller.specs.Changes.{undone_of}
use Rattle.controller.specs.States.{controller_ok}
use Rattle.controller.specs.Readiness.{is_ready, ready_for}
use Rattle.controller.specs.Writing.{share_of, share_for, write_questions, share_written}
use Rattle.controller.specs.declared.Controller.{Controller}
use Rattle.std.specs.Prelude.{Option, Some, None}
use Rattle.controller.specs.declared.Reply.{Reply}
use Rattle.controller.specs.declared.Undone.{Undone}
use Rattle.controller.proofs.Waiting.{undone_at, none_ready}
use Rattle.controller.proofs.Shares.{share_said_lem}

-- what the questions of a writing say where every answer is yes
pub record Allowed (c : Controller) (keys : List ℕ) (s : ℕ) (frame : List ℕ) (at : ℕ) : Type 0 where
  pub limits : controller_ok c ≡ true
  pub store : length keys ≡ key_length * 16
  pub known : s < 16
  pub room : at + share_length ≤ length frame
  pub change : Undone
  pub ready : ready_for c s ≡ Some change

-- there is a share where a change is ready
pub share-there : (id s : ℕ) (r : Option Undone) → is_message (share_of id s r) ≡ true → (u : Undone) × (r ≡ Some u)
share-there id s (Some u) h = (u, refl)
share-there id s None h = tf h refl

share_missing : (id s : ℕ) (r : Option Undone) → is_message (share_of id s r) ≡ false → r ≡ None
share_missing id s (Some u) h = tf refl h
share_missing id s None h = refl

-- the last of five questions, where it is the first whose answer is no
last_no : (a b c d e : Bool) → first_no ((20, a) ∷ (21, b) ∷ (12, c) ∷ (25, d) ∷ (26, e) ∷ []) ≡ 26 → e ≡ false
unfolding reply
last_no false b c d e h = absurd (omega arith)
last_no true false c d e h = absurd (omega arith)
last_no true true false d e h = absurd (omega arith)
last_no true true true false e h = absurd (omega arith)
last_no true true true true true h = absurd (omega arith)
last_no true true true true false h = refl

module _ (c : Controller) (keys : List ℕ) (s : ℕ) (frame : List ℕ) (at : ℕ) where
  abbrev questions : List Question
  questions = write_questions c keys s frame at

  -- the answer is the first question's that is answered no; whatever it is, the state is as it was, and where it is not
  -- 0, so is the frame
  answer_is : (share_written c keys s frame at).0.answer ≡ first_no questions
  unfolding share_written
  answer_is = reply_ap (λ (r : Reply × List ℕ). r.0.answer) questions _ _

  pub written_state : (share_written c keys s frame at).0.state ≡ c
  unfolding share_written
  written_state = reply-keeps (λ (r : Reply × List ℕ). r.0.state ≡ c) questions _ _ (λ k. refl) (λ q. refl)

  pub not-sent : ((share_written c keys s frame at).0.answer ≡ 0 → ⊥) → (share_written c keys s frame at).1 ≡ frame
  unfolding share_written
  not-sent h = ap (λ (r : Reply × List ℕ). r.1) (some_no questions _ _ (λ q. h (answer_is ∙ q)))

  -- 26 is answered only where no change is ready
  pub nothing_ready : (share_written c keys s frame at).0.answer ≡ 26 → ready_for c s ≡ None
  nothing_ready h =
      share_missing c.id s (ready_for c s) (last_no _ _ (ltb s 16) _ (is_message (share_for c s)) (sym answer_is ∙ h))

  pub all_waiting : (share_written c keys s frame at).0.answer ≡ 26 → (i : ℕ) → i < length (undone_of c)
      → (undone_at (undone_of c) i).switch ≡ s
      → is_ready (undone_of c) (undone_at (undone_of c) i) ≡ false
  all_waiting h = none_ready s (undone_of c) (nothing_ready h)

  -- and past the questions before it the answer is 26 where none is, and 0 where one is
  module _ (limits : controller_ok c ≡ true) (store : length keys ≡ key_length * 16) (known : s < 16)
      (room : at + share_length ≤ length frame) where
    last_asked : (share_written c keys s frame at).0.answer ≡ pick (is_message (share_for c s)) 0 26
    unfolding reply
    last_asked = answer_is ∙ rw (limits, eq-eqb _ _ store, lt-ltb _ _ known, le-leb _ _ room)

    pub nothing-sent : ready_for c s ≡ None → (share_written c keys s frame at).0.answer ≡ 26
    nothing-sent r = last_asked ∙ rw r

    pub ready_sent : (u : Undone) → ready_for c s ≡ Some u → (share_written c keys s frame at).0.answer ≡ 0
    ready_sent u r = last_asked ∙ rw r

  module _ (h : (share_written c keys s frame at).0.answer ≡ 0) where
    -- where it is 0
    pub allowed : Allowed c keys s frame at
    allowed =
        let yes = answered questions refl (sym answer_is ∙ h) in
        let there = share-there c.id s (ready_for c s) (yes 26) in
        record {
          limits = yes 20;
          store = eqb-true _ _ (yes 21);
          known = ltb-true _ _ (yes 12);
          room = leb-true _ _ (yes 25);
          change = there.0;
          ready = there.1;
        }

    pub frame_is : (share_written c keys s frame at).1 ≡ placed (encode (key_at keys s) (share_for c s)) frame at
    unfolding share_written
    frame_is = ap (λ (r : Reply × List ℕ). r.1) (all_yes questions _ _ refl (sym answer_is ∙ h))

    -- the bytes are the share's, be its numbers in range or not
    pub share-bytes : take (length_of (share_for c s)) (drop at (share_written c keys s frame at).1)
        ≡ encode (key_at keys s) (share_for c s)
    share-bytes =
        let u = allowed.change in
        let m = Share c.id s u.number u.rule in
        rw (frame_is, allowed.ready) (placed_message (key_at keys s) m frame at allowed.room)

    -- and in range, they are read as it
    pub share-sent : (u : Undone) → ready_for c s ≡ Some u → InRange (Share c.id s u.number u.rule)
        → Sent (key_at keys s) (Share c.id s u.number u.rule) frame at (share_written c keys s frame at).1
    share-sent u r range =
        let port = rw r at (share_said_lem c s allowed.limits) in
        rw (frame_is, r) (sent _ (Share c.id s u.number u.rule) frame at refl port range allowed.room)

  -- the state stays, so writing again gives the same reply and the same bytes
  pub written_again : share_written (share_written c keys s frame at).0.state keys s frame at
      ≡ share_written c keys s frame at
  written_again = ap (λ (d : Controller). share_written d keys s frame at) written_state

-- the bytes of a share are made of the id, the switch, the key and the ready change alone
module _ (c d : Controller) (keys others : List ℕ) (s : ℕ) (id : c.id ≡ d.id) (ready : ready_for c s ≡ ready_for d s)
    (key : key_at keys s ≡ key_at others s) where
  pub same-share : encode (key_at keys s) (share_for c s) ≡ encode (key_at others s) (share_for d s)
  same-share = rw (id, ready, key)

  -- so two controllers that write it into the same frame leave the same frame
  pub same_frame : (frame : List ℕ) (at : ℕ) → (share_written c keys s frame at).0.answer ≡ 0
      → (share_written d others s frame at).0.answer ≡ 0
      → (share_written c keys s frame at).1 ≡ (share_written d others s frame at).1
  same_frame frame at h k =
      frame_is c keys s frame at h
      ∙ ap (λ (w : List ℕ). placed w frame at) same-share
      ∙ sym (frame_is d others s frame at k)
