-- `write_share` meets its contract: `message::write`, with the switch's key as it is lent, answers 26 of the current
-- share and refuses nothing else. Assumes nothing.
use mathlib.Core.Path.{◌≡◌, sym, ap, ◌∙◌}
use mathlib.Core.Bool.{true}
use mathlib.Core.List.{List}
use Prim.Native.Nat.{ℕ, ◌+◌, ◌*◌}
use native.Mathlib.Omega.{arith}
use borrow.Author.Tests.{lt-ltb, eq-eqb, leb-true}
use lib.ListN.{length, drop}
use Rattle.answer.specs.Ask.{reply}
use Rattle.answer.proofs.Asked.{asked, reply_ap}
use Rattle.lists.specs.Frames.{room_at, placed}
use Rattle.message.specs.Keys.{key_length, key_at}
use Rattle.message.specs.Layout.{share_length}
use Rattle.message.specs.Writing.{encode, write_to}
use Rattle.message.specs.declared.Message.{Message}
use Rattle.message.proofs.Lent.{key_lent}
use Rattle.controller.specs.States.{unchanged, controller_ok}
use Rattle.controller.specs.Writing.{share_for, write_questions, share_written}
use Rattle.controller.specs.declared.Reply.{Reply}
use Rattle.controller.proofs.Shares.{share-written}
use Rattle.controller.proofs.Steps.{state_passed}
use Rattle.controller.proofs.Controller.write_share.Goals as goal

pub returns : goal.returns
unfolding share_written
returns c =
    let a = c.args in
    let s = a.self.now in
    let after : List ℕ = placed (encode (key_at a.keys.now a.switch) (share_for s a.switch)) a.frame.now a.at in
    let Past : ℕ → Type 0 = λ n.
    share_written s a.keys.now a.switch a.frame.now a.at
    ≡ reply (drop n (write_questions s a.keys.now a.switch a.frame.now a.at)) (λ k. (unchanged s k, a.frame.now))
    (unchanged s 0, after) in
    let ready : (controller_ok s ≡ true) × (length a.keys.now ≡ key_length * 16) =
    state_passed _ _ (sym c.state_question-k.ensures ∙ omega arith) in
    let known : Past 3 =
    asked _ _ 20 _ _ ready.0 ∙ asked _ _ 21 _ _ (eq-eqb _ _ ready.1) ∙ asked _ _ 12 _ _ (lt-ltb a.switch 16 (omega arith)) in
    let fits : room_at (length a.frame.now) a.at share_length ≡ true = sym c.fits.ensures ∙ c.if-not-fits.false in
    let fitting : Past 4 = known ∙ asked _ _ 25 _ _ fits in
    let key = key_at a.keys.now a.switch in
    let fit = leb-true (a.at + share_length) (length a.frame.now) fits in
    let replied : ℕ × List ℕ → Reply × List ℕ = λ x. (unchanged s x.0, x.1) in
    ap replied
    (c.write.ensures
    ∙ ap (λ (k : List ℕ). write_to k c.current_share-m.result a.frame.now a.at) (key_lent a.keys.now a.switch)
    ∙ ap (λ (m : Message). write_to key m a.frame.now a.at) c.current_share-m.ensures
    ∙ share-written s a.switch ready.0 key a.frame.now a.at fit)
    ∙ reply_ap replied _ (λ k. (k, a.frame.now)) (0, after)
    ∙ sym fitting
