-- The current share of a switch: the ready change of a controller within its limits has a well-formed rule, so that all
-- that stops its writing is that nothing is ready, or a frame without room. Assumes nothing.
use mathlib.Core.Path.{◌≡◌, refl, sym, ◌∙◌}
use mathlib.Core.Bool.{true, false}
use mathlib.Core.List.{List, [], ◌∷◌}
use Prim.Native.Nat.{ℕ, ◌+◌, ◌≤◌}
use lib.ListN.{length}
use native.Mathlib.Omega.{arith}
use Rattle.answer.specs.Ask.{reply}
use Rattle.answer.proofs.Bools.{and_parts}
use Rattle.answer.proofs.Asked.{none_asked, refused, asked}
use Rattle.lists.specs.Frames.{placed}
use Rattle.flow.specs.Rules.{rule_key, prefix_ok, port_ok, well_formed}
use Rattle.message.specs.Layout.{share_length}
use Rattle.message.specs.Writing.{encode, is_message, port_said, write_to}
use Rattle.message.specs.declared.Message.{Message}
use Rattle.message.proofs.Written.{nothing_written, all_written}
use Rattle.controller.specs.States.{controller_ok}
use Rattle.controller.specs.Readiness.{ready_for}
use Rattle.controller.specs.Writing.{share_of, share_for}
use Rattle.controller.specs.declared.Controller.{Controller}
use Rattle.std.specs.Prelude.{Option, Some, None}
use Rattle.controller.specs.declared.Undone.{Undone}
use Rattle.controller.proofs.Waiting.{ready_fits}
use Rattle.controller.proofs.Within.{within}

-- writing a message that fits: refused only where it is none
abbrev pub written_if_any : List ℕ → Message → List ℕ → ℕ → ℕ × List ℕ
written_if_any key m frame at = reply ((26, is_message m) ∷ []) (λ k. (k, frame)) (0, placed (encode key m) frame at)

module _ (id s : ℕ) where
  said : (r : Option Undone) → ((u : Undone) → r ≡ Some u → well_formed u.rule ≡ true) → port_said (share_of id s r) ≡ true
  said (Some u) formed = (and_parts (prefix_ok (rule_key u.rule)) (port_ok u.rule.action) (formed u refl)).1
  said None formed = refl

  writes : (r : Option Undone) (key frame : List ℕ) (at : ℕ) → port_said (share_of id s r) ≡ true
      → at + share_length ≤ length frame
      → write_to key (share_of id s r) frame at ≡ written_if_any key (share_of id s r) frame at
  writes (Some u) key frame at p room =
      all_written key (share_of id s (Some u)) frame at refl p room
      ∙ sym (asked _ _ 26 true _ refl ∙ none_asked _ _)
  writes None key frame at p room =
      let fit : at + 0 ≤ length frame = omega arith in
      nothing_written key (share_of id s None) frame at p fit refl ∙ sym (refused _ _ 26 false _ refl)

module _ (c : Controller) (s : ℕ) (ok : controller_ok c ≡ true) where
  pub share_said_lem : port_said (share_for c s) ≡ true
  share_said_lem = said c.id s (ready_for c s) (λ u e. (ready_fits c (within c ok) s u e).formed)

  pub share-written : (key frame : List ℕ) (at : ℕ) → at + share_length ≤ length frame
      → write_to key (share_for c s) frame at ≡ written_if_any key (share_for c s) frame at
  share-written key frame at room = writes c.id s (ready_for c s) key frame at share_said_lem room
