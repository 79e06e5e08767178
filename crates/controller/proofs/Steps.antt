-- What questions 20 and 21 give where both are answered yes, for the functions of receiving and writing.
use mathlib.Core.Path.{◌≡◌, refl}
use mathlib.Core.Bool.{true}
use Prim.Native.Nat.{ℕ, ◌*◌}
use borrow.Author.Tests.{eqb-true}
use Rattle.answer.specs.Ask.{first_no}
use Rattle.answer.proofs.Asked.{answered}
use Rattle.message.specs.Keys.{key_length}
use Rattle.controller.specs.States.{controller_ok, state_questions}
use Rattle.controller.specs.declared.Controller.{Controller}

module _ (c : Controller) (stored : ℕ) where
  -- questions 20 and 21 answered yes
  pub state_passed : first_no (state_questions c stored) ≡ 0 → (controller_ok c ≡ true) × (stored ≡ key_length * 16)
  state_passed h = let yes = answered (state_questions c stored) refl h in (yes 20, eqb-true _ _ (yes 21))
