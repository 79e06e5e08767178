-- What questions 20 and 21 give where both are answered yes, for the functions of receiving and writing. Assumes
-- nothing.
use mathlib.Core.Path.{◌≡◌, refl}
use mathlib.Core.Bool.{true}
use Prim.Native.Nat.{ℕ, ◌*◌}
use borrow.Author.Tests.{eqb-true}
use Rattle.answer.specs.Ask.{first_no}
use Rattle.answer.proofs.Asked.{answered}
use Rattle.message.specs.Keys.{key_length}
use Rattle.switch.specs.States.{switch_ok, state_questions}
use Rattle.switch.specs.declared.Switch.{Switch}

-- questions 20 and 21 answered yes
pub state_passed : (s : Switch) (stored : ℕ) → first_no (state_questions s stored) ≡ 0
    → (switch_ok s ≡ true) × (stored ≡ key_length * s.n)
state_passed s stored h = let yes = answered (state_questions s stored) refl h in (yes 20, eqb-true _ _ (yes 21))
