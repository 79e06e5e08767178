-- What the unrolled rounds and the schedule made by eights say; no contract of a public function cites it.
use Rattle.std.specs.Prelude.{◌≡◌, ℕ, ◌+◌, ◌-◌, List, take}
use Rattle.tag.specs.Sha256.{schedule, rounds}
use Rattle.tag.specs.declared.block.State.{State}

-- What the unrolled rounds say: if s are the working variables after t rounds, whichever they began with, then r are
-- those after u rounds
abbrev pub Rounds : List ℕ → ℕ → State → ℕ → State → Type 0
Rounds w t s u r = (i : State) → s ≡ rounds i w t → r ≡ rounds i w u

-- What eight words more say: the first t words stay, and if they are those of a schedule, whatever its block, then so are
-- the first t + 8 afterwards
abbrev pub Extends : List ℕ → ℕ → List ℕ → Type 0
Extends w t v = (take t v ≡ take t w) × ((m : List ℕ) → take t w ≡ schedule m (t - 16) → take (t + 8) v ≡ schedule m (t + 8 - 16))
