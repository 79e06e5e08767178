-- Eight words more, one by one: of every schedule that stood to word t, the first i stand.
use Rattle.std.proofs.Common.{◌≡◌, ℕ, ◌-◌, List, length, take}
use Rattle.tag.specs.Sha256.{schedule}
use Rattle.tag.proofs.block.extend.Given as goal

abbrev pub invariant-loop-i : goal.invariant-loop-i
invariant-loop-i l =
    (length l.w ≡ 64) × (take l.t l.w ≡ take l.t l.initial.w)
    × ((m : List ℕ) → take l.t l.initial.w ≡ schedule m (l.t - 16) → take l.i l.w ≡ schedule m (l.i - 16))
