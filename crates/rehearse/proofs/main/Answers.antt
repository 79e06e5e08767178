-- `main` is safe and ends: what is printed stands within the output.
use mathlib.Core.Path.{◌≡◌, sym, ap}
use mathlib.Core.List.{List}
use Prim.Native.Nat.{ℕ, ◌≤◌}
use native.Mathlib.Omega.{arith}
use lib.ListN.{length}
use lib.Seq.{length-take-le}
use Rattle.rehearsal.specs.Limits.{most_printed}
use Rattle.rehearsal.specs.Lines.{text}
use Rattle.rehearsal.specs.Scripts.{lines_of, rehearsed}
use Rattle.rehearsal.specs.declared.Printed.{Printed}
use Rattle.rehearsal.proofs.Room.{printed-within}
use Rattle.rehearse.proofs.main.Goals as goal

-- what is printed is no longer than the output
printed-short : (input out : List ℕ) {after : List ℕ} {r : Printed} {n : ℕ} → (r, after) ≡ rehearsed input out
    → n ≡ length out → r.length ≤ n
printed-short input out e long =
    let said = ap (λ (w : Printed × List ℕ). w.0.length) e in
    omega (arith, printed-within (text (lines_of input)) out)

pub slice_bounds-out-end : goal.slice_bounds-out-end
slice_bounds-out-end c =
    let within : c.rehearse-printed.result.length ≤ most_printed = printed-short _ _ c.rehearse-printed.ensures c.for_output-out.ensures in
    omega (arith, within)

pub slice_bounds-write-end : goal.slice_bounds-write-end
slice_bounds-write-end c =
    let within : c.rehearse-printed.result.length ≤ most_printed = printed-short _ _ c.rehearse-printed.ensures c.for_output-out.ensures in
    let size = c.rehearse-printed.result.length in
    sym (length-take-le size c.rehearse-printed.new.out (omega (arith, within)))
