-- `main` is safe and ends: what is written stands within the output.
use mathlib.Core.Path.{◌≡◌, sym, ap}
use mathlib.Core.List.{List}
use Prim.Native.Nat.{ℕ, ◌≤◌}
use native.Mathlib.Omega.{arith}
use borrow.Author.Rules.{rules}
use lib.ListN.{length}
use lib.Seq.{length-take-le}
use Rattle.openflow.specs.declared.Written.{Written}
use Rattle.switch.specs.declared.Slot.{Slot}
use Rattle.feed.specs.Mods.{most_fed, mods_written}
use Rattle.feed.proofs.Feeding.{written-within}
use Rattle.flowmods.proofs.main.Goals as goal

-- what is written is no longer than the output
written-short : (rules : List Slot) (out : List ℕ) {after : List ℕ} {r : Written} {n : ℕ}
    → (r, after) ≡ mods_written rules out → n ≡ length out → r.length ≤ n
written-short rules out e long =
    let said = ap (λ (w : Written × List ℕ). w.0.length) e in
    omega (arith, written-within rules out)

pub slice_bounds-out-end : goal.slice_bounds-out-end
slice_bounds-out-end c =
    let within : c.flow_mods-fed.result.length ≤ most_fed = written-short _ _ c.flow_mods-fed.ensures c.for_output-out.ensures in
    omega (arith, within)

pub slice_bounds-write-end : goal.slice_bounds-write-end
slice_bounds-write-end c =
    let within : c.flow_mods-fed.result.length ≤ most_fed = written-short _ _ c.flow_mods-fed.ensures c.for_output-out.ensures in
    let size = c.flow_mods-fed.result.length in
    sym (length-take-le size c.flow_mods-fed.new.out (omega (arith, within)))
