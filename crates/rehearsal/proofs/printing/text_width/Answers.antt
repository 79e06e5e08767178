-- `text_width` meets its contract: a line's bytes follow those of the lines before it. Assumes nothing.
use mathlib.Core.Path.{refl, ap₂, ◌∙◌}
use Prim.Native.Nat.{ℕ, ◌+◌}
use native.Mathlib.Omega.{arith}
use Rattle.rehearsal.specs.Lines.{text}
use Rattle.rehearsal.proofs.Texts.{length-next}
use Rattle.rehearsal.proofs.Putting.{sum_fits}
use Rattle.rehearsal.proofs.printing.text_width.Goals as goal

pub loop-line-init : goal.loop-line-init
unfolding text
loop-line-init c = refl

pub overflow_add-n : goal.overflow_add-n
overflow_add-n c = let loop = c.loop-line in
    omega (arith, sum_fits c.args.lines.now loop.line-index _ loop.invariant c.width-n.ensures)

pub loop-line-preserved : goal.loop-line-preserved
loop-line-preserved c = let loop = c.loop-line in
    ap₂ (λ (n w : ℕ). n + w) loop.invariant c.width-n.ensures
    ∙ length-next c.args.lines.now loop.line-index _ (omega arith)
