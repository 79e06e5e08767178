-- `put_lines` meets its contract: a line's bytes are put after those of the lines before it. Assumes nothing.
use mathlib.Core.Path.{◌≡◌, refl, ap, ◌∙◌}
use Prim.Native.Nat.{ℕ, ◌+◌, ◌<◌}
use native.Mathlib.Omega.{arith}
use lib.ListN.{length, get_or}
use lib.Seq.{length-sets, take_all}
use Rattle.rehearsal.specs.Lines.{text_of, text}
use Rattle.rehearsal.specs.declared.Line.{Line}
use Rattle.rehearsal.proofs.Texts.{length-next}
use Rattle.rehearsal.proofs.Putting.{stored_next, room_next}
use Rattle.rehearsal.proofs.printing.put_lines.Goals as goal

-- what lines have past their end
abbrev blank : Line
blank = record { ordinal = 0; answer = 0; figure = 0 }

pub loop-line-init : goal.loop-line-init
unfolding text
loop-line-init c = record { ends = refl; stored = refl }

pub put-at-requires : goal.put-at-requires
put-at-requires c = let loop = c.loop-line in
    let lines = c.args.lines.now in
    let same : length loop.out ≡ length c.args.out.now = ap length loop.invariant.stored ∙ simp length-sets in
    let room =
    rw (take_all (length lines) lines (omega arith)) at
    (room_next lines loop.line-index (length lines) blank (omega arith) (omega arith) loop.invariant.ends) in
    omega (arith, room, c.requires)

pub loop-line-preserved : goal.loop-line-preserved
loop-line-preserved c = let loop = c.loop-line in
    let lines = c.args.lines.now in
    let put = c.put-at.ensures in
    let here : loop.line-index < length lines = omega arith in
    record {
      ends = put.0 ∙ ap (λ (n : ℕ). n + length (text_of (get_or lines loop.line-index blank))) loop.invariant.ends
          ∙ length-next lines loop.line-index blank here;
      stored = stored_next lines loop.line-index blank here c.args.out.now loop.at loop.invariant.ends loop.invariant.stored
          put.1;
    }
