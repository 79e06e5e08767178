-- A text longer than it may be has as many first bytes as it may have.
use mathlib.Core.Path.{◌≡◌, sym}
use native.Mathlib.Omega.{arith}
use lib.ListN.{length, take}
use lib.Seq.{length-take-le}
use Rattle.links.proofs.turn.Goals as goal

pub slice_bounds-ends_in-end : goal.slice_bounds-ends_in-end
slice_bounds-ends_in-end c = sym (length-take-le 65536 c.args.text.now (omega arith))

pub overflow_add-ends : goal.overflow_add-ends
overflow_add-ends c =
    let long : length (take 65536 c.args.text.now) ≡ 65536 = length-take-le 65536 c.args.text.now (omega arith) in
    omega (arith, long, c.ends_in-ends.ensures)
