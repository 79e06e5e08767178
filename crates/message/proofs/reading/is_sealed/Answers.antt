-- `is_sealed` meets its contract: the last bytes are compared with the tag of those before them. Assumes nothing.
use mathlib.Core.Path.{sym, ap, ◌∙◌}
use Prim.Native.Nat.{◌-◌, ◌≤◌}
use native.Mathlib.Omega.{arith}
use borrow.Author.Tests.{le-leb, lt-leb}
use lib.ListN.{length, take}
use lib.Seq.{length-take-le}
use Rattle.lists.proofs.Stores.{lent_rest}
use Rattle.tag.specs.Tags.{tag_length, is_tag}
use Rattle.message.specs.Reading.{is_sealed}
use Rattle.message.proofs.reading.is_sealed.Goals as goal

pub returns-then-s-lt-LENGTH : goal.returns-then-s-lt-LENGTH
unfolding is_sealed
returns-then-s-lt-LENGTH c = rw (lt-leb tag_length (length c.args.s.now) (omega arith))

pub slice_bounds-matches-end : goal.slice_bounds-matches-end
slice_bounds-matches-end c = let s = c.before.before.before.before.args.s.now in
    sym (length-take-le (length s - tag_length) s (omega arith))

pub returns : goal.returns
unfolding is_sealed
returns c = let a = c.before.before.before.before.before.before.args in
    let s = a.s.now in
    let body = length s - tag_length in
    let long : tag_length ≤ length s = omega arith in
    rw (le-leb tag_length (length s) long)
    (c.matches.ensures ∙ ap (is_tag a.key.now (take body s)) (lent_rest s body))
