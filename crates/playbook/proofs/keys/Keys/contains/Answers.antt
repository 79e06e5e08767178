-- `Keys::contains` meets its contract: a hint of 0 says that the key is none of them, the key at the hint is one of
-- them, and else they are all compared. Assumes nothing.
use mathlib.Core.Path.{◌≡◌, sym, ◌∙◌}
use Prim.Native.Nat.{◌-◌}
use native.Mathlib.Omega.{arith}
use borrow.Author.Rules.{rules}
use lib.ListN.{length, take}
use Rattle.playbook.proofs.Held.{list_any-among, found_at}
use Rattle.playbook.proofs.keys.Keys.contains.Goals as goal

pub returns-then-eq : goal.returns-then-eq
returns-then-eq c =
    let k = c.args.self.now in
    let long : length k.held ≡ 64 = search rules in
    let inside = k.within c.mark_of.result (omega arith) in
    c.if-eq.true
    ∙ sym (found_at k.held k.count (c.from-hint.result - 1) (0, 0) c.args.key (omega (arith, k.room)) (omega (arith, inside))
    (sym c.eq.ensures ∙ c.if-eq.true))

pub returns-else-eq : goal.returns-else-eq
returns-else-eq c =
    let k = c.args.self.now in
    c.contains.ensures.value ∙ list_any-among c.args.key (take k.count k.held)
