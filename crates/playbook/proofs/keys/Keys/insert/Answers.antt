-- `Keys::insert` meets its contract: a key more stands behind the others, and its mark has the newest hint. Assumes
-- nothing.
use mathlib.Core.Path.{◌≡◌}
use native.Mathlib.Omega.{arith}
use borrow.Author.Rules.{rules}
use lib.ListN.{length}
use Rattle.playbook.proofs.Held.{within_more, hinted_more}
use Rattle.playbook.proofs.keys.Keys.insert.Goals as goal

pub invariant_of-self-clause-within : goal.invariant_of-self-clause-within
invariant_of-self-clause-within c =
    let k = c.args.self.now in
    let long : length k.held ≡ 64 = search rules in
    let wide : length k.hints ≡ 251 = search rules in
    λ m h. rw c.mark_of.ensures
    (within_more k.held k.count c.args.key (omega arith) k.hints (omega arith) m (k.within m h))

pub invariant_of-self-clause-hinted : goal.invariant_of-self-clause-hinted
invariant_of-self-clause-hinted c =
    let k = c.args.self.now in
    let long : length k.held ≡ 64 = search rules in
    let wide : length k.hints ≡ 251 = search rules in
    rw c.mark_of.ensures
    (λ j. hinted_more k.held k.count c.args.key (omega arith) k.hints (omega arith) j (k.hinted j))
