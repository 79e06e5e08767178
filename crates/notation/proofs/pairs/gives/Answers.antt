-- `gives` meets its contract: the right tag is lent as it was made, and compared.
use mathlib.Core.Path.{ap, ◌∙◌}
use mathlib.Core.List.{List}
use Prim.Native.Nat.{ℕ}
use Rattle.lists.specs.Bytes.{equal}
use Rattle.notation.proofs.pairs.gives.Goals as goal

pub returns : goal.returns
returns c = let a = c.args in
    c.same.ensures ∙ ap (λ (right : List ℕ). equal right a.given.now) c.tag_by-right.ensures
