-- `tag_by` meets its contract: the key is lent as it was made.
use mathlib.Core.Path.{ap, ◌∙◌}
use mathlib.Core.List.{List}
use Prim.Native.Nat.{ℕ}
use Rattle.tag.specs.Tags.{tag_of}
use Rattle.notation.proofs.pairs.tag_by.Goals as goal

pub returns : goal.returns
returns c = let body = c.args.body.now in
    c.tag.ensures ∙ ap (λ (key : List ℕ). tag_of key body) c.of_pair-key.ensures
