-- The right tag, compared.
use Rattle.std.proofs.Common.{ℕ, List, ap, ◌∙◌}
use Rattle.lists.specs.Bytes.{equal}
use Rattle.tag.proofs.mac.matches.Goals as goal

pub returns : goal.returns
returns c = let t = c.args.t.now in
    c.same.ensures ∙ ap (λ (l : List ℕ). equal l t) c.tag-right.ensures
