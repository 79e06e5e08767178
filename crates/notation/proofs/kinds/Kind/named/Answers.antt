-- `named` meets its contract: the kind at hand has the word as its name, or the kinds behind it are left.
use mathlib.Core.Path.{sym, ap, ◌∙◌}
use native.Mathlib.Omega.{arith}
use Rattle.lists.specs.Bytes.{equal}
use Rattle.notation.proofs.Naming.{named_here, named_next, named_end}
use Rattle.notation.proofs.kinds.Kind.named.Goals as goal

pub returns-then-is_named : goal.returns-then-is_named
returns-then-is_named c = let word = c.args.word.now in
    let at = c.loop-kind in
    let same = sym c.is_named.ensures ∙ c.if-is_named.true in
    sym (at.invariant ∙ named_here word at.kind-index (omega arith) (ap (equal word) (sym c.name.ensures) ∙ same))

pub loop-kind-preserved : goal.loop-kind-preserved
loop-kind-preserved c = let word = c.args.word.now in
    let at = c.loop-kind in
    let other = sym c.is_named.ensures ∙ c.if-is_named.false in
    at.invariant ∙ named_next word at.kind-index (omega arith) (ap (equal word) (sym c.name.ensures) ∙ other)

pub returns : goal.returns
returns c = let word = c.args.word.now in
    let at = c.loop-kind in
    sym (at.invariant ∙ named_end word at.kind-index (omega arith))
