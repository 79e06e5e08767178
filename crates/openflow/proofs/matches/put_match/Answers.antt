-- `put_match` meets its contract: a branch for each form of a match. Assumes nothing.
use mathlib.Core.Path.{sym, ap, ◌∙◌}
use Prim.Native.Nat.{ℕ}
use mathlib.Core.List.{List, ◌++◌}
use native.Mathlib.Omega.{arith}
use lib.Seq.{sets}
use Rattle.lists.specs.Fields.{Field, laid_out}
use Rattle.openflow.specs.FlowMods.{eth_type, masked_dst, flow_match}
use Rattle.openflow.proofs.Lengths.{match_none, match_some, match_all, match_whole, match_masked}
use Rattle.openflow.proofs.matches.put_match.Goals as goal

pub put_all-requires : goal.put_all-requires
put_all-requires c = let a = c.args in
    omega (arith, c.requires.0, match_none a.prefix a.size c.if-size-eq0.true)

pub put_whole-requires : goal.put_whole-requires
put_whole-requires c = let a = c.args in
    omega (arith, c.requires.0, match_some a.prefix a.size c.if-size-eq0.false)

pub put_masked-requires : goal.put_masked-requires
put_masked-requires c = let a = c.args in
    omega (arith, c.requires.0, match_some a.prefix a.size c.if-size-eq0.false)

pub returns-then-size-eq0 : goal.returns-then-size-eq0
returns-then-size-eq0 c = let a = c.args in
    c.put_all.ensures
    ∙ ap (λ (l : List Field). sets a.part.now 48 (laid_out l))
    (sym (match_all a.prefix a.size c.if-size-eq0.true))

pub returns-then-size-eq32 : goal.returns-then-size-eq32
returns-then-size-eq32 c = let a = c.args in
    c.put_whole.ensures
    ∙ ap (λ (l : List Field). sets a.part.now 48 (laid_out l))
    (sym (match_whole a.prefix a.size c.if-size-eq32.true))

pub returns-else-size-eq32 : goal.returns-else-size-eq32
returns-else-size-eq32 c = let a = c.args in
    c.put_masked.ensures
    ∙ ap (λ (m : ℕ). sets a.part.now 48 (laid_out (flow_match (eth_type ++ masked_dst a.prefix m))))
    c.mask_of.ensures
    ∙ ap (λ (l : List Field). sets a.part.now 48 (laid_out l))
    (sym (match_masked a.prefix a.size c.if-size-eq0.false c.if-size-eq32.false))
