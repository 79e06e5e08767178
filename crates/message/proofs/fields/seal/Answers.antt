-- `seal` meets its contract: what is put is the tag of the part that is lent. Assumes nothing.
use mathlib.Core.Path.{◌≡◌, sym, ap, ◌∙◌}
use mathlib.Core.List.{List, ◌++◌, append_assoc}
use Prim.Native.Nat.{ℕ, ◌+◌, ◌-◌, ◌≤◌}
use native.Mathlib.Omega.{arith}
use borrow.Author.Rules.{rules}
use borrow.Rule.Slice.PartMut.{put_mid}
use lib.ListN.{length, take, drop}
use lib.Seq.{sets, sets-eq, drop-drop}
use Rattle.tag.specs.Tags.{tag_length}
use Rattle.message.proofs.fields.seal.Goals as goal

-- a part stored over as many bytes
put_part : (p : List ℕ) (n k : ℕ) (t : List ℕ) → k ≡ length t → n + length t ≤ length p → put_mid n k p t ≡ sets p n t
put_part p n k t e fits =
    ap (λ (d : List ℕ). take n p ++ (t ++ d)) (drop-drop k n p ∙ ap (λ (j : ℕ). drop (n + j) p) e)
    ∙ sym (sets-eq t p n fits ∙ append_assoc (take n p) t (drop (n + length t) p))

pub returns : goal.returns
returns c =
    let p = c.args.part.now in
    let n = c.args.n in
    let t = c.tag-t.result in
    let long : length t ≡ tag_length = search rules in
    ap (put_mid n (n + 16 - n) p) c.copy_from_slice.ensures.after
    ∙ put_part p n (n + 16 - n) t (omega arith) (omega (arith, c.requires))
    ∙ ap (sets p n) c.tag-t.ensures
