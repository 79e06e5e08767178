-- The field at a place, as a slice lends it. Assumes nothing.
use Prim.Native.Nat.{ℕ, zero, suc, ◌-◌}
use mathlib.Core.Path.{◌≡◌, refl, sym, ◌∙◌}
use mathlib.Core.List.{List, [], ◌∷◌}
use native.Mathlib.Omega.{arith}
use lib.ListN.{length}
use borrow.Author.Tests.{ne_eqb}
use denote.Ref.{Bor}
use Rattle.std.specs.Prelude.{Option, Some, None, option_copied, slice_get}
use Rattle.std.specs.Slice.{IsItemAt}
use Rattle.std.proofs.lemmas.Option.{slice_get_read, slice_get_past}
use Rattle.notation.specs.Fields.{field_at}
use Rattle.notation.specs.declared.fields.Field.{Field}

placed : (fs : List Field) (i : ℕ) → slice_get fs i ≡ field_at fs i
unfolding field_at
placed [] i = refl
placed (f ∷ fs) zero = refl
placed (f ∷ fs) (suc i) =
    let e : suc i - 1 ≡ i = omega arith in
    rw (ne_eqb (suc i) 0 (omega arith), e) (placed fs i)

pub lent_at : (fs : List Field) (i : ℕ) (r : Option (Bor Field)) → IsItemAt fs i r → option_copied r ≡ field_at fs i
lent_at fs i None h = sym (slice_get_past fs i h.3) ∙ placed fs i
lent_at fs i (Some x) h = sym (slice_get_read fs (length fs) i x.now refl h.3.0 h.1) ∙ placed fs i
