-- What the table says of a byte that no row has, and that no row has many fields: row after row of the table. Each record
-- has a byte at least, so its size tells whether a row has the byte.
use Prim.Native.Nat.{ℕ, ◌+◌, ◌<◌}
use mathlib.Core.Path.{◌≡◌, refl}
use mathlib.Core.Bool.{Bool, true}
use mathlib.Core.List.{List, [], ◌∷◌}
use native.Mathlib.Omega.{arith}
use lib.Dec.{eqb, ltb}
use lib.ListN.{length}
use borrow.Author.Tests.{ne_eqb, ltb-true}
use Rattle.answer.proofs.Bools.{by_bool, and_parts, pick-keeps}
use Rattle.lists.specs.Arrays.{every}
use Rattle.message.specs.Layout.{share_kind}
use Rattle.notation.specs.Fields.{widths}
use Rattle.notation.specs.Kinds.{Row, records, of_kind, record_size, byte_of, share_fields, fields_of}
use Rattle.notation.specs.Names.{kind_name}
use Rattle.notation.specs.declared.fields.Field.{Field}

none_in : {A : Type 0} (byte : ℕ) (rows : List Row) (none : A) (said : Row → A)
    → of_kind byte rows 0 (λ (r : Row). 1 + widths r.fields) ≡ 0 → of_kind byte rows none said ≡ none
unfolding of_kind
none_in byte [] none said e = refl
none_in byte (r ∷ rs) none said e =
    by_bool (eqb byte (byte_of r.kind))
    (λ t. let z : 1 + widths r.fields ≡ 0 = rw t at e in absurd (omega arith))
    (λ f. let h : of_kind byte rs 0 (λ (q : Row). 1 + widths q.fields) ≡ 0 = rw f at e in
    rw f (none_in byte rs none said h))

-- where no record has a size, what is said of none is said
pub no_record : {A : Type 0} (byte : ℕ) (none : A) (said : Row → A) → record_size byte ≡ 0
    → of_kind byte records none said ≡ none
unfolding record_size
no_record byte none said e = none_in byte records none said e

pub no_name : (byte : ℕ) → record_size byte ≡ 0 → kind_name byte ≡ []
unfolding kind_name
no_name byte e = no_record byte [] (λ (r : Row). r.name) e

pub no_fields : (byte : ℕ) → (byte ≡ share_kind → ⊥) → record_size byte ≡ 0 → fields_of byte ≡ []
unfolding fields_of
no_fields byte other e = rw (ne_eqb byte share_kind other) (no_record byte [] (λ (r : Row). r.fields) e)

abbrev few : Row → Bool
few r = ltb (length r.fields) 256

few_in : (byte : ℕ) (rows : List Row) → every few rows ≡ true
    → length (of_kind byte rows [] (λ (r : Row). r.fields)) < 256
unfolding of_kind every
few_in byte [] e = omega arith
few_in byte (r ∷ rs) e = let t = and_parts (few r) (every few rs) e in
    pick-keeps (λ (fs : List Field). length fs < 256) (eqb byte (byte_of r.kind)) r.fields
    (of_kind byte rs [] (λ (q : Row). q.fields)) (λ _. ltb-true _ _ t.0) (λ _. few_in byte rs t.1)

-- the fields of a record or of a share are fewer than a byte can count
pub few_fields : (byte : ℕ) → length (fields_of byte) < 256
unfolding fields_of every
few_fields byte =
    pick-keeps (λ (fs : List Field). length fs < 256) (eqb byte share_kind) share_fields
    (of_kind byte records [] (λ (r : Row). r.fields)) (λ _. omega arith) (λ _. few_in byte records refl)
