-- The kind that a word names: row after row of the table.
use mathlib.Core.Path.{◌≡◌, refl, sym, ap, ◌∙◌}
use mathlib.Core.Bool.{true, false}
use mathlib.Core.List.{List, [], map}
use Prim.Native.Nat.{ℕ, ◌+◌, ◌≤◌, ◌<◌}
use native.Mathlib.Numerals.{add-one}
use lib.ListN.{drop, get_or, drop_of_length-le, get_or-map}
use lib.Seq.{drop-cons}
use Rattle.std.specs.Prelude.{Some, None}
use Rattle.answer.specs.Ask.{pick}
use Rattle.lists.specs.Bytes.{equal}
use Rattle.notation.specs.Text.{bytes_of}
use Rattle.notation.specs.Kinds.{Row, records, of_kind, byte_of}
use Rattle.notation.specs.Names.{kind_name, named_in}
use Rattle.notation.specs.declared.kinds.Kind.{Kind}
use Rattle.notation.specs.declared.kinds.Kind.TheVariants.{Plan}

first_row : Row
first_row = record { kind = Plan; name = bytes_of "plan"; fields = [] }

abbrev row_at : ℕ → Row
row_at i = get_or records i first_row

-- the kinds in the table's order
abbrev pub all_kinds : List Kind
all_kinds = map (λ (r : Row). r.kind) records

kind_at : (i : ℕ) → get_or all_kinds i Plan ≡ (row_at i).kind
unfolding first_row
kind_at i = get_or-map (λ (r : Row). r.kind) records i first_row

abbrev name_by : Row → List ℕ
name_by r = kind_name (byte_of r.kind)

names_are : map name_by records ≡ map (λ (r : Row). r.name) records
unfolding kind_name of_kind
names_are = refl

name_at : (i : ℕ) → name_by (row_at i) ≡ (row_at i).name
unfolding kind_name of_kind first_row
name_at i =
    sym (get_or-map name_by records i first_row)
    ∙ ap (λ (l : List (List ℕ)). get_or l i (bytes_of "plan")) names_are
    ∙ get_or-map (λ (r : Row). r.name) records i first_row

module _ (word : List ℕ) (i : ℕ) (inside : i < 9) where
  abbrev kind : Kind
  kind = get_or all_kinds i Plan

  named_step : named_in (drop i records) word
      ≡ pick (equal word (kind_name (byte_of kind))) (Some kind) (named_in (drop (i + 1) records) word)
  unfolding named_in
  named_step =
      rw (add-one, drop-cons records i first_row inside, ← name_at i, kind_at i)

  -- the row has the word as its name, or the rows behind it are left
  pub named_here : equal word (kind_name (byte_of kind)) ≡ true → named_in (drop i records) word ≡ Some kind
  named_here e = rw (named_step, e)

  pub named_next : equal word (kind_name (byte_of kind)) ≡ false
      → named_in (drop i records) word ≡ named_in (drop (i + 1) records) word
  named_next e = rw (named_step, e)

pub named_end : (word : List ℕ) (i : ℕ) → 9 ≤ i → named_in (drop i records) word ≡ None
unfolding named_in
named_end word i h = rw (drop_of_length-le records h)
