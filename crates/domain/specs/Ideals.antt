-- The ideal controller (document 01, "Controller end", the ideal controller). It is fed numbers of agreed changes, one
-- after another. Assumes nothing.
use Rattle.std.specs.Prelude.{ℕ, ◌-◌, Bool, not, ◌&&◌, ◌||◌, List, [], ◌∷◌, leb, length, get_or}
use Rattle.answer.specs.Ask.{pick}
use Rattle.lists.specs.Arrays.{every}
use Rattle.lists.specs.Kinds.{is_among}
use Rattle.flow.specs.Tables.{table_of}
use Rattle.flow.specs.Changes.{changed}
use Rattle.flow.specs.declared.Table.{Table}
use Rattle.controller.specs.Changes.{empty_undone}
use Rattle.controller.specs.Readiness.{waits_for}
use Rattle.controller.specs.declared.Undone.{Undone}
use Rattle.protocol.specs.Families.{upd}
use Rattle.protocol.specs.Orders.{up_to}

-- the flow tables, the numbers made, and the numbers refused, the latest first
pub record Ideal : Type 0 where
  pub tables : ℕ → Table
  pub made : List ℕ
  pub refused : List ℕ

module _ (agreed : List Undone) where
  -- whether a number is that of an agreed change, and that change: they are numbered from 1 on, in their order
  abbrev pub is_agreed : ℕ → Bool
  is_agreed k = leb 1 k && leb k (length agreed)

  abbrev pub change_of : ℕ → Undone
  change_of k = get_or agreed (k - 1) empty_undone

  -- no lower agreed change on the same switch, or in the same decision and flow, is unmade
  abbrev pub skips_none : List ℕ → Undone → Bool
  skips_none made u = every (λ v. not (waits_for u v) || is_among v.number made) agreed

  -- a number that is neither made already nor skips
  abbrev pub accepts : Ideal → ℕ → Bool
  accepts i k = is_agreed k && not (is_among k i.made) && skips_none i.made (change_of k)

  -- its rule is carried out on its switch's table; any other number is refused
  abbrev pub feed : Ideal → ℕ → Ideal
  feed i k =
      let u = change_of k in
      pick (accepts i k)
      (record {
        tables = upd i.tables u.switch (changed u.rule (i.tables u.switch));
        made = k ∷ i.made;
        refused = i.refused;
      })
      (record { tables = i.tables; made = i.made; refused = k ∷ i.refused })

  -- fed the numbers of a list, the last of it first; the tables begin empty
  unfoldable pub fed : List ℕ → Ideal
  fed [] = record { tables = λ s. table_of []; made = []; refused = [] }
  fed (k ∷ ks) = feed (fed ks) k

  -- the table of switch s once it was fed the numbers from 1 to k, in their order
  abbrev pub table_at : ℕ → ℕ → Table
  table_at s k = (fed (up_to k)).tables s
