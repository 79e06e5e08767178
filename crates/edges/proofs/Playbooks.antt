-- A playbook of one plan with one change: what the change's rule makes of it; and a change with no plan before it.
-- Assumes nothing.
use mathlib.Core.Path.{◌≡◌, refl}
use mathlib.Core.Bool.{true, false}
use mathlib.Core.List.{◌++◌}
use Prim.Native.Nat.{ℕ, ◌^◌, ◌<◌}
use borrow.Author.Tests.{lt-ltb, eq-eqb}
use Rattle.answer.specs.Ask.{reply}
use Rattle.lists.specs.Bytes.{be, field}
use Rattle.lists.specs.Kinds.{among, kinds}
use Rattle.lists.proofs.Numbers.{num-be}
use Rattle.flow.specs.Rules.{well_formed, port_of}
use Rattle.flow.specs.declared.Rule.{Rule}
use Rattle.flow.proofs.Actions.{port-action}
use Rattle.playbook.specs.Books.{keys_on, last_count, count_last}
use Rattle.playbook.specs.Reading.{read_from}
use Rattle.edges.specs.Asking.{Open, InRange, playbook, good, refused, change_record, end_record, answer_to}
use Rattle.edges.specs.Table.{rule, planned}

module _ (o : Open) (h : InRange o) (prefix length : ℕ) (fits : prefix < 256 ^ 4) where
  abbrev r : Rule
  r = rule o prefix length

  pub change_15 : well_formed r ≡ false → answer_to o (planned o r) ≡ refused 15
  unfolding read_from reply be field among
  change_15 bad =
      rw (
        lt-ltb o.switch 16 h.known.0,
        num-be 4 prefix fits,
        num-be 2 (port_of o.action) h.action.1,
        port-action o.action h.action.0,
        bad,
      )

  pub change-good : well_formed r ≡ true → answer_to o (planned o r) ≡ good
  unfolding read_from reply be field among kinds keys_on last_count count_last
  change-good formed =
      rw (
        lt-ltb o.switch 16 h.known.0,
        num-be 4 prefix fits,
        num-be 2 (port_of o.action) h.action.1,
        port-action o.action h.action.0,
        formed,
        eq-eqb o.switch o.switch refl,
      )

  pub change_34 : answer_to o (playbook (change_record o r ++ end_record)) ≡ refused 34
  unfolding read_from reply be
  change_34 = rw (lt-ltb o.switch 16 h.known.0)
