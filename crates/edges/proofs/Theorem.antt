-- Every row of the table of marked edges holds: the last lines. Assumes nothing.
use mathlib.Core.Path.{◌≡◌, refl}
use mathlib.Core.Bool.{false}
use mathlib.Core.List.{List, [], ◌∷◌, ◌++◌}
use Prim.Native.Nat.{◌%◌, ◌^◌}
use native.Mathlib.Omega.{arith}
use borrow.Author.Tests.{ne_eqb}
use Rattle.answer.specs.Ask.{reply}
use Rattle.flow.specs.Rules.{well_formed}
use Rattle.playbook.specs.Reading.{read_from}
use Rattle.edges.specs.Asking.{Open, InRange, example}
use Rattle.edges.specs.Table.{Row, quorums, rule, rules, numbers, playbooks, table, Hold}
use Rattle.edges.proofs.Shares.{share_15, share_16, share-good}
use Rattle.edges.proofs.Playbooks.{change_15, change_34, change-good}

-- what is left open can be in range
pub met : InRange example
met = record {
  controllers = (omega arith, omega arith);
  known = (omega arith, omega arith);
  store = refl;
  number = (omega arith, omega arith);
  action = (refl, omega arith);
  prefix = omega arith;
  positive = (omega arith, omega arith);
}

-- a prefix above 0 has ones past length 0
positive_bad : (o : Open) → InRange o → well_formed (rule o o.positive 0) ≡ false
positive_bad o h = rw (ne_eqb (o.positive % 2 ^ 32) 0 (λ z. omega (arith, h.positive.0, h.positive.1)))

-- a row and those after it, and rows after others
infixr 1 ◌and◌
◌and◌ : {A B : Type 0} → A → B → A × B
row and rows = (row, rows)

pub joined : (o : Open) (a b : List Row) → Hold o a → Hold o b → Hold o (a ++ b)
joined o [] b x y = y
joined o (row ∷ a) b x y = (x.0, joined o a b x.1 y)

module _ (o : Open) (h : InRange o) where
  quorums_hold : Hold o quorums
  quorums_hold = (refl, (refl, (refl, (refl, tt))))

  rules_hold : Hold o (rules o)
  rules_hold =
      let k = o.number in
      let some = h.number.0 in
      let small = h.number.1 in
      let port = h.action.0 in
      let bad = positive_bad o h in
      share-good o h k 0x0A00_0000 8 small (omega arith) port some
      and change-good o h 0x0A00_0000 8 (omega arith) port
      and share_15 o h k 0x0A00_0001 8 small (omega arith) refl
      and change_15 o h 0x0A00_0001 8 (omega arith) refl
      and share_15 o h k o.prefix 33 small h.prefix refl
      and change_15 o h o.prefix 33 h.prefix refl
      and share_15 o h k o.positive 0 small h.positive.1 bad
      and change_15 o h o.positive 0 h.positive.1 bad
      and share-good o h k 0 0 small (omega arith) port some
      and change-good o h 0 0 (omega arith) port
      and tt

  numbers_hold : Hold o (numbers o)
  numbers_hold = (share_16 o h 0 0x0A00_0000 8 (omega arith) (omega arith) h.action.0 refl, tt)

  playbooks_hold : Hold o (playbooks o)
  unfolding read_from reply
  playbooks_hold = (refl, (refl, (refl, (change_34 o h 0x0A00_0000 8 (omega arith), tt))))

pub edges : (o : Open) → InRange o → Hold o (table o)
edges o h =
    let first = joined o quorums (rules o) (quorums_hold o h) (rules_hold o h) in
    let more = joined o (quorums ++ rules o) (numbers o) first (numbers_hold o h) in
    joined o (quorums ++ rules o ++ numbers o) (playbooks o) more (playbooks_hold o h)
