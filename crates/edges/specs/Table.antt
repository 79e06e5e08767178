-- Document 01's edges marked ◆, in its order. Question 15 is asked of a share and of a playbook's change.
use Rattle.std.specs.Prelude.{◌≡◌, List, [], ◌∷◌, ◌++◌, ℕ}
use Rattle.flow.specs.declared.Rule.{Rule}
use Rattle.edges.specs.Asking.{Open, Asked, quorum, share, playbook, Said, figure, good, refused}
use Rattle.edges.specs.Asking.{plan_record, change_record, end_record, answer_to}

-- what is asked, and what document 01 says of it
abbrev pub Row : Type 0
Row = Asked × Said

-- the quorum at n = 1, 3, 4, 16
abbrev pub quorums : List Row
quorums = (quorum 1, figure 1) ∷ (quorum 3, figure 1) ∷ (quorum 4, figure 2) ∷ (quorum 16, figure 6) ∷ []

module _ (o : Open) where
  -- a rule with a prefix and a length; a share of it; and a playbook whose one plan has one change, with this rule
  abbrev pub rule : ℕ → ℕ → Rule
  rule prefix length = record { prefix = prefix; length = length; action = o.action }

  abbrev pub shared : Rule → Asked
  shared r = share o.number r

  abbrev pub planned : Rule → Asked
  planned r = playbook (plan_record o ++ change_record o r ++ end_record)

  -- 0x0A000000 length 8 good; 0x0A000001 length 8: 15; length 33: 15; length 0 needs prefix 0
  abbrev pub rules : List Row
  rules =
      (shared (rule 0x0A00_0000 8), good)
      ∷ (planned (rule 0x0A00_0000 8), good)
      ∷ (shared (rule 0x0A00_0001 8), refused 15)
      ∷ (planned (rule 0x0A00_0001 8), refused 15)
      ∷ (shared (rule o.prefix 33), refused 15)
      ∷ (planned (rule o.prefix 33), refused 15)
      ∷ (shared (rule o.positive 0), refused 15)
      ∷ (planned (rule o.positive 0), refused 15)
      ∷ (shared (rule 0 0), good)
      ∷ (planned (rule 0 0), good)
      ∷ []

  -- share number 0: 16
  abbrev pub numbers : List Row
  numbers = (share 0 (rule 0x0A00_0000 8), refused 16) ∷ []

  -- empty playbook: 30; playbook 13: good; 13 13: 38; change first: 34
  abbrev pub playbooks : List Row
  playbooks =
      (playbook [], refused 30)
      ∷ (playbook (0x13 ∷ []), good)
      ∷ (playbook (0x13 ∷ 0x13 ∷ []), refused 38)
      ∷ (playbook (change_record o (rule 0x0A00_0000 8) ++ end_record), refused 34)
      ∷ []

  -- the table; what is left open may be anything in range
  abbrev pub table : List Row
  table = quorums ++ rules ++ numbers ++ playbooks

  -- every row holds
  abbrev pub Hold : List Row → Type 0
  Hold [] = Unit {0}
  Hold (row ∷ rows) = (answer_to o row.0 ≡ row.1) × Hold rows
