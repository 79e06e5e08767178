-- Rows beside the edges that document 01 marks: who can be set up, shares one after another (document 01, "Traps"),
-- port 0, and questions in order.
use Rattle.std.specs.Prelude.{List, [], ◌∷◌, ◌++◌, ℕ, ◌+◌, replicate}
use Rattle.answer.specs.Limits.{most_entries}
use Rattle.flow.specs.Tables.{empty_entry, table_of}
use Rattle.flow.specs.declared.Action.{Action}
use Rattle.flow.specs.declared.Action.TheVariants.{Remove, Set}
use Rattle.flow.specs.declared.Table.{Table}
use Rattle.switch.specs.Slots.{slot_for}
use Rattle.switch.specs.declared.Slot.{Slot}
use Rattle.edges.specs.Asking.{Open, share, playbook, applied, setup, shares, nothing, figure, good, refused, end_record}
use Rattle.edges.specs.Table.{Row, rule}

-- a switch has an id below 16 and one to sixteen controllers
abbrev pub setups : List Row
setups =
    (setup 15 16, good) ∷ (setup 16 16, refused 20) ∷ (setup 0 0, refused 20) ∷ (setup 0 17, refused 20) ∷ []

-- a share under a number for one prefix
abbrev pub under : ℕ → Action → Slot
under number action = slot_for number (record { prefix = 0x0A01_0000; length = 16; action = action })

-- at a switch of four controllers, of which two have to agree: one controller twice, under two numbers, is one controller,
-- and two are two; then a second rule under one number, a number below the slot's, the same again, and a number that is
-- applied already
abbrev pub traps : List Row
traps =
    (shares ((3, under 2 Remove) ∷ (3, under 3 Remove) ∷ []), figure 0)
    ∷ (shares ((3, under 2 Remove) ∷ (1, under 2 Remove) ∷ []), figure 1)
    ∷ (shares ((3, under 2 (Set 3)) ∷ (3, under 2 (Set 9)) ∷ []), figure 18)
    ∷ (shares ((3, under 2 Remove) ∷ (3, under 1 Remove) ∷ []), figure 17)
    ∷ (shares ((3, under 2 Remove) ∷ (3, under 2 Remove) ∷ []), figure 2)
    ∷ (shares ((3, under 2 Remove) ∷ (1, under 2 Remove) ∷ (0, under 2 Remove) ∷ []), figure 16)
    ∷ []

-- port 0: no rule sets it, and in bytes it removes
abbrev pub ports : List Row
ports =
    (applied (table_of []) (record { prefix = 0x0A00_0000; length = 8; action = Set 0 }), refused 15)
    ∷ (playbook (0x11 ∷ 5 ∷ 1 ∷ 0x12 ∷ 0 ∷ 5 ∷ 0x0A ∷ 0 ∷ 0 ∷ 0 ∷ 8 ∷ 0 ∷ 0 ∷ end_record), good)
    ∷ []

-- a table that counts more entries than it has places
abbrev pub broken : Table
broken = record { entries = replicate most_entries empty_entry; count = most_entries + 1 }

module _ (o : Open) where
  -- a share with number 0 and a malformed rule is refused by 15 and not by 16; a change on switch 16 with no plan before it
  -- by 12 and not by 34; a malformed rule for a broken table by 20 and not by 15; nothing, written past the end of a
  -- frame, by 25 and not by 26
  abbrev pub orders : List Row
  orders =
      (share 0 (rule o o.prefix 33), refused 15)
      ∷ (playbook (0x12 ∷ 0 ∷ 16 ∷ 0x0A ∷ 0 ∷ 0 ∷ 0 ∷ 8 ∷ 0 ∷ 3 ∷ end_record), refused 12)
      ∷ (applied broken (rule o o.prefix 33), refused 20)
      ∷ (nothing 0 1, refused 25)
      ∷ (nothing 1 1, refused 26)
      ∷ []

  abbrev pub beside : List Row
  beside = setups ++ traps ++ ports ++ orders
