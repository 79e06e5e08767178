-- The rules that a switch applied in a rehearsal (document 02, N1: after a change is applied, its rule is written):
-- those of the shares that it answered 1, each with the number of its change, in the order of applying.
use Rattle.std.specs.Prelude.{ℕ, Bool, ◌&&◌, None, List, [], ◌∷◌, map, ltb, eqb, length, take, get_or}
use Rattle.answer.specs.Ask.{pick, reply}
use Rattle.answer.specs.Limits.{switch_count}
use Rattle.lists.specs.Arrays.{pad}
use Rattle.flow.specs.Changes.{changed}
use Rattle.flow.specs.declared.Table.{Table}
use Rattle.switch.specs.Slots.{empty_slot}
use Rattle.switch.specs.declared.Slot.{Slot}
use Rattle.switch.specs.declared.Switch.{Switch}
use Rattle.rehearsal.specs.Deeds.{told_of}
use Rattle.rehearsal.specs.Effects.{no_switch}
use Rattle.rehearsal.specs.Limits.{most_lines}
use Rattle.rehearsal.specs.declared.Deed.{Deed}
use Rattle.feed.specs.declared.Applied.{Applied}

-- whether a record had a rule applied at a switch: answer 1
abbrev pub is_applied : ℕ → Deed → Bool
is_applied s d = eqb d.answer 1 && eqb d.switch s

-- the numbered rules of such records
unfoldable pub rules_applied : ℕ → List Deed → List Slot
rules_applied s [] = []
rules_applied s (d ∷ ds) = pick (is_applied s d) (d.wish.slot ∷ rules_applied s ds) (rules_applied s ds)

-- an answer and numbered rules, in an array
abbrev pub applied_by : ℕ → List Slot → Applied
applied_by k rules = record { answer = k; rules = pad most_lines empty_slot rules; count = length rules }

-- the rules that a switch applied in the rehearsal of an input: a known switch? Then what the rehearsal asks before its
-- script
unfoldable pub applied_of : ℕ → List ℕ → Applied
applied_of s input =
    let told = told_of None input in
    reply ((12, ltb s switch_count) ∷ (told.answer, eqb told.answer 0) ∷ []) (λ k. applied_by k [])
    (applied_by 0 (rules_applied s (take told.count told.deeds)))

-- the rules that are in use
abbrev pub rules_in : Applied → List Slot
rules_in a = take a.count a.rules

-- for laws: the table after rules are carried out one after another, and the numbers of rules
unfoldable pub table_after : Table → List Slot → Table
table_after t [] = t
table_after t (x ∷ xs) = table_after (changed x.rule t) xs

abbrev pub numbers_of : List Slot → List ℕ
numbers_of rules = map (λ x. x.number) rules

-- for laws: a switch after the rehearsal of an input
abbrev pub switch_after : ℕ → List ℕ → Switch
switch_after s input = get_or (told_of None input).world.switches s no_switch
