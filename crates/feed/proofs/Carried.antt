-- The rules that a switch applied in a script, carried out one after another on the table that it has before the
-- script, give the table that it has after it: from any world, by what one record does.
use mathlib.Core.Path.{◌≡◌, refl, sym, ap, ◌∙◌}
use mathlib.Core.Bool.{Bool, true}
use mathlib.Core.List.{List, [], ◌∷◌}
use Prim.Native.Nat.{ℕ, ◌<◌}
use native.Mathlib.Omega.{arith}
use lib.ListN.{length}
use Rattle.std.specs.Prelude.{Option}
use Rattle.answer.specs.Ask.{pick}
use Rattle.answer.proofs.Bools.{and_join}
use Rattle.lists.specs.Arrays.{every}
use Rattle.lists.specs.Places.{last_of}
use Rattle.flow.specs.declared.Table.{Table}
use Rattle.switch.specs.declared.Slot.{Slot}
use Rattle.switch.specs.declared.Switch.{Switch}
use Rattle.rehearsal.specs.Deeds.{deeds_from}
use Rattle.rehearsal.specs.declared.Deed.{Deed}
use Rattle.rehearsal.specs.declared.World.{World}
use Rattle.rehearsal.proofs.Doing.{Does, applies, leaves, switch_at, deeds_keep}
use Rattle.feed.specs.Rules.{rules_applied, table_after, numbers_of}
use Rattle.feed.specs.Mods.{is_formed}

-- rules that take a switch from s to t
pub record Takes (s : Switch) (rules : List Slot) (t : Switch) : Type 0 where
  pub table : table_after s.table rules ≡ t.table
  pub last : last_of s.last (numbers_of rules) ≡ t.last
  pub formed : every is_formed rules ≡ true

pub no_rule_takes : (s : Switch) → Takes s [] s
unfolding table_after last_of every
no_rule_takes s = record { table = refl; last = refl; formed = refl }

-- a rule in front, where the first record applied one
first_takes : {share : Slot} {s t u : Switch} {made : Bool} (rules : List Slot) → Does share s made t → Takes t rules u
    → Takes s (pick made (share ∷ rules) rules) u
unfolding table_after last_of every
first_takes {share} rules (applies formed table last) next = record {
  table = ap (λ (x : Table). table_after x rules) (sym table) ∙ next.table;
  last = ap (λ (k : ℕ). last_of k (numbers_of rules)) (sym last) ∙ next.last;
  formed = and_join (is_formed share) _ formed next.formed;
}
first_takes rules (leaves table last) next = record {
  table = ap (λ (x : Table). table_after x rules) (sym table) ∙ next.table;
  last = ap (λ (k : ℕ). last_of k (numbers_of rules)) (sym last) ∙ next.last;
  formed = next.formed;
}

-- a script, for a switch that is there
pub script_takes : (d : Option ℕ) (s skip : ℕ) (script : List ℕ) (w : World) → s < length w.switches
    → Takes (switch_at s w) (rules_applied s (deeds_from d skip script w).0) (switch_at s (deeds_from d skip script w).1)
unfolding rules_applied
script_takes d s =
    deeds_keep d
    (λ (w : World) (xs : List Deed) (u : World). s < length w.switches
    → Takes (switch_at s w) (rules_applied s xs) (switch_at s u))
    (λ w there. no_rule_takes (switch_at s w))
    (λ w v u x xs step next there.
    first_takes (rules_applied s xs) (step.does s there) (next (omega (arith, step.switches))))
