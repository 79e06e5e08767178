-- The rules that a switch applied in a rehearsal are well formed, and carried out one after another on the empty table
-- they give its flow table after the rehearsal; the number of the last one is its last applied number.
use mathlib.Core.Path.{◌≡◌, refl, sym, ap, ◌∙◌}
use mathlib.Core.Bool.{true}
use mathlib.Core.List.{List, []}
use Prim.Native.Nat.{ℕ, ◌<◌}
use Rattle.std.specs.Prelude.{None}
use Rattle.answer.specs.Limits.{switch_count}
use Rattle.answer.proofs.Asked.{reply-keeps}
use Rattle.answer.proofs.Bools.{by_le}
use Rattle.lists.specs.Arrays.{every}
use Rattle.lists.specs.Places.{last_of}
use Rattle.lists.proofs.Padding.{pad-take}
use Rattle.flow.specs.Tables.{table_of}
use Rattle.flow.specs.declared.Table.{Table}
use Rattle.playbook.specs.Books.{no_plans, store_of}
use Rattle.playbook.specs.declared.Playbook.{Playbook}
use Rattle.switch.specs.States.{setup_of}
use Rattle.switch.specs.declared.Reply.{Reply}
use Rattle.switch.specs.declared.Slot.{Slot}
use Rattle.switch.specs.declared.Switch.{Switch}
use Rattle.rehearsal.specs.Limits.{most_lines}
use Rattle.rehearsal.specs.Worlds.{world_of}
use Rattle.rehearsal.specs.Effects.{no_switch}
use Rattle.rehearsal.specs.Scripts.{controllers_in, book_in, script_in, world_in}
use Rattle.rehearsal.specs.Deeds.{broken_deed, deeds_from}
use Rattle.rehearsal.proofs.Doing.{switch_at}
use Rattle.rehearsal.proofs.Filling.{each-length, each_at}
use Rattle.rehearsal.proofs.Telling.{told_cases}
use Rattle.feed.specs.Rules.{rules_applied, applied_of, rules_in, table_after, numbers_of, switch_after}
use Rattle.feed.specs.Mods.{is_formed}
use Rattle.feed.proofs.Cases.{deeds_of, unknown_applied, applied-rules}
use Rattle.feed.proofs.Carried.{Takes, no_rule_takes, script_takes}

-- before every script a switch has the empty table, and nothing was applied: as where a world has nothing
fresh-switch : (s n : ℕ) (p : Playbook) → s < switch_count
    → ((switch_at s (world_of n p)).table ≡ table_of []) × ((switch_at s (world_of n p)).last ≡ 0)
fresh-switch s n p known =
    rw (each_at (λ (i : ℕ). (setup_of i n).state) switch_count s no_switch known)
    (reply-keeps (λ (r : Reply). (r.state.table ≡ table_of []) × (r.state.last ≡ 0)) _ _ _ (λ k. (refl, refl))
    (λ y. (refl, refl)))

from-fresh : (s n : ℕ) (p : Playbook) → s < switch_count → (rules : List Slot) {t : Switch}
    → Takes (switch_at s (world_of n p)) rules t → Takes no_switch rules t
from-fresh s n p known rules takes =
    let fresh = fresh-switch s n p known in
    record {
      table = ap (λ (x : Table). table_after x rules) (sym fresh.0) ∙ takes.table;
      last = ap (λ (k : ℕ). last_of k (numbers_of rules)) (sym fresh.1) ∙ takes.last;
      formed = takes.formed;
    }

told_takes : (s : ℕ) (input : List ℕ) → s < switch_count
    → Takes no_switch (rules_applied s (deeds_of input)) (switch_after s input)
unfolding rules_applied
told_takes s input known =
    let deeds = (deeds_from None 0 (script_in input) (world_in input)).0 in
    let none = store_of no_plans in
    told_cases input
    (λ q no is. rw is (from-fresh s 0 none known [] (no_rule_takes (switch_at s (world_of 0 none)))))
    (λ is few. rw (is, pad-take most_lines (broken_deed 0) deeds few)
    (from-fresh s (controllers_in input) (book_in input).playbook known (rules_applied s deeds)
    (script_takes None s 0 (script_in input) (world_in input)
    (rw (each-length (λ (i : ℕ). (setup_of i (controllers_in input)).state) switch_count) known))))

module _ (s : ℕ) (input : List ℕ) where
  -- every rule that is applied is well formed
  pub rules_formed : every is_formed (rules_in (applied_of s input)) ≡ true
  unfolding every
  rules_formed =
      by_le switch_count s
      (λ above. rw (unknown_applied s input above))
      (λ known. rw (applied-rules s input known) (told_takes s input known).formed)

  -- the rules give the table, and the last one's number is the last applied; 0 where none was
  module _ (known : s < switch_count) where
    pub rules-table : table_after (table_of []) (rules_in (applied_of s input)) ≡ (switch_after s input).table
    rules-table = rw (applied-rules s input known) (told_takes s input known).table

    pub rules_last : last_of 0 (numbers_of (rules_in (applied_of s input))) ≡ (switch_after s input).last
    rules_last = rw (applied-rules s input known) (told_takes s input known).last
