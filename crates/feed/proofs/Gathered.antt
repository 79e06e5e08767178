-- The loop that gathers the rules that a switch applied: after i deeds the rules of these stand in their places.
use mathlib.Core.Path.{◌≡◌, refl, sym, ap, ◌∙◌}
use mathlib.Core.Bool.{true, false}
use mathlib.Core.List.{List, [], ◌∷◌, ◌++◌}
use Prim.Native.Nat.{ℕ, ◌+◌, ◌≤◌, ◌<◌}
use native.Mathlib.Numerals.{add-one}
use native.Mathlib.Omega.{arith}
use lib.ListN.{length, take, get_or, set, replicate, length-append, length-take}
use lib.Seq.{take-suc, take_all}
use Rattle.std.specs.Prelude.{None}
use Rattle.answer.proofs.Bools.{by_bool}
use Rattle.lists.specs.Arrays.{pad}
use Rattle.lists.proofs.Padding.{pad_none, pad_snoc}
use Rattle.switch.specs.Slots.{empty_slot}
use Rattle.switch.specs.declared.Slot.{Slot}
use Rattle.rehearsal.specs.Deeds.{told_of}
use Rattle.rehearsal.specs.declared.Deed.{Deed}
use Rattle.rehearsal.specs.declared.Told.{Told}
use Rattle.feed.specs.Rules.{is_applied, rules_applied, applied_by, applied_of}
use Rattle.feed.proofs.Cases.{rules-few, known-applied, unknown_applied}

-- the rules of deeds and of one more
more_rules : (s : ℕ) (ds : List Deed) (d : Deed) → is_applied s d ≡ true
    → rules_applied s (ds ++ d ∷ []) ≡ rules_applied s ds ++ d.wish.slot ∷ []
unfolding rules_applied
more_rules s [] d e = rw e
more_rules s (x ∷ ds) d e =
    by_bool (is_applied s x)
    (λ yes. rw yes (ap (λ (xs : List Slot). x.wish.slot ∷ xs) (more_rules s ds d e)))
    (λ no. rw no (more_rules s ds d e))

same-rules : (s : ℕ) (ds : List Deed) (d : Deed) → is_applied s d ≡ false
    → rules_applied s (ds ++ d ∷ []) ≡ rules_applied s ds
unfolding rules_applied
same-rules s [] d e = rw e
same-rules s (x ∷ ds) d e =
    by_bool (is_applied s x)
    (λ yes. rw yes (ap (λ (xs : List Slot). x.wish.slot ∷ xs) (same-rules s ds d e)))
    (λ no. rw no (same-rules s ds d e))

module _ (s : ℕ) (deeds : List Deed) where
  -- `n` rules of the first i deeds
  pub record Gathered (i : ℕ) (rules : List Slot) (n : ℕ) : Type 0 where
    pub stored : rules ≡ pad 4096 empty_slot (rules_applied s (take i deeds))
    pub counted : n ≡ length (rules_applied s (take i deeds))

  pub none_gathered : {rules : List Slot} → rules ≡ replicate 4096 empty_slot → Gathered 0 rules 0
  unfolding rules_applied
  none_gathered none =
      record { stored = none ∙ sym (pad_none 4096 empty_slot); counted = refl }

  module _ (i : ℕ) {rules : List Slot} {n : ℕ} (before : Gathered i rules n) where
    -- fewer than deeds that were looked at
    pub few_gathered : n ≤ i
    few_gathered = omega (arith, before.counted, rules-few s (take i deeds), length-take i deeds)

    -- a turn at a deed: with its rule in the next place, or without one
    module _ (h : i < length deeds) (x : Deed) where
      abbrev deed : Deed
      deed = get_or deeds i x

      up_to : take (i + 1) deeds ≡ take i deeds ++ deed ∷ []
      up_to = rw add-one (take-suc deeds i x (omega arith))

      with_rule : is_applied s deed ≡ true → Gathered (i + 1) (set rules n deed.wish.slot) (n + 1)
      with_rule e =
          let is = ap (rules_applied s) up_to ∙ more_rules s (take i deeds) deed e in
          record {
            stored = rw (before.stored, before.counted, is)
                (pad_snoc 4096 empty_slot (rules_applied s (take i deeds)) deed.wish.slot);
            counted = rw (is, length-append) (omega (arith, before.counted));
          }

      without_rule_lem : is_applied s deed ≡ false → Gathered (i + 1) rules n
      without_rule_lem e =
          let is = ap (rules_applied s) up_to ∙ same-rules s (take i deeds) deed e in
          record { stored = rw is before.stored; counted = rw is before.counted }

      pub next_deed : (is_applied s deed ≡ true → Gathered (i + 1) (set rules n deed.wish.slot) (n + 1))
          × (is_applied s deed ≡ false → Gathered (i + 1) rules n)
      next_deed = (with_rule, without_rule_lem)

-- a switch that there is not
pub none_applied : (s : ℕ) (input : List ℕ) {rules : List Slot} → rules ≡ replicate 4096 empty_slot → 16 ≤ s
    → record { answer = 12; rules = rules; count = 0 } ≡ applied_of s input
none_applied s input none above = rw (none, ← pad_none 4096 empty_slot) (sym (unknown_applied s input above))

-- all deeds were looked at
pub all_gathered : (s : ℕ) (input : List ℕ) {t : Told} → t ≡ told_of None input → s < 16 → (i : ℕ)
    → {rules : List Slot} {n : ℕ} → Gathered s (take t.count t.deeds) i rules n → length (take t.count t.deeds) ≤ i
    → record { answer = t.answer; rules = rules; count = n } ≡ applied_of s input
all_gathered s input {t} is known i {rules} {n} g end =
    let deeds = take t.count t.deeds in
    let gathered : record { answer = t.answer; rules = rules; count = n } ≡ applied_by t.answer (rules_applied s deeds) =
    rw (g.stored, g.counted, take_all i deeds end) in
    gathered ∙ rw is (sym (known-applied s input known))
