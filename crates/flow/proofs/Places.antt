-- The place of a key decides what setting or removing its entry does. Assumes nothing.
use mathlib.Core.Path.{◌≡◌, refl, sym, ap, ◌∙◌}
use mathlib.Core.List.{List, [], ◌∷◌}
use mathlib.Core.Bool.{true}
use Prim.Native.Nat.{ℕ, zero, suc, ◌≤◌, ◌<◌, zero-le, suc-le-suc}
use native.Mathlib.Nat.{zero-lt-suc}
use lib.ListN.{length, set}
use Rattle.answer.specs.Ask.{pick}
use Rattle.answer.proofs.Bools.{by_bool, tf, pick_ap}
use Rattle.flow.specs.Rules.{Key, entry_key, rule_key, before}
use Rattle.flow.specs.Changes.{set_entry, drop_entry, act, apply_rule}
use Rattle.flow.specs.Places.{place_of, present_at}
use Rattle.lists.specs.Places.{put, del}
use Rattle.flow.specs.declared.Action.{Action}
use Rattle.flow.specs.declared.Action.TheVariants.{Remove, Set}
use Rattle.flow.specs.declared.Rule.{Rule}
use Rattle.flow.specs.declared.Entry.{Entry}

pub place_le : (k : Key) (es : List Entry) → place_of k es ≤ length es
unfolding place_of
place_le k [] = zero-le
place_le k (f ∷ fs) = by_bool (before (entry_key f) k) (λ b. rw b (suc-le-suc (place_le k fs))) (λ b. rw b zero-le)

-- only a place of the list has an entry
pub present_lt : (k : Key) (at : ℕ) (es : List Entry) → present_at at k es ≡ true → at < length es
present_lt k zero [] e = tf e refl
present_lt k (suc at) [] e = tf e refl
present_lt k zero (f ∷ fs) e = zero-lt-suc (length fs)
present_lt k (suc at) (f ∷ fs) e = suc-le-suc (present_lt k at fs e)

-- an entry set takes the place of the one with its key, or is put in there
pub set_law : (e : Entry) (es : List Entry)
    → set_entry e es ≡ pick (present_at (place_of (entry_key e) es) (entry_key e) es) (set es (place_of (entry_key e) es) e)
    (put (place_of (entry_key e) es) e es)
unfolding place_of set_entry
set_law e [] = refl
set_law e (f ∷ fs) =
    let at = place_of (entry_key e) fs in
    by_bool (before (entry_key f) (entry_key e))
    (λ b. rw b (ap (λ (l : List Entry). f ∷ l) (set_law e fs)
    ∙ sym (pick_ap (λ (l : List Entry). f ∷ l) (present_at at (entry_key e) fs) (set fs at e) (put at e fs))))
    (λ b. rw b)

-- an entry removed is the one at the place of its key, if it stands there
pub drop_law : (k : Key) (es : List Entry)
    → drop_entry k es ≡ pick (present_at (place_of k es) k es) (del (place_of k es) es) es
unfolding place_of drop_entry
drop_law k [] = refl
drop_law k (f ∷ fs) =
    let at = place_of k fs in
    by_bool (before (entry_key f) k)
    (λ b. rw b (ap (λ (l : List Entry). f ∷ l) (drop_law k fs)
    ∙ sym (pick_ap (λ (l : List Entry). f ∷ l) (present_at at k fs) (del at fs) fs)))
    (λ b. rw b)

-- what a rule does, by its action
pub apply_remove : (r : Rule) (es : List Entry) → r.action ≡ Remove → apply_rule r es ≡ drop_entry (rule_key r) es
apply_remove r es h = ap (λ (a : Action). act a (rule_key r) es) h

pub apply_set : (r : Rule) (port : ℕ) (es : List Entry) → r.action ≡ Set port
    → apply_rule r es ≡ set_entry (record { prefix = r.prefix; length = r.length; port = port }) es
apply_set r port es h = ap (λ (a : Action). act a (rule_key r) es) h
