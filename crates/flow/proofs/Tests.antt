-- The tests of all entries, as the code makes them: each entry alone, and each with the next one. Assumes nothing.
use mathlib.Core.Path.{◌≡◌, refl, sym, ap}
use mathlib.Core.List.{List, [], ◌∷◌}
use mathlib.Core.Bool.{Bool, true, false, ◌&&◌, ◌||◌, and-false}
use Prim.Native.Nat.{ℕ, zero, suc, ◌<◌}
use native.Mathlib.Omega.{arith}
use lib.ListN.{length, get_or}
use native.Mathlib.Numerals.{add-one}
use Rattle.std.specs.List.{list_any, list_all, IsAllAdjacentAnswer}
use Rattle.answer.proofs.Bools.{by_bool, tf, and_join, and_parts}
use Rattle.lists.specs.Arrays.{every, every_tail}
use Rattle.lists.specs.Kinds.{among}
use Rattle.flow.specs.Rules.{Key, entry_key, before, same_key}
use Rattle.flow.specs.Tables.{empty_entry, entry_ok, head_ok}
use Rattle.flow.specs.Changes.{has_entry}
use Rattle.flow.specs.declared.Entry.{Entry}

pub all-every : {A : Type 0} (f : A → Bool) (l : List A) → list_all f l ≡ every f l
unfolding every
all-every f [] = refl
all-every f (x ∷ l) = ap (λ (b : Bool). f x && b) (all-every f l)

pub any-entry : (k : Key) (es : List Entry) → list_any (λ e. same_key (entry_key e) k) es ≡ has_entry k es
unfolding among
any-entry k [] = refl
any-entry k (e ∷ es) = ap (λ (b : Bool). same_key (entry_key e) k || b) (any-entry k es)

-- an entry may not stand in a table
pub unfit : (es : List Entry) → list_all entry_ok es ≡ false → every_tail head_ok es ≡ false
unfolding every_tail
unfit [] h = tf refl h
unfit (e ∷ es) h =
    by_bool (entry_ok e)
    (λ fit. rw (unfit es (rw fit at h), and-false))
    (λ fit. rw fit)

-- two neighbours that are not in order
pub disordered : (es : List Entry) (k : ℕ) → suc k < length es
    → before (entry_key (get_or es k empty_entry)) (entry_key (get_or es (suc k) empty_entry)) ≡ false
    → every_tail head_ok es ≡ false
unfolding every_tail
disordered [] k h b = absurd (omega arith)
disordered (e ∷ []) k h b = absurd (omega arith)
disordered (e ∷ f ∷ es) zero h b = rw (b, and-false)
disordered (e ∷ f ∷ es) (suc k) h b = rw (disordered (f ∷ es) k (omega arith) b, and-false)

-- all fit, and all neighbours are in order
pub in_order : (es : List Entry) → list_all entry_ok es ≡ true
    → ((k : ℕ) → suc k < length es
    → before (entry_key (get_or es k empty_entry)) (entry_key (get_or es (suc k) empty_entry)) ≡ true)
    → every_tail head_ok es ≡ true
unfolding every_tail
in_order [] a n = refl
in_order (e ∷ []) a n = let fit = and_parts (entry_ok e) true a in rw fit.0
in_order (e ∷ f ∷ es) a n =
    let fit = and_parts (entry_ok e) (list_all entry_ok (f ∷ es)) a in
    and_join (head_ok (e ∷ f ∷ es)) _ (and_join (entry_ok e) _ fit.0 (n 0 (omega arith)))
    (in_order (f ∷ es) fit.1 (λ k h. n (suc k) (omega arith)))

-- the answer to whether all neighbours are in order, where all fit
pub ordered_answer : (es : List Entry) → list_all entry_ok es ≡ true → (r : Bool)
    → IsAllAdjacentAnswer (λ x y b. b ≡ before (entry_key x) (entry_key y)) es r → r ≡ every_tail head_ok es
ordered_answer es a true n = sym (in_order es a (λ k h. sym (rw add-one at (n k empty_entry (omega arith)))))
ordered_answer es a false (k, h, n) = sym (disordered es k (omega arith) (sym (rw add-one at (n empty_entry))))
