-- The one way that a removal and a set go through the entries, so that each law of what a rule does is one induction
-- over it. Assumes nothing.
use mathlib.Core.Path.{◌≡◌, refl}
use mathlib.Core.List.{List, [], ◌∷◌, ◌++◌}
use mathlib.Core.Bool.{Bool, true}
use Rattle.answer.proofs.Bools.{by_bool}
use Rattle.lists.specs.Arrays.{on_head}
use Rattle.flow.specs.Rules.{Key, entry_key, before, same_key}
use Rattle.flow.specs.Changes.{set_entry, drop_entry, act}
use Rattle.flow.specs.declared.Action.{Action}
use Rattle.flow.specs.declared.Action.TheVariants.{Remove, Set}
use Rattle.flow.specs.declared.Entry.{Entry}
use Rattle.flow.proofs.Order.{before_other}

-- a key is before the first entry, where there is one
abbrev pub first : Key → List Entry → Bool
first k es = on_head (λ e. before k (entry_key e)) es

-- what an action puts where its key belongs
abbrev pub fresh : Action → Key → List Entry
fresh Remove k = []
fresh (Set port) k = record { prefix = k.0; length = k.1; port = port } ∷ []

-- the entries before an action and after it: it goes past the entries before its key, and puts its own over the entry
-- of its key, or before what comes after its key
pub data Acts (a : Action) (k : Key) : List Entry → List Entry → Type 0 where
  past : {e : Entry} {es fs : List Entry} → before (entry_key e) k ≡ true → Acts a k es fs
      → Acts a k (e ∷ es) (e ∷ fs)
  over : {e : Entry} {es : List Entry} → same_key (entry_key e) k ≡ true → Acts a k (e ∷ es) (fresh a k ++ es)
  own : {es : List Entry} → first k es ≡ true → Acts a k es (fresh a k ++ es)

pub acts : (a : Action) (k : Key) (es : List Entry) → Acts a k es (act a k es)
unfolding set_entry drop_entry
acts Remove k [] = own refl
acts (Set port) k [] = own refl
acts Remove k (e ∷ es) =
    by_bool (before (entry_key e) k) (λ b. rw b (past b (acts Remove k es)))
    (λ b. by_bool (same_key (entry_key e) k) (λ s. rw (b, s) (over s)) (λ s. rw (b, s) (own (before_other (entry_key e) k b s))))
acts (Set port) k (e ∷ es) =
    by_bool (before (entry_key e) k) (λ b. rw b (past b (acts (Set port) k es)))
    (λ b. by_bool (same_key (entry_key e) k) (λ s. rw (b, s) (over s)) (λ s. rw (b, s) (own (before_other (entry_key e) k b s))))
