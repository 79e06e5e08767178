-- Loops that fill an array of sixteen, one a turn: the keys of a store, and the ends of a world. Assumes nothing.
use mathlib.Core.Path.{◌≡◌, refl, sym, ap, ◌∙◌}
use mathlib.Core.List.{List, [], ◌∷◌, ◌++◌, append_assoc, append-nil}
use Prim.Native.Nat.{ℕ, zero, suc, ◌+◌, ◌-◌, ◌*◌, ◌<◌, ◌≤◌}
use native.Mathlib.Numerals.{add-one}
use native.Mathlib.Omega.{arith}
use lib.ListN.{length, take, drop, set, get_or, replicate, length-append, replicate-append-replicate, get_or-append}
use lib.Seq.{set_at, get_or_at}
use Rattle.answer.proofs.Bools.{by_eq}
use Rattle.lists.proofs.Stores.{stored-whole, store}
use Rattle.message.specs.Keys.{joined}
use Rattle.message.proofs.Stores.{joined_length}
use Rattle.rehearsal.specs.Worlds.{each}

-- a key of two bytes and thirty zeros, put into the zeros after the keys before it
key-put : (key : ℕ → List ℕ) → ((i : ℕ) → length (key i) ≡ 32) → (i a b : ℕ) → i < 16
    → key i ≡ a ∷ b ∷ replicate 30 0
    → set (set (joined key i ++ replicate (512 - 32 * i) 0) (32 * i) a) (32 * i + 1) b
    ≡ joined key (i + 1) ++ replicate (512 - 32 * (i + 1)) 0
unfolding joined
key-put key long i a b h is =
    let before = joined key i in
    let left : List ℕ = replicate (512 - 32 * (i + 1)) 0 in
    let size : length before ≡ 32 * i = joined_length key i (λ j l. long j) in
    let more : length (before ++ a ∷ []) ≡ 32 * i + 1 = length-append before (a ∷ []) ∙ omega arith in
    let split : 512 - 32 * i ≡ 32 + (512 - 32 * (i + 1)) = omega arith in
    let zeros : replicate (512 - 32 * i) 0 ≡ 0 ∷ 0 ∷ replicate 30 0 ++ left =
    rw split (sym (replicate-append-replicate 32 (512 - 32 * (i + 1)) 0)) in
    let next : joined key (i + 1) ≡ before ++ a ∷ b ∷ replicate 30 0 = rw (add-one, is) in
    rw (zeros, set_at before 0 (0 ∷ replicate 30 0 ++ left) a (32 * i) size, next)
    (ap (λ (l : List ℕ). set l (32 * i + 1) b) (sym (append_assoc before (a ∷ []) (0 ∷ replicate 30 0 ++ left)))
    ∙ set_at (before ++ a ∷ []) 0 (replicate 30 0 ++ left) b (32 * i + 1) more
    ∙ append_assoc before (a ∷ []) (b ∷ replicate 30 0 ++ left)
    ∙ sym (append_assoc before (a ∷ b ∷ replicate 30 0) left))

module _ {A : Type 0} (f : ℕ → A) where
  pub each-length : (n : ℕ) → length (each f n) ≡ n
  unfolding each
  each-length zero = refl
  each-length (suc n) = length-append (each f n) (f n ∷ []) ∙ omega (arith, each-length n)

  -- each thing stands at its number
  pub each_at : (n i : ℕ) (z : A) → i < n → get_or (each f n) i z ≡ f i
  unfolding each
  each_at zero i z h = absurd (omega arith)
  each_at (suc n) i z h =
      let long = each-length n in
      by_eq i n (λ e. rw e (get_or_at (each f n) (f n) [] z n long))
      (λ other.
      get_or-append (each f n) (f n ∷ []) z i (omega arith)
      ∙ each_at n i z (omega arith))

  -- a loop has put all sixteen into their places
  all_placed : (l d : List A) (i : ℕ) → i ≡ 16 → l ≡ take i (each f 16) ++ drop i d → length d ≡ 16 → l ≡ each f 16
  all_placed l d i e is long =
      is ∙ rw e (stored-whole (each f 16) d 16 (omega (arith, each-length 16)) (omega arith))

-- no key yet, and all sixteen
no_keys : (key : ℕ → List ℕ) → replicate 512 0 ≡ joined key 0 ++ replicate (512 - 32 * 0) 0
unfolding joined
no_keys key = refl

all_keys : (key : ℕ → List ℕ) (l : List ℕ) (i : ℕ) → i ≡ 16 → l ≡ joined key i ++ replicate (512 - 32 * i) 0
    → l ≡ joined key 16
all_keys key l i e is = is ∙ rw e (append-nil (joined key 16))

module _ (key : ℕ → List ℕ) where
  -- the keys before i stand in their places, and zeros follow
  abbrev pub KeysBefore : ℕ → List ℕ → Type 0
  KeysBefore i keys = (i ≤ 16) × (keys ≡ joined key i ++ replicate (512 - 32 * i) 0)

  pub first_key : KeysBefore 0 (replicate 512 0)
  first_key = (omega arith, no_keys key)

  pub next-key : ((i : ℕ) → length (key i) ≡ 32) → (i a b : ℕ) → {keys : List ℕ} → KeysBefore i keys → i < 16
      → key i ≡ a ∷ b ∷ replicate 30 0 → KeysBefore (i + 1) (set (set keys (32 * i) a) (32 * i + 1) b)
  next-key long i a b before h is = (omega arith, rw before.1 (key-put key long i a b h is))

  pub last_key : (i : ℕ) {keys : List ℕ} → KeysBefore i keys → 16 ≤ i → keys ≡ joined key 16
  last_key i {keys} before h = all_keys key keys i (omega (arith, before.0)) before.1

module _ {A : Type 0} (f : ℕ → A) where
  -- the things before i stand in their places, and what was there is left behind them
  abbrev pub PlacedBefore : ℕ → List A → List A → Type 0
  PlacedBefore i was out = (i ≤ 16) × (out ≡ take i (each f 16) ++ drop i was) × (length was ≡ 16)

  pub next-placed : (i : ℕ) (was : List A) {out : List A} → PlacedBefore i was out → i < 16 → (x : A) → x ≡ f i
      → PlacedBefore (i + 1) was (set out i x)
  next-placed i was before h x is =
      let all = each-length f 16 in
      let long = before.2 in
      let here = each_at f 16 i x h ∙ sym is in
      (omega arith, rw before.1 (store (each f 16) was i x x (omega arith) (omega arith) here), long)

  pub last_placed : (i : ℕ) (was : List A) {out : List A} → PlacedBefore i was out → 16 ≤ i → out ≡ each f 16
  last_placed i was {out} before h = all_placed f out was i (omega (arith, before.0)) before.1 before.2
