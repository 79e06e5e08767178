-- Every case that there is of a call: what shares move is left, a share is stored, or one is stored and its rule
-- applied; each with the state afterwards and the numbers made. And what every call keeps, a list of calls keeps.
use mathlib.Core.Path.{◌≡◌, refl}
use mathlib.Core.Bool.{true, false}
use mathlib.Core.List.{List, [], ◌∷◌}
use Prim.Native.Nat.{ℕ}
use native.Mathlib.Omega.{arith}
use lib.Dec.{ltb, eqb}
use borrow.Author.Tests.{lt-ltb, ne_eqb}
use Rattle.answer.specs.Ask.{pick}
use Rattle.answer.proofs.Asked.{reply-keeps}
use Rattle.answer.proofs.Bools.{and_join, pick_same}
use Rattle.lists.specs.Rising.{rising_from}
use Rattle.lists.specs.Places.{last_of}
use Rattle.message.proofs.Ends.{share-number}
use Rattle.switch.specs.Slots.{is_quorum}
use Rattle.switch.specs.Shares.{stored, applied}
use Rattle.switch.specs.Raising.{raised_by}
use Rattle.switch.specs.States.{switch_ok}
use Rattle.switch.specs.Writing.{message_for, is_there}
use Rattle.switch.specs.Calls.{Managing, raises, Call, receives, writes, manages}
use Rattle.switch.specs.Calls.{managed_by, number_in, reply_to, after}
use Rattle.switch.specs.declared.Reply.{Reply}
use Rattle.switch.specs.declared.Slot.{Slot}
use Rattle.switch.specs.declared.Switch.{Switch}
use Rattle.switch.proofs.Taken.{Arrives, Received, refused, repeated, held, made, received}
use Rattle.switch.proofs.Sent.{written_state}

-- what a call with an answer adds to the numbers made
abbrev pub number_made : ℕ → Call → List ℕ
number_made answer x = pick (eqb answer 1) (number_in x) []

-- what a call that brings no share leaves
pub record Leaves (s t : Switch) : Type 0 where
  pub id : t.id ≡ s.id
  pub n : t.n ≡ s.n
  pub last : t.last ≡ s.last
  pub table : t.table ≡ s.table
  pub slots : t.slots ≡ s.slots
  pub limits : switch_ok s ≡ true → switch_ok t ≡ true

pub leaves_all : (s : Switch) → Leaves s s
leaves_all s = record { id = refl; n = refl; last = refl; table = refl; slots = refl; limits = λ h. h }

pub managed_leaves : (s : Switch) (m : Managing) → Leaves s (managed_by s m).state
unfolding raised_by switch_ok
managed_leaves s (raises cause) =
    reply-keeps (λ (r : Reply). Leaves s r.state) _ _ _ (λ k. leaves_all s)
    (λ y. record { id = refl; n = refl; last = refl; table = refl; slots = refl; limits = λ h. h })

-- what a call does to a state, and the numbers that it makes
pub data Moves (keys : List ℕ) (s : Switch) : Switch → List ℕ → Type 0 where
  shares_left : {t : Switch} → Leaves s t → Moves keys s t []
  share-stored : {bytes : List ℕ} {c : ℕ} {share : Slot} → Arrives s keys bytes c share
      → is_quorum s.n share (stored s c share).slots ≡ false
      → Moves keys s (stored s c share) []
  rule-applied : {bytes : List ℕ} {c : ℕ} {share : Slot} → Arrives s keys bytes c share
      → Moves keys s (applied (stored s c share) share) (share.number ∷ [])

module _ (keys : List ℕ) (s : Switch) where
  -- nothing changes, and bytes are received
  stays : Moves keys s s []
  stays = shares_left (leaves_all s)

  reception : {bytes : List ℕ} {k : ℕ} {t : Switch} → Received s keys bytes k t
      → Moves keys s t (number_made k (receives bytes))
  reception (refused {k} l) = rw (ne_eqb k 1 (λ e. omega arith)) stays
  reception (repeated a y) = stays
  reception (held a y few) = share-stored a few
  reception {bytes} (made a y enough) = rw (share-number bytes a.read) (rule-applied a)

  -- every call; only one that brings bytes makes a number
  pub moves : (x : Call) → Moves keys s (reply_to keys s x).state (number_made (reply_to keys s x).answer x)
  moves (receives bytes) = reception (received s keys bytes)
  moves (writes kind c frame at) =
      rw (pick_same, written_state s keys c (message_for kind s c) (is_there kind s) frame at) stays
  moves (manages m) = rw pick_same (shares_left (managed_leaves s m))

  -- the numbers that it makes rise from the last applied one, which is then the last of them
  pub numbers-made : {t : Switch} {ks : List ℕ} → Moves keys s t ks
      → (rising_from s.last ks ≡ true) × (t.last ≡ last_of s.last ks)
  unfolding rising_from last_of
  numbers-made (shares_left l) = (refl, l.last)
  numbers-made (share-stored a few) = (refl, refl)
  numbers-made (rule-applied a) = (and_join (ltb s.last _) true (lt-ltb _ _ a.passes.above) refl, refl)

-- what every call keeps, a list of calls keeps
pub after-keeps : (P : Switch → Type 0) (keys : List ℕ)
    → ((s : Switch) (x : Call) → P s → P (reply_to keys s x).state)
    → (s : Switch) (xs : List Call) → P s → P (after keys s xs)
unfolding after
after-keeps P keys keep s [] p = p
after-keeps P keys keep s (x ∷ xs) p = after-keeps P keys keep (reply_to keys s x).state xs (keep s x p)
