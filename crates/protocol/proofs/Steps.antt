-- Every case of a share taken and of an acknowledgement taken, each with what it says. Assumes nothing.
use mathlib.Core.Path.{◌≡◌, refl, ap}
use mathlib.Core.Bool.{true, not}
use mathlib.Core.List.{◌∷◌}
use Prim.Native.Nat.{ℕ, ◌≤◌, ◌<◌}
use lib.Dec.{eqb}
use borrow.Author.Tests.{ltb-true, ltb-false, leb-true, leb-false, eq-eqb, ne_eqb}
use Rattle.answer.specs.Ask.{pick, first_no}
use Rattle.answer.proofs.Asked.{answered, reply-from}
use Rattle.answer.proofs.Bools.{by_bool, by_or, or_none, tf, pick-keeps}
use Rattle.protocol.specs.Families.{upd}
use Rattle.protocol.proofs.Ends.{Domain, Slot, Switch, Controller, Reply, slot_for, unchanged, stored, holds}
use Rattle.protocol.proofs.Ends.{agreeing, is_quorum}
use Rattle.protocol.proofs.Ends.{emptied, share_questions, applied, take_share, is_above, acknowledge}
use Rattle.protocol.proofs.Worlds.{World}
use Rattle.protocol.proofs.Worlds.{other}
use Rattle.protocol.proofs.Worlds.{at_switch, step}
use Rattle.protocol.proofs.Families.{upd_self}

-- an acknowledgement: its number is above the acknowledged one, or nothing changes
pub acknowledged_at : (P : Controller → Type 0) (c : Controller) (s k : ℕ)
    → (c.acknowledged s < k → P (record { last = c.last; acknowledged = upd c.acknowledged s k }))
    → (k ≤ c.acknowledged s → P c) → P (acknowledge c s k)
acknowledged_at P c s k new old =
    pick-keeps P (is_above c s k) _ _ (λ e. new (ltb-true _ _ e)) (λ e. old (ltb-false _ _ e))

module _ {Content Table : Type 0} (D : Domain Content Table) where
  -- a reply that leaves the switch and applies nothing leaves the world
  pub reply_stays : (w : World Content Table) (s k q : ℕ) (x : Content) → (q ≡ 1 → ⊥)
      → at_switch w s k x (unchanged (w.switches s) q) ≡ w
  reply_stays w s k q x n =
      let same : pick (eqb q 1) (record { switch = s; number = k; content = x } ∷ w.made) w.made ≡ w.made =
      rw (ne_eqb q 1 n) in
      λ i. record {
        switches = λ t. upd_self w.switches s t i;
        controllers = w.controllers;
        written = w.written;
        made = same i;
      }

  -- a slot after a number was applied: empty, or above it, a member's and as it was
  pub emptied_at : (P : Slot Content → Type 0) (t : Table) (k c : ℕ) (slot : Slot Content)
      → ((D.member t c ≡ true → slot.number ≤ k) → P (slot_for 0 D.none))
      → (k < slot.number → D.member t c ≡ true → P slot) → P (emptied D t k c slot)
  emptied_at P t k c slot empty above =
      pick-keeps P _ _ _
      (λ e. empty (λ m. by_or (not (D.member t c)) _ e (λ n. tf n (ap not m)) (λ l. leb-true _ _ l)))
      (λ e.
      let no = or_none (not (D.member t c)) _ e in
      above (leb-false _ _ no.1) (by_bool (D.member t c) (λ m. m) (λ m. tf (ap not m) no.0)))

  -- what a share that is taken passed
  pub record Passes (s : Switch Content Table) (c k : ℕ) (x : Content) : Type 0 where
    pub member : D.member s.table c ≡ true
    pub above : s.last < k
    pub latest : (s.slots c).number ≤ k
    pub same : (s.slots c).number ≡ k → D.same (s.slots c).content x ≡ true
    pub room : D.room x s.table ≡ true

  -- every case that there is of a share: refused, a repeat, held, applied
  pub data Taken (s : Switch Content Table) (c k : ℕ) (x : Content) : Reply Content Table → Type 0 where
    refused : {q : ℕ} → 10 ≤ q → Taken s c k x (unchanged s q)
    repeated : Passes s c k x → holds D k x (s.slots c) ≡ true → Taken s c k x (unchanged s 2)
    held : Passes s c k x → agreeing D k x (stored s c k x).slots < D.quorum s.table
        → Taken s c k x (unchanged (stored s c k x) 0)
    made : Passes s c k x → D.quorum s.table ≤ agreeing D k x (stored s c k x).slots
        → Taken s c k x (unchanged (applied D (stored s c k x) k x) 1)

  module _ (s : Switch Content Table) (c k : ℕ) (x : Content) where
    passes : first_no (share_questions D s c (s.slots c) k x) ≡ 0 → Passes s c k x
    passes h =
        let yes = answered (share_questions D s c (s.slots c) k x) refl h in
        record {
          member = yes 47;
          above = ltb-true _ _ (yes 16);
          latest = leb-true _ _ (yes 17);
          same = λ e. by_or (not (eqb (s.slots c).number k)) _ (yes 18)
              (λ n. tf n (ap not (eq-eqb _ _ e))) (λ y. y);
          room = yes 19;
        }

    pub share_cases : Taken s c k x (take_share D s c k x)
    unfolding take_share
    share_cases =
        reply-from (Taken s c k x) 10 _ _ _ refl (λ q h. refused h)
        (λ y. pick-keeps (Taken s c k x) (holds D k x (s.slots c)) _ _ (λ h. repeated (passes y) h)
        (λ h. pick-keeps (Taken s c k x) (is_quorum D k x (stored s c k x)) _ _
        (λ e. made (passes y) (leb-true _ _ e))
        (λ e. held (passes y) (leb-false _ _ e))))

  -- a call of which nothing is seen
  pub other_stays : (w : World Content Table) → step D w other ≡ w
  unfolding step
  other_stays w = refl
