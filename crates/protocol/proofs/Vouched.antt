-- Whatever strays send, a share that is answered 1 was written before, with its number and content and for its switch,
-- by some controller that keeps the rules: what lies in the slot of such a controller it wrote, and a quorum has one.
use mathlib.Core.Path.{◌≡◌, subst}
use mathlib.Core.Bool.{false}
use mathlib.Core.List.Memᴰ
use mathlib.Core.List.{List, ◌∷◌, Memᴰ}
use mathlib.Core.Logic.{⊎_elim}
use Prim.Native.Nat.{ℕ, ◌≤◌, ◌<◌}
use native.Mathlib.Omega.{arith}
use Rattle.protocol.proofs.Ends.{Domain, Slot, Switch, Reply, slot_for, stored, agreeing, applied}
use Rattle.protocol.proofs.Worlds.{Made, World, Message, share, Call, decides, writes_share, takes_share}
use Rattle.protocol.proofs.Worlds.{writes_acknowledgement, takes_acknowledgement, other, at_switch, start, step}
use Rattle.protocol.proofs.Worlds.{Allowed}
use Rattle.protocol.proofs.Claims.{Laws}
use Rattle.protocol.proofs.Families.{upd_at}
use Rattle.protocol.proofs.Invariant.{lasts, Invariant, quorum_keeper}
use Rattle.protocol.proofs.Steps.{reply_stays, emptied_at, Taken, Passes, refused, repeated, held, made}
use Rattle.protocol.proofs.Steps.{share_cases}
use Rattle.protocol.proofs.Kept.{stored_sound}

module _ {Content Table : Type 0} (D : Domain Content Table) where
  -- a slot of a controller that keeps the rules holds what it wrote
  abbrev Own : List (Message Content) → ℕ → ℕ → Slot Content → Type 0
  Own ms s c slot =
      D.strays c ≡ false → 0 < slot.number → Memᴰ (share c s slot.number slot.content) ms

  -- a share answered 1 that some controller which keeps the rules wrote
  pub record By (ms : List (Message Content)) (m : Made Content) : Type 0 where
    pub controller : ℕ
    pub known : controller < D.controllers
    pub keeps : D.strays controller ≡ false
    pub wrote : Memᴰ (share controller m.switch m.number m.content) ms

  pub record Vouched (w : World Content Table) : Type 0 where
    pub own : (s c : ℕ) → Own w.written s c ((w.switches s).slots c)
    pub by : (m : Made Content) → Memᴰ m w.made → By w.written m

  -- nothing has happened yet
  pub start_vouched : Vouched (start D)
  start_vouched =
      record { own = λ s c keeps l. absurd (omega arith); by = λ m h. absurd (Memᴰ.not-nil h) }

  -- one message more
  by_more : (ms : List (Message Content)) (n : Message Content) (m : Made Content) → By ms m → By (n ∷ ms) m
  by_more ms n m b = record {
    controller = b.controller;
    known = b.known;
    keeps = b.keeps;
    wrote = Memᴰ.tail b.wrote;
  }

  module _ (L : Laws D) (w : World Content Table) (I : Invariant D w) (B : Vouched w) where
    -- a share taken
    module _ (s c k : ℕ) (x : Content) (sent : D.strays c ≡ false → Memᴰ (share c s k x) w.written) where
      abbrev now : Switch Content Table
      now = stored (w.switches s) c k x

      stored-own : (i : ℕ) → Own w.written s i (now.slots i)
      stored-own i =
          upd_at (λ i slot. Own w.written s i slot) (w.switches s).slots c (slot_for k x) i
          (λ keeps l. sent keeps) (λ n. B.own s i)

      quorum_by : Passes D (w.switches s) c k x → D.quorum (w.switches s).table ≤ agreeing D k x now.slots
          → By w.written (record { switch = s; number = k; content = x })
      quorum_by p enough =
          let sound = stored_sound D L w I s c k x p.above p.member (λ keeps. I.written _ (sent keeps)) in
          let positive : 0 < k = omega (arith, p.above) in
          let one = quorum_keeper D L (lasts w) s _ now.slots k x (I.trusted s) sound positive enough in
          let i = one.0 in
          let wrote = stored-own i one.2 (rw one.3 positive) in
          record {
            controller = i;
            known = one.1;
            keeps = one.2;
            wrote = subst (λ (y : Content). Memᴰ (share i s k y) w.written) one.4
                (subst (λ (j : ℕ). Memᴰ (share i s j (now.slots i).content) w.written) one.3 wrote);
          }

      share_vouched : {r : Reply Content Table} → Taken D (w.switches s) c k x r → Vouched (at_switch w s k x r)
      share_vouched (refused {q} high) = rw (reply_stays D w s k q x (λ e. omega arith)) B
      share_vouched (repeated p same) = rw (reply_stays D w s k 2 x (λ e. omega arith)) B
      share_vouched (held p few) = record {
        own = λ t i. upd_at (λ t v. Own w.written t i (v.slots i)) w.switches s now t (stored-own i)
            (λ n. B.own t i);
        by = B.by;
      }
      share_vouched (made p enough) = record {
        own = λ t i. upd_at (λ t v. Own w.written t i (v.slots i)) w.switches s (applied D now k x) t
            (emptied_at D (λ slot. Own w.written s i slot) _ k i (now.slots i)
            (λ low keeps l. absurd (omega arith)) (λ high member. stored-own i))
            (λ n. B.own t i);
        by = λ m h. ⊎_elim (λ e. rw e (quorum_by p enough)) (B.by m) (Memᴰ.cases_cons h);
      }

    pub call_vouched : (y : Call Content) → Allowed D w y → Vouched (step D w y)
    unfolding step
    call_vouched (decides c k) h = record { own = B.own; by = B.by }
    call_vouched (writes_share c k) h = record {
      own = λ s i keeps l. Memᴰ.tail (B.own s i keeps l);
      by = λ m n. by_more w.written _ m (B.by m n);
    }
    call_vouched (takes_share s c k x) h = share_vouched s c k x h.1 (share_cases D (w.switches s) c k x)
    call_vouched (writes_acknowledgement s c) h = record {
      own = λ t i keeps l. Memᴰ.tail (B.own t i keeps l);
      by = λ m n. by_more w.written _ m (B.by m n);
    }
    call_vouched (takes_acknowledgement c s k) h = record { own = B.own; by = B.by }
    call_vouched other h = B
