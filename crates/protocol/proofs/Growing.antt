-- Calls lower no number: last applied numbers, acknowledged numbers and the last numbers given only grow. Nobody
-- becomes a member. Assumes nothing.
use mathlib.Core.Path.{◌≡◌}
use mathlib.Core.Bool.{true}
use mathlib.Core.List.{List, [], ◌∷◌}
use mathlib.Core.Logic.{inl, inr, ⊎_elim}
use Prim.Native.Nat.{ℕ, ◌≤◌}
use native.Mathlib.Omega.{arith}
use Rattle.protocol.specs.Runs.{run, Every, Sometime}
use Rattle.protocol.proofs.Ends.{Domain, Switch, Controller, Reply, take_share}
use Rattle.protocol.proofs.Worlds.{World, Call, decides, writes_share, takes_share, writes_acknowledgement}
use Rattle.protocol.proofs.Worlds.{takes_acknowledgement, other, at_controller, step, is_member, Allowed}
use Rattle.protocol.proofs.Claims.{Laws}
use Rattle.protocol.proofs.Families.{upd_at, upd_grows}
use Rattle.protocol.proofs.Runs.{run-keeps}
use Rattle.protocol.proofs.Invariant.{lasts}
use Rattle.protocol.proofs.Steps.{acknowledged_at, Taken, refused, repeated, held, made, share_cases}

module _ {Content Table : Type 0} (D : Domain Content Table) where
  pub record Grown (w v : World Content Table) : Type 0 where
    pub applied : (s : ℕ) → lasts w s ≤ lasts v s
    pub acknowledged : (c s : ℕ) → (w.controllers c).acknowledged s ≤ (v.controllers c).acknowledged s
    pub given : (c : ℕ) → (w.controllers c).last ≤ (v.controllers c).last
    pub members : (s c : ℕ) → is_member D v s c ≡ true → is_member D w s c ≡ true

  pub grown_same : (w : World Content Table) → Grown w w
  grown_same w = record {
    applied = λ s. omega arith;
    acknowledged = λ c s. omega arith;
    given = λ c. omega arith;
    members = λ s c m. m;
  }

  pub grown_again : {w v u : World Content Table} → Grown w v → Grown v u → Grown w u
  grown_again g h = record {
    applied = λ s. omega (arith, g.applied s, h.applied s);
    acknowledged = λ c s. omega (arith, g.acknowledged c s, h.acknowledged c s);
    given = λ c. omega (arith, g.given c, h.given c);
    members = λ s c m. g.members s c (h.members s c m);
  }

  module _ (L : Laws D) where
    last_grows : {s : Switch Content Table} {c k : ℕ} {x : Content} {r : Reply Content Table} → Taken D s c k x r
        → s.last ≤ r.state.last
    last_grows (refused h) = omega arith
    last_grows (repeated p h) = omega arith
    last_grows (held p few) = omega arith
    last_grows (made p quorum) = omega (arith, p.above)

    none_joined : {s : Switch Content Table} {c k : ℕ} {x : Content} {r : Reply Content Table} → Taken D s c k x r
        → (i : ℕ) → D.member r.state.table i ≡ true → D.member s.table i ≡ true
    none_joined (refused h) i m = m
    none_joined (repeated p h) i m = m
    none_joined (held p few) i m = m
    none_joined (made p quorum) i m = L.none_joins _ _ i m

    controller_grows : (w : World Content Table) (c : ℕ) (t : Controller)
        → ((s : ℕ) → (w.controllers c).acknowledged s ≤ t.acknowledged s) → (w.controllers c).last ≤ t.last
        → Grown w (at_controller w c t)
    controller_grows w c t higher last = record {
      applied = λ s. omega arith;
      acknowledged = λ i. upd_at (λ i v. (s : ℕ) → (w.controllers i).acknowledged s ≤ v.acknowledged s)
          w.controllers c t i higher (λ n s. omega arith);
      given = λ i. upd_at (λ i v. (w.controllers i).last ≤ v.last) w.controllers c t i last (λ n. omega arith);
      members = λ s i m. m;
    }

    pub call_grows : (w : World Content Table) (x : Call Content) → Allowed D w x → Grown w (step D w x)
    unfolding step
    call_grows w (decides c k) h = controller_grows w c _ (λ s. omega arith) h.0
    call_grows w (writes_share c k) h =
        let g = controller_grows w c (w.controllers c) (λ s. omega arith) (omega arith) in
        record { applied = g.applied; acknowledged = g.acknowledged; given = g.given; members = g.members }
    call_grows w (takes_share s c k x) h = record {
      applied = λ t. upd_at (λ t v. lasts w t ≤ v.last) w.switches s (take_share D (w.switches s) c k x).state t
          (last_grows (share_cases D (w.switches s) c k x)) (λ n. omega arith);
      acknowledged = λ c s. omega arith;
      given = λ c. omega arith;
      members = λ t. upd_at (λ t v. (i : ℕ) → D.member v.table i ≡ true → is_member D w t i ≡ true)
          w.switches s (take_share D (w.switches s) c k x).state t
          (none_joined (share_cases D (w.switches s) c k x)) (λ n i m. m);
    }
    call_grows w (writes_acknowledgement s c) h = record {
      applied = λ s. omega arith;
      acknowledged = λ c s. omega arith;
      given = λ c. omega arith;
      members = λ s c m. m;
    }
    call_grows w (takes_acknowledgement c s k) h =
        acknowledged_at (λ t. Grown w (at_controller w c t)) (w.controllers c) s k
        (λ l. controller_grows w c _ (upd_grows (w.controllers c).acknowledged s k (omega arith)) (omega arith))
        (λ l. controller_grows w c _ (λ t. omega arith) (omega arith))
    call_grows w other h = grown_same w

    pub run_grows : (w : World Content Table) (xs : List (Call Content)) → Every (step D) (Allowed D) w xs
        → Grown w (run (step D) w xs)
    run_grows w xs h =
        run-keeps (step D) (Allowed D) (Grown w) (λ v x a g. grown_again g (call_grows v x a)) w xs h (grown_same w)

    -- what happens at some moment to a member happens, where it is still one in the end
    pub while_member : (M : World Content Table → List (Call Content) → Type 0) (s c : ℕ) (w : World Content Table)
        (xs : List (Call Content)) → Every (step D) (Allowed D) w xs → is_member D (run (step D) w xs) s c ≡ true
        → Sometime (step D) (λ v rest. is_member D v s c ≡ true → M v rest) w xs → Sometime (step D) M w xs
    while_member M s c w [] a m h = h m
    while_member M s c w (x ∷ xs) a m h =
        ⊎_elim (λ now. inl (now ((run_grows w (x ∷ xs) a).members s c m)))
        (λ later. inr (while_member M s c (step D w x) xs a.1 m later)) h
