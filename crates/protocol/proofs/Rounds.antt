-- As many full rounds as changes remain make all. In a round the lowest unmade number m is made: its first half tells
-- every member of its switch that keeps the rules that what m waits for is done, so m is ready there; in the second
-- half the share of m reaches its switch from each of them, and stays in its slot until m is applied; they are a
-- quorum. Who is a member at the end was one all the time. Assumes nothing.
use mathlib.Core.Path.{◌≡◌, refl, sym, ap, ◌∙◌, subst}
use mathlib.Core.Bool.{true, false, not, ◌&&◌, ◌||◌}
use mathlib.Core.List.{List, ◌++◌, Memᴰ}
use mathlib.Core.Logic.{◌⊎◌, inl, inr, ⊎_elim}
use Prim.Native.Nat.{ℕ, zero, suc, ◌+◌, ◌≤◌, ◌<◌}
use native.Mathlib.Omega.{arith}
use lib.Dec.{eqb}
use borrow.Author.Tests.{ltb-true, ltb-false, lt-ltb, le-ltb, le-leb, eq-eqb, ne_eqb, not-true}
use Rattle.answer.specs.Ask.{first_no, reply}
use Rattle.answer.proofs.Asked.{all_yes}
use Rattle.answer.proofs.Bools.{by_bool, by_eq, by_le, and_join, and_parts, or_right}
use Rattle.protocol.specs.Runs.{run, Every, Sometime, Rounds}
use Rattle.protocol.proofs.Ends.{Domain, Slot, Switch, Reply, slot_for, stored, holds, is_quorum}
use Rattle.protocol.proofs.Ends.{share_questions, taken, take_share}
use Rattle.protocol.proofs.Worlds.{share, World, Call, decides, writes_share, takes_share}
use Rattle.protocol.proofs.Worlds.{writes_acknowledgement, takes_acknowledgement, other}
use Rattle.protocol.proofs.Worlds.{at_switch, step, is_member, Agreed, Ready, Allowed}
use Rattle.protocol.proofs.Claims.{Laws, numbers, Serves, Turn, Round, Roomy, is_unmade, unmade}
use Rattle.protocol.proofs.Families.{upd_same, upd_other, upd_at, count_mono, count_both, count-zero, lowest}
use Rattle.protocol.proofs.Families.{count_less}
use Rattle.protocol.proofs.Runs.{run-append, every_append, run-keeps, Keeps, reached, sometime}
use Rattle.protocol.proofs.Invariant.{lasts, Sound, Invariant, holds_sound}
use Rattle.protocol.proofs.Steps.{acknowledged_at, emptied_at, Passes, Taken, refused, repeated, held, made}
use Rattle.protocol.proofs.Steps.{share_cases}
use Rattle.protocol.proofs.Kept.{call_kept, run-kept}
use Rattle.protocol.proofs.Orders.{lawful_agreed}
use Rattle.protocol.proofs.Growing.{Grown, grown_again, call_grows, run_grows}

module _ {Content Table : Type 0} (D : Domain Content Table) where
  -- a share that passes its questions is taken
  passing : (s : Switch Content Table) (c k : ℕ) (x : Content) → Passes D s c k x
      → first_no (share_questions D s c (s.slots c) k x) ≡ 0
  unfolding reply
  passing s c k x p =
      let keeps : (not (eqb (s.slots c).number k) || D.same (s.slots c).content x) ≡ true =
      by_eq (s.slots c).number k (λ e. or_right (not (eqb (s.slots c).number k)) _ (p.same e))
      (λ n. rw (ne_eqb _ _ n)) in
      rw (p.member, lt-ltb _ _ p.above, le-leb _ _ p.latest, keeps, p.room)

  share-taken : (s : Switch Content Table) (c k : ℕ) (x : Content) → Passes D s c k x
      → take_share D s c k x ≡ taken D s c k x
  unfolding take_share
  share-taken s c k x p = all_yes (share_questions D s c (s.slots c) k x) _ _ refl (passing s c k x p)

  module _ (L : Laws D) (roomy : Roomy D) where
    -- what an allowed call keeps where the invariant holds, a run keeps
    abbrev With : (World Content Table → Type 0) → World Content Table → Type 0
    With Q v = Invariant D v × Q v

    both : (Q : World Content Table → Type 0)
        → ((v : World Content Table) → Invariant D v → (x : Call Content) → Allowed D v x → Q v → Q (step D v x))
        → Keeps (step D) (Allowed D) (With Q)
    both Q keep v x a q = (call_kept D L v q.0 x a, keep v q.0 x a q.1)

    -- who serves now served before
    serves_before : {w v : World Content Table} {c k : ℕ} → Grown D w v → Serves D v c k → Serves D w c k
    serves_before {c = c} {k = k} g h = record {
      known = h.known;
      keeps = h.keeps;
      agreed = h.agreed;
      member = g.members (D.switch k) c h.member;
    }

    -- one agreed change
    module _ (m : ℕ) (agreed : Agreed D m) where
      abbrev Done : World Content Table → Type 0
      Done v = m ≤ lasts v (D.switch m)

      -- the slot of a controller on its switch
      abbrev slot_at : World Content Table → ℕ → Slot Content
      slot_at v c = (v.switches (D.switch m)).slots c

      abbrev Holds : Slot Content → Type 0
      Holds slot = (slot.number ≡ m) × (slot.content ≡ D.content m)

      -- a switch has applied m, or the slot of a controller that is its member holds it
      abbrev MadeOrHeld : ℕ → Switch Content Table → Type 0
      MadeOrHeld c s = D.member s.table c ≡ true → (m ≤ s.last) ⊎ Holds (s.slots c)

      abbrev DoneOrHeld : ℕ → World Content Table → Type 0
      DoneOrHeld c v = MadeOrHeld c (v.switches (D.switch m))

      -- a controller knows that m is given and that what m waits for is done
      pub record Primed (c : ℕ) (v : World Content Table) : Type 0 where
        pub given : m ≤ (v.controllers c).last
        pub free : (j : ℕ) → D.waits m j ≡ true → j ≤ (v.controllers c).acknowledged (D.switch j)

      primed_kept : (c : ℕ) (v : World Content Table) → Invariant D v → (x : Call Content) → Allowed D v x → Primed c v
          → Primed c (step D v x)
      primed_kept c v I x a p =
          let g = call_grows D L v x a in
          record {
            given = omega (arith, p.given, g.given c);
            free = λ j e. omega (arith, p.free j e, g.acknowledged c (D.switch j));
          }

      -- a sound number on the switch of m that is not below m is m, while m is not done
      sound_is : (v : World Content Table) → lasts v (D.switch m) < m → (k : ℕ) (x : Content)
          → Sound D (lasts v) (D.switch m) k x → m ≤ k → k ≡ m
      sound_is v undone k x g high =
          by_eq k m (λ e. e) (λ n. absurd (omega (
            arith,
            g.free m
                (L.in_turn k m g.agreed agreed.0 (omega arith) (sym g.on)),
          )))

      -- a share from any controller leaves a held share of m in its slot, or makes m
      share-keeps : (v : World Content Table) → Invariant D v → (c i k : ℕ) (x : Content) → D.strays c ≡ false
          → Allowed D v (takes_share (D.switch m) i k x) → lasts v (D.switch m) < m → Holds (slot_at v c)
          → {r : Reply Content Table} → Taken D (v.switches (D.switch m)) i k x r
          → MadeOrHeld c r.state
      share-keeps v I c i k x keeps a undone h (refused q) is = inr h
      share-keeps v I c i k x keeps a undone h (repeated p e) is = inr h
      share-keeps v I c i k x keeps a undone h (held p few) mem =
          inr (upd_at (λ j slot. j ≡ c → Holds slot) (v.switches (D.switch m)).slots i (slot_for k x) c
          (λ e.
          let g = I.written (share i (D.switch m) k x) (a.1 (rw e keeps)) in
          let is = sound_is v undone k x g (omega (arith, h.0, rw e at p.latest)) in
          (is, sym g.carries ∙ ap D.content is))
          (λ n e. h) refl)
      share-keeps v I c i k x keeps a undone h (made p quorum) mem =
          by_le m k (λ l. inl l)
          (λ low.
          let other : i ≡ c → ⊥ = λ e. omega (arith, h.0, rw e at p.latest) in
          let same = upd_other (v.switches (D.switch m)).slots i (slot_for k x) c other in
          inr (emptied_at D Holds _ k c ((stored (v.switches (D.switch m)) i k x).slots c)
          (λ few. absurd (omega (arith, h.0, rw same at (few mem)))) (λ high is. rw same h)))

      call-keeps : (c : ℕ) → D.strays c ≡ false → (v : World Content Table) → Invariant D v → (x : Call Content)
          → Allowed D v x → lasts v (D.switch m) < m → Holds (slot_at v c) → DoneOrHeld c (step D v x)
      unfolding step
      call-keeps c keeps v I (decides i k) a undone h mem = inr h
      call-keeps c keeps v I (writes_share i k) a undone h mem = inr h
      call-keeps c keeps v I (takes_share s i k x) a undone h mem =
          by_eq s (D.switch m)
          (λ e. subst (λ (t : ℕ). Allowed D v (takes_share t i k x)
          → DoneOrHeld c (at_switch v t k x (take_share D (v.switches t) i k x))) (sym e)
          (λ b. subst (MadeOrHeld c) (sym (upd_same v.switches (D.switch m) _))
          (share-keeps v I c i k x keeps b undone h (share_cases D (v.switches (D.switch m)) i k x))) a mem)
          (λ n. inr (rw (upd_other v.switches s _ (D.switch m) n) h))
      call-keeps c keeps v I (writes_acknowledgement s i) a undone h mem = inr h
      call-keeps c keeps v I (takes_acknowledgement i s k) a undone h mem = inr h
      call-keeps c keeps v I other a undone h mem = inr h

      held_kept : (c : ℕ) → D.strays c ≡ false → (v : World Content Table) → Invariant D v → (x : Call Content)
          → Allowed D v x → DoneOrHeld c v → DoneOrHeld c (step D v x)
      held_kept c keeps v I x a h mem =
          let g = call_grows D L v x a in
          by_le m (lasts v (D.switch m)) (λ done. inl (omega (arith, g.applied (D.switch m))))
          (λ undone. ⊎_elim (λ done. absurd (omega arith)) (λ q. call-keeps c keeps v I x a undone q mem)
          (h (g.members (D.switch m) c mem)))

      -- where m is not done, and a controller that keeps the rules is primed
      module _ (v : World Content Table) (I : Invariant D v) (c : ℕ) (keeps : D.strays c ≡ false) (p : Primed c v)
          (undone : lasts v (D.switch m) < m) where
        -- its slot is empty or holds m
        slot_is : ((slot_at v c).number ≡ 0) ⊎ Holds (slot_at v c)
        slot_is =
            by_eq (slot_at v c).number 0 (λ e. inl e)
            (λ n.
            let t = I.held (D.switch m) c (omega arith) in
            let g = t.2 keeps in
            let high : m ≤ (slot_at v c).number =
            by_le m (slot_at v c).number (λ l. l)
            (λ l. absurd (omega (
              arith,
              t.0,
              I.behind c (D.switch m),
              rw g.on at (p.free (slot_at v c).number (L.in_turn m _ agreed g.agreed.0 l g.on)),
            ))) in
            let is = sound_is v undone _ _ g high in
            inr (is, sym g.carries ∙ ap D.content is))

        -- m is ready
        primed_ready : Ready D (v.controllers c) m
        primed_ready = record {
          positive = agreed.0;
          given = omega (arith, p.given);
          undone = omega (arith, I.behind c (D.switch m));
          free = p.free;
        }

        -- its share passes all questions while it is a member
        primed_passes : is_member D v (D.switch m) c ≡ true → Passes D (v.switches (D.switch m)) c m (D.content m)
        primed_passes is = record {
          member = is;
          above = undone;
          latest = ⊎_elim (λ e. omega arith) (λ h. omega (arith, h.0)) slot_is;
          same = λ e. ⊎_elim (λ z. absurd (omega (arith, agreed.0)))
              (λ h. rw h.1 (L.same_mine (D.content m))) slot_is;
          room = rw (I.safe.tables (D.switch m))
              (roomy (numbers D v.made) (lawful_agreed D _ I.safe.lawful) m agreed);
        }

        -- so it is held or applied
        primed_held : is_member D v (D.switch m) c ≡ true
            → DoneOrHeld c (step D v (takes_share (D.switch m) c m (D.content m)))
        unfolding step
        primed_held mem =
            let s = v.switches (D.switch m) in
            subst (MadeOrHeld c)
            (sym (upd_same v.switches (D.switch m) (take_share D s c m (D.content m)).state))
            (rw (share-taken s c m (D.content m) (primed_passes mem)) (by_bool (holds D m (D.content m) (s.slots c))
            (λ h. rw h (λ is. inr (holds_sound D L m (D.content m) (s.slots c) h)))
            (λ h. rw h (by_bool (is_quorum D m (D.content m) (stored s c m (D.content m)))
            (λ q. rw q (λ is. inl (omega arith)))
            (λ q. rw q (λ is. inr (rw upd_same (refl, refl))))))))

      -- the second half of a round: the share of a primed controller is held at its end, or m is done
      shared_held : (c : ℕ) → D.strays c ≡ false → (w : World Content Table) → Invariant D w → Primed c w
          → (xs : List (Call Content)) → Every (step D) (Allowed D) w xs
          → Sometime (step D) (λ v rest. Ready D (v.controllers c) m
          → Memᴰ (takes_share (D.switch m) c m (D.content m)) rest) w xs
          → DoneOrHeld c (run (step D) w xs)
      shared_held c keeps w I p xs a h =
          let keep_p = both (Primed c) (primed_kept c) in
          let keep_q = both (DoneOrHeld c) (held_kept c keeps) in
          (sometime (step D) (Allowed D) (With (Primed c)) (With (DoneOrHeld c))
          (λ v rest. Ready D (v.controllers c) m → Memᴰ (takes_share (D.switch m) c m (D.content m)) rest) keep_p
          (λ v rest b q now.
          by_le m (lasts v (D.switch m))
          (λ done. run-keeps (step D) (Allowed D) (With (DoneOrHeld c)) keep_q v rest b (q.0, λ mem. inl done))
          (λ undone. reached (step D) (Allowed D) (With (Primed c)) (With (DoneOrHeld c)) keep_p keep_q
          (takes_share (D.switch m) c m (D.content m))
          (λ u ok r. (
            call_kept D L u r.0 (takes_share (D.switch m) c m (D.content m)) ok,
            λ mem.
                let g = call_grows D L u (takes_share (D.switch m) c m (D.content m)) ok in
                by_le m (lasts u (D.switch m)) (λ done. inl (omega (arith, g.applied (D.switch m))))
                (λ low. primed_held u r.0 c keeps r.1 low (g.members (D.switch m) c mem) mem),
          ))
          v rest b q (now (primed_ready v q.0 c keeps q.1 undone))))
          w xs a (I, p) h).1

    -- where every member that keeps the rules is heard, m is made: else all of them would hold it, a quorum
    module _ (m : ℕ) (agreed : Agreed D m) where
      held_made : (w : World Content Table) → Invariant D w
          → ((c : ℕ) → Serves D w c m → DoneOrHeld m agreed c w) → m ≤ lasts w (D.switch m)
      held_made w I heard =
          by_le m (lasts w (D.switch m)) (λ l. l)
          (λ undone.
          let all : (c : ℕ) → c < D.controllers → (is_member D w (D.switch m) c && not (D.strays c)) ≡ true
          → holds D m (D.content m) ((w.switches (D.switch m)).slots c) ≡ true =
          λ c l e.
          let both = and_parts (is_member D w (D.switch m) c) _ e in
          let keeps = not-true (D.strays c) both.1 in
          let held = ⊎_elim (λ done. absurd (omega arith)) (λ h. h)
          (heard c (record { known = l; keeps = keeps; agreed = agreed; member = both.0 }) both.0) in
          and_join _ _ (eq-eqb _ _ held.0) (rw held.1 (L.same_mine (D.content m))) in
          let many = count_mono D.controllers (λ c. is_member D w (D.switch m) c && not (D.strays c))
          (λ c. holds D m (D.content m) ((w.switches (D.switch m)).slots c)) all in
          absurd (omega (
            arith,
            many,
            count_both D.controllers (is_member D w (D.switch m)) D.strays,
            (I.trusted (D.switch m)).enough,
            I.short (D.switch m) m (D.content m) agreed.0,
          )))

      -- where the share of each of them that is primed reaches the switch of m, m is made
      pub shares_make : (w : World Content Table) → Invariant D w → (xs : List (Call Content))
          → Every (step D) (Allowed D) w xs
          → ((c : ℕ) → Serves D (run (step D) w xs) c m → Primed m agreed c w)
          → ((c : ℕ) → Serves D (run (step D) w xs) c m
          → Sometime (step D) (λ v rest. Ready D (v.controllers c) m
          → Memᴰ (takes_share (D.switch m) c m (D.content m)) rest) w xs)
          → m ≤ lasts (run (step D) w xs) (D.switch m)
      shares_make w I xs a primed comes =
          held_made (run (step D) w xs) (run-kept D L w I xs a)
          (λ c serves. shared_held m agreed c serves.keeps w I (primed c serves) xs a (comes c serves))

    -- the first half: an applied number is acknowledged at its end
    pub acknowledged-after : (c j : ℕ) (w : World Content Table) → Invariant D w → j ≤ lasts w (D.switch j)
        → (xs : List (Call Content)) → Every (step D) (Allowed D) w xs
        → Sometime (step D)
        (λ v rest. Memᴰ (takes_acknowledgement c (D.switch j) (v.switches (D.switch j)).last) rest) w xs
        → j ≤ ((run (step D) w xs).controllers c).acknowledged (D.switch j)
    acknowledged-after c j w I done xs a h =
        let Known : World Content Table → Type 0 = λ v. j ≤ (v.controllers c).acknowledged (D.switch j) in
        let keep : Keeps (step D) (Allowed D) Known =
        λ v x ok q. omega (arith, (call_grows D L v x ok).acknowledged c (D.switch j)) in
        sometime (step D) (Allowed D) (λ v. j ≤ lasts v (D.switch j)) Known _
        (λ v x ok q. omega (arith, (call_grows D L v x ok).applied (D.switch j)))
        (λ v rest b q now. reached (step D) (Allowed D) (λ u. Unit {0}) Known (λ u x ok z. z) keep
        (takes_acknowledgement c (D.switch j) (lasts v (D.switch j)))
        (λ u ok z. raised u c (D.switch j) (lasts v (D.switch j)) j q) v rest b tt now)
        w xs a done h
      where
        raised : (u : World Content Table) (c s k j : ℕ) → j ≤ k
            → j ≤ ((step D u (takes_acknowledgement c s k)).controllers c).acknowledged s
        raised u c s k j l = unfold step in
            rw upd_same (acknowledged_at (λ t. j ≤ t.acknowledged s) (u.controllers c) s k (λ high. rw upd_same l)
            (λ low. omega arith))

    -- a round makes an agreed change where all lower ones are made and its number is given everywhere
    module _ (w : World Content Table) (I : Invariant D w) (calls : List (Call Content))
        (a : Every (step D) (Allowed D) w calls) (round : Round D w calls) where
      abbrev end : World Content Table
      end = run (step D) w calls

      -- both halves of a controller's turn
      halves : (c : ℕ) (t : Turn D c w calls)
          → Every (step D) (Allowed D) w t.first
          × Every (step D) (Allowed D) (run (step D) w t.first) t.second
      halves c t = every_append (step D) (Allowed D) w t.first t.second (rw t.cut at a)

      turned : (c : ℕ) (t : Turn D c w calls) → run (step D) (run (step D) w t.first) t.second ≡ end
      turned c t = sym (ap (run (step D) w) t.cut ∙ run-append (step D) w t.first t.second)

      module _ (m : ℕ) (agreed : Agreed D m)
          (given : (c : ℕ) → Serves D w c m → m ≤ (w.controllers c).last)
          (lower : (j : ℕ) → 0 < j → j < m → j ≤ lasts w (D.switch j)) where
        primed : (c : ℕ) (serves : Serves D end c m)
            → Primed m agreed c (run (step D) w (round c m serves).first)
        primed c serves =
            let h = round c m serves in
            let b = (halves c h).0 in
            record {
              given = omega (
                arith,
                given c (serves_before (run_grows D L w calls a) serves),
                (run_grows D L w h.first b).given c,
              );
              free = λ j e.
                  let t = L.lower m j e in
                  acknowledged-after c j w I (lower j t.0 t.1) h.first b
                  (h.acknowledged j (t.0, omega (arith, t.1, agreed.1)));
            }

        pub round-makes : m ≤ lasts end (D.switch m)
        round-makes =
            held_made m agreed end (run-kept D L w I calls a) (λ c serves.
            let t = round c m serves in
            let b = halves c t in
            subst (DoneOrHeld m agreed c) (turned c t)
            (shared_held m agreed c serves.keeps (run (step D) w t.first) (run-kept D L w I t.first b.0)
            (primed c serves) t.second b.1 (t.shared m serves)))

    module _ (d : ℕ) (all : d ≤ D.total) where
      -- up to d numbers are given at each controller that keeps the rules and is a member of some switch
      abbrev Given : World Content Table → Type 0
      Given w = (c k : ℕ) → Serves D w c k → d ≤ (w.controllers c).last

      still_given : {w v : World Content Table} → Grown D w v → Given w → Given v
      still_given g given c k serves = omega (arith, given c k (serves_before g serves), g.given c)

      still_unmade : {w v : World Content Table} → Grown D w v → (i : ℕ) → is_unmade D v (i + 1) ≡ true
          → is_unmade D w (i + 1) ≡ true
      still_unmade {w} {v} g i e =
          let s = D.switch (i + 1) in
          lt-ltb (lasts w s) (i + 1) (omega (arith, ltb-true (lasts v s) (i + 1) e, g.applied s))

      no_more : {w v : World Content Table} → Grown D w v → unmade D v d ≤ unmade D w d
      no_more g = count_mono d _ _ (λ i l. still_unmade g i)

      -- the number of an index
      numbered : (w : World Content Table) (n : ℕ) → ((i : ℕ) → i < n → is_unmade D w (i + 1) ≡ false)
          → (j : ℕ) → 0 < j → j ≤ n → j ≤ lasts w (D.switch j)
      numbered w n none zero h l = absurd (omega arith)
      numbered w n none (suc i) h l =
          let e : i + 1 ≡ suc i = omega arith in
          rw e at (ltb-false (lasts w (D.switch (i + 1))) (i + 1) (none i (omega arith)))

      -- after a round fewer are unmade, if any were
      one_less : (w : World Content Table) → Invariant D w → (calls : List (Call Content))
          → Every (step D) (Allowed D) w calls → Round D w calls → Given w → (k : ℕ) → unmade D w d ≤ suc k
          → unmade D (run (step D) w calls) d ≤ k
      one_less w I calls a round given k few =
          let g = run_grows D L w calls a in
          by_eq (unmade D w d) 0 (λ z. omega (arith, no_more g))
          (λ some.
          let low = lowest d (λ i. is_unmade D w (i + 1)) (omega arith) in
          let m = low.0 + 1 in
          let done = round-makes w I calls a round m (omega arith, omega (arith, low.1))
          (λ c serves. omega (arith, given c m serves, low.1))
          (λ j h l. numbered w low.0 low.3 j h (omega arith)) in
          omega (
            arith,
            count_less d _ (λ i. is_unmade D w (i + 1)) (λ i l. still_unmade g i) low.0 low.1 low.2
                (le-ltb _ _ done),
          ))

      -- as many full rounds as changes up to d remain, with any calls between them, make all of these
      pub rounds_make : (k : ℕ) (w : World Content Table) → Invariant D w → (xs : List (Call Content))
          → Every (step D) (Allowed D) w xs → Given w → unmade D w d ≤ k → Rounds (step D) (Round D) k w xs
          → (j : ℕ) → 0 < j → j ≤ d → j ≤ lasts (run (step D) w xs) (D.switch j)
      rounds_make zero w I xs a given few rounds j h l =
          omega (arith, numbered w d (count-zero d _ (omega arith)) j h l, (run_grows D L w xs a).applied (D.switch j))
      rounds_make (suc k) w I xs a given few (gap, calls, rest, cut, round, rounds) j h l =
          let u = run (step D) w gap in
          let a1 = every_append (step D) (Allowed D) w gap (calls ++ rest) (rw cut at a) in
          let a2 = every_append (step D) (Allowed D) u calls rest a1.1 in
          let J = run-kept D L w I gap a1.0 in
          let K = run-kept D L u J calls a2.0 in
          let g = run_grows D L w gap a1.0 in
          let less = one_less u J calls a2.0 round (still_given g given) k (omega (arith, no_more g)) in
          rw (cut, run-append (step D) w gap (calls ++ rest), run-append (step D) u calls rest)
          (rounds_make k (run (step D) u calls) K rest a2.1
          (still_given (grown_again D g (run_grows D L u calls a2.0)) given) less rounds j h l)
