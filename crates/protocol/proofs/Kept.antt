-- Every allowed call keeps the invariant. The two cases that matter are a share held and a share applied: what is
-- applied is sound, so the only number newly applied is its own. Shares held past it are strays' alone, for those that
-- keep the rules wait for it; so they are no quorum of the members left, however few these are. Assumes nothing.
use mathlib.Core.Path.{◌≡◌, refl, sym, ap, ◌∙◌}
use mathlib.Core.Bool.{true, false, ◌&&◌}
use mathlib.Core.List.Memᴰ
use mathlib.Core.List.{List, ◌∷◌}
use mathlib.Core.Logic.{◌⊎◌, inl, inr, ⊎_elim}
use Prim.Native.Nat.{ℕ, ◌≤◌, ◌<◌}
use native.Mathlib.Omega.{arith}
use lib.Dec.{eqb}
use borrow.Author.Tests.{eqb-true, eq-eqb, ne_eqb}
use Rattle.answer.proofs.Bools.{by_bool, by_eq, by_or, tf, is_false, and_join, or_left, or_right}
use Rattle.lists.specs.Kinds.{among, is_among}
use Rattle.protocol.specs.Runs.{run, Every}
use Rattle.protocol.proofs.Ends.{Domain, Slot, Switch, Controller, Reply, slot_for, unchanged, stored, holds}
use Rattle.protocol.proofs.Ends.{agreeing}
use Rattle.protocol.proofs.Ends.{applied}
use Rattle.protocol.proofs.Worlds.{Message, share, World, Call, decides, writes_share}
use Rattle.protocol.proofs.Worlds.{takes_share, writes_acknowledgement, takes_acknowledgement, other}
use Rattle.protocol.proofs.Worlds.{writes, at_controller, at_switch, start, step, Trusted, Agreed, Ready, Allowed}
use Rattle.protocol.proofs.Claims.{Laws, numbers, Next, table_after, Safe}
use Rattle.protocol.proofs.Families.{upd_same, upd_other, upd_at, count_mono}
use Rattle.protocol.proofs.Runs.{run-keeps}
use Rattle.protocol.proofs.Steps.{acknowledged_at, reply_stays, emptied_at, Taken, refused, repeated, held, made}
use Rattle.protocol.proofs.Steps.{share_cases}
use Rattle.protocol.proofs.Invariant.{lasts, Sound, sound_grows, message_grows, SoundMessage, SoundSlot}
use Rattle.protocol.proofs.Invariant.{Invariant, start_invariant, holds_sound, quorum_sound}

module _ {Content Table : Type 0} (D : Domain Content Table) where
  -- the last applied number of a switch, if any, is one that was made, and on it
  abbrev LastMade : ℕ → Switch Content Table → List ℕ → Type 0
  LastMade s v ks = 0 < v.last → (is_among v.last ks ≡ true) × (D.switch v.last ≡ s)

  -- a slot as applied numbers grow, where its own switch's stays
  slot_grows : {a b : ℕ → ℕ} {s : ℕ} {t : Table} {c : ℕ} {slot : Slot Content} → ((t : ℕ) → a t ≤ b t) → a s ≡ b s
      → SoundSlot D a s t c slot → SoundSlot D b s t c slot
  slot_grows h e g positive =
      let t = g positive in (omega (arith, t.0), t.1, λ keeps. sound_grows D h (t.2 keeps))

  module _ (w : World Content Table) (I : Invariant D w) where
    -- a message written that is sound
    written-kept : (m : Message Content) → SoundMessage D (lasts w) m → Invariant D (writes w m)
    written-kept m g = record {
      given = I.given;
      behind = I.behind;
      written = λ n h. ⊎_elim (λ e. rw e g) (I.written n) (Memᴰ.cases_cons h);
      trusted = I.trusted;
      held = I.held;
      short = I.short;
      safe = I.safe;
      all_made = I.all_made;
    }

    -- a controller's next state, whose numbers are not ahead
    controller-kept : (c : ℕ) (t : Controller) → t.last ≤ D.total → ((s : ℕ) → t.acknowledged s ≤ lasts w s)
        → Invariant D (at_controller w c t)
    controller-kept c t few behind = record {
      given = λ i. upd_at (λ i v. v.last ≤ D.total) w.controllers c t i few (λ n. I.given i);
      behind = λ i. upd_at (λ i v. (s : ℕ) → v.acknowledged s ≤ lasts w s) w.controllers c t i behind
          (λ n. I.behind i);
      written = I.written;
      trusted = I.trusted;
      held = I.held;
      short = I.short;
      safe = I.safe;
      all_made = I.all_made;
    }

  module _ (L : Laws D) (w : World Content Table) (I : Invariant D w) where
    -- a share of a ready change is sound
    pub ready_sound : (c k : ℕ) → Ready D (w.controllers c) k → Sound D (lasts w) (D.switch k) k (D.content k)
    ready_sound c k r = record {
      agreed = (r.positive, omega (arith, r.given, I.given c));
      on = refl;
      carries = refl;
      free = λ j e. omega (arith, r.free j e, I.behind c (D.switch j));
    }

    module _ (s c k : ℕ) (x : Content) (above : lasts w s < k) (member : D.member (w.switches s).table c ≡ true)
        (sent : D.strays c ≡ false → Sound D (lasts w) s k x) where
      abbrev was : Switch Content Table
      was = w.switches s

      abbrev now : Switch Content Table
      now = stored was c k x

      -- slots that hold a number and content only where they held it before make no quorum
      abbrev HeldBefore : ℕ → Content → ℕ → Slot Content → Type 0
      HeldBefore j y i slot = holds D j y slot ≡ true → holds D j y (was.slots i) ≡ true

      still_short : (j : ℕ) (y : Content) → 0 < j → (slots : ℕ → Slot Content)
          → ((i : ℕ) → HeldBefore j y i (slots i)) → agreeing D j y slots < D.quorum was.table
      still_short j y positive slots before =
          omega (
            arith,
            I.short s j y positive,
            count_mono D.controllers (λ i. holds D j y (slots i)) (λ i. holds D j y (was.slots i))
                (λ i l. before i),
          )

      -- the slots with the share in its sender's
      pub stored_sound : (i : ℕ) → SoundSlot D (lasts w) s was.table i (now.slots i)
      stored_sound i =
          upd_at (λ i slot. SoundSlot D (lasts w) s was.table i slot) was.slots c (slot_for k x) i
          (λ h. (above, member, sent)) (λ n. I.held s i)

      -- a share held
      held_kept : agreeing D k x now.slots < D.quorum was.table
          → Invariant D (at_switch w s k x (unchanged now 0))
      held_kept few =
          let next = at_switch w s k x (unchanged now 0) in
          let same : (t : ℕ) → lasts w t ≡ lasts next t =
          λ t. upd_at (λ t v. lasts w t ≡ v.last) w.switches s now t refl (λ n. refl) in
          let grows : (t : ℕ) → lasts w t ≤ lasts next t = λ t. omega (arith, same t) in
          record {
            given = I.given;
            behind = λ i t. omega (arith, I.behind i t, same t);
            written = λ m h. message_grows D grows m (I.written m h);
            trusted = λ t. upd_at (λ t v. Trusted D v.table) w.switches s now t (I.trusted s)
                (λ n. I.trusted t);
            held = λ t i. upd_at (λ t v. SoundSlot D (lasts next) t v.table i (v.slots i)) w.switches s now t
                (slot_grows grows (same s) (stored_sound i)) (λ n. slot_grows grows (same t) (I.held t i));
            short = λ t j y positive. upd_at (λ t v. agreeing D j y v.slots < D.quorum v.table)
                w.switches s now t (stored_short j y positive) (λ n. I.short t j y positive);
            safe = record {
              carried = I.safe.carried;
              lawful = I.safe.lawful;
              tables = λ t. upd_at (λ t v. v.table ≡ table_after D (numbers D w.made) t) w.switches s now t
                  (I.safe.tables s) (λ n. I.safe.tables t);
              highest = λ j h. omega (arith, I.safe.highest j h, same (D.switch j));
              lasts = λ t. upd_at (λ t v. LastMade t v (numbers D w.made))
                  w.switches s now t (I.safe.lasts s) (λ n. I.safe.lasts t);
            };
            all_made = λ j g h. I.all_made j g (omega (arith, same (D.switch j)));
          }
        where
          stored_short : (j : ℕ) (y : Content) → 0 < j → agreeing D j y now.slots < D.quorum was.table
          stored_short j y positive =
              by_bool (holds D j y (slot_for k x))
              (λ h. let e = holds_sound D L j y (slot_for k x) h in rw (← e.0, ← e.1) few)
              (λ h. still_short j y positive now.slots
              (λ i. upd_at (HeldBefore j y) was.slots c (slot_for k x) i (λ e. tf e h) (λ n e. e)))

      -- a share applied
      module _ (sound : Sound D (lasts w) s k x) (trusted : Trusted D (D.apply x (w.switches s).table)) where
        abbrev then : Switch Content Table
        then = applied D now k x

        abbrev next : World Content Table
        next = at_switch w s k x (unchanged then 1)

        grown : (t : ℕ) → lasts w t ≤ lasts next t
        grown t = upd_at (λ t v. lasts w t ≤ v.last) w.switches s then t (omega arith) (λ n. omega arith)

        here : lasts next s ≡ k
        here = ap (λ (v : Switch Content Table). v.last) (upd_same w.switches s then)

        elsewhere : (t : ℕ) → (s ≡ t → ⊥) → lasts w t ≡ lasts next t
        elsewhere t n = sym (ap (λ (v : Switch Content Table). v.last) (upd_other w.switches s then t n))

        -- what is applied now was applied before, or is this number
        newly : (i : ℕ) → Agreed D i → i ≤ lasts next (D.switch i) → (i ≤ lasts w (D.switch i)) ⊎ (i ≡ k)
        newly i g h =
            by_eq s (D.switch i)
            (λ e. by_eq i k (λ q. inr q) (λ n. inl (sound.free i (L.in_turn k i sound.agreed g.0
            (let top : i ≤ k = omega (arith, rw (← e) at h, here) in omega arith) (sym e ∙ sym sound.on)))))
            (λ n. inl (omega (arith, elsewhere (D.switch i) n)))

        next_lawful : Next D k (numbers D w.made)
        next_lawful = record {
          agreed = sound.agreed;
          new = is_false _ (λ h. let low : k ≤ lasts w s = rw sound.on at (I.safe.highest k h) in omega arith);
          none_skipped = λ j e.
              let l = L.lower k j e in
              I.all_made j (l.0, omega (arith, l.1, sound.agreed.1)) (sound.free j e);
        }

        next-tables : (t : ℕ) → (next.switches t).table ≡ table_after D (numbers D next.made) t
        unfolding table_after
        next-tables t =
            upd_at (λ t v. v.table ≡ table_after D (k ∷ numbers D w.made) t) w.switches s then t
            (rw (eq-eqb _ _ sound.on, sound.carries, I.safe.tables s))
            (λ n. rw (ne_eqb (D.switch k) t (λ e. n (sym sound.on ∙ e))) (I.safe.tables t))

        next-safe : Safe D next.switches next.made
        unfolding among
        next-safe = record {
          carried = λ m h. ⊎_elim (λ e. rw e (sound.on, sound.carries)) (I.safe.carried m)
              (Memᴰ.cases_cons h);
          lawful = (next_lawful, I.safe.lawful);
          tables = next-tables;
          highest = λ i h. by_or (eqb k i) _ h
              (λ e. let q = eqb-true k i e in rw (← q, sound.on) (omega (arith, here)))
              (λ e. omega (arith, I.safe.highest i e, grown (D.switch i)));
          lasts = λ t. upd_at (λ t v. LastMade t v (k ∷ numbers D w.made))
              w.switches s then t (λ h. (or_left _ _ (eq-eqb k k refl), sound.on))
              (λ n h. let old = I.safe.lasts t h in (or_right (eqb k (lasts w t)) _ old.0, old.1));
        }

        -- a controller whose slot is past this number strays: one that keeps the rules waits for it
        past_strays : (i : ℕ) → k < (now.slots i).number → D.strays i ≡ true
        past_strays i high =
            by_bool (D.strays i) (λ e. e)
            (λ keeps.
            let g = (stored_sound i (omega arith)).2 keeps in
            let done = g.free k (L.in_turn (now.slots i).number k g.agreed sound.agreed.0 high
            (sound.on ∙ sym g.on)) in
            absurd (omega (arith, rw sound.on at done)))

        -- so what is held of a number is held by strays among the members left
        emptied_short : (j : ℕ) (y : Content) → 0 < j → agreeing D j y then.slots < D.quorum then.table
        emptied_short j y positive =
            let few = count_mono D.controllers (λ i. holds D j y (then.slots i))
            (λ i. D.member then.table i && D.strays i)
            (λ i l. emptied_at D (λ slot. holds D j y slot ≡ true → (D.member then.table i && D.strays i) ≡ true)
            then.table k i (now.slots i)
            (λ low e. absurd (omega (arith, (holds_sound D L j y (slot_for 0 D.none) e).0)))
            (λ high is e. and_join _ _ is (past_strays i high))) in
            omega (arith, few, trusted.too_few)

        emptied_sound : (i : ℕ) → SoundSlot D (lasts next) s then.table i (then.slots i)
        emptied_sound i =
            emptied_at D (SoundSlot D (lasts next) s then.table i) then.table k i (now.slots i)
            (λ low h. absurd (omega arith))
            (λ high is positive. (
              omega (arith, here),
              is,
              λ keeps. sound_grows D grown ((stored_sound i positive).2 keeps),
            ))

        made_kept : Invariant D next
        unfolding among
        made_kept = record {
          given = I.given;
          behind = λ i t. omega (arith, I.behind i t, grown t);
          written = λ m h. message_grows D grown m (I.written m h);
          trusted = λ t. upd_at (λ t v. Trusted D v.table) w.switches s then t trusted (λ n. I.trusted t);
          held = λ t i. upd_at (λ t v. SoundSlot D (lasts next) t v.table i (v.slots i)) w.switches s then t
              (emptied_sound i) (λ n. slot_grows grown (elsewhere t n) (I.held t i));
          short = λ t j y positive. upd_at (λ t v. agreeing D j y v.slots < D.quorum v.table)
              w.switches s then t (emptied_short j y positive) (λ n. I.short t j y positive);
          safe = next-safe;
          all_made = λ i g h. ⊎_elim (λ old. or_right (eqb k i) _ (I.all_made i g old))
              (λ new. or_left (eqb k i) _ (eq-eqb k i (sym new))) (newly i g h);
        }

    -- a share, whatever is answered
    share-kept : (s c k : ℕ) (x : Content) → (D.strays c ≡ false → Sound D (lasts w) s k x)
        → {r : Reply Content Table} → Taken D (w.switches s) c k x r → Trusted D r.state.table
        → Invariant D (at_switch w s k x r)
    share-kept s c k x sent (refused {q} h) ok = rw (reply_stays D w s k q x (λ e. omega arith)) I
    share-kept s c k x sent (repeated p h) ok = rw (reply_stays D w s k 2 x (λ e. omega arith)) I
    share-kept s c k x sent (held p few) ok = held_kept s c k x p.above p.member sent few
    share-kept s c k x sent (made p quorum) ok =
        made_kept s c k x p.above p.member sent
        (quorum_sound D L (lasts w) s _ _ k x (I.trusted s) (stored_sound s c k x p.above p.member sent)
        (omega (arith, p.above)) quorum)
        ok

    pub call_kept : (x : Call Content) → Allowed D w x → Invariant D (step D w x)
    unfolding step
    call_kept (decides c k) h = controller-kept w I c _ h.1 (I.behind c)
    call_kept (writes_share c k) h =
        controller-kept _ (written-kept w I _ (ready_sound c k h)) c _ (omega (arith, I.given c))
        (λ s. omega (arith, I.behind c s))
    call_kept (takes_share s c k x) h =
        share-kept s c k x (λ keeps. I.written (share c s k x) (h.1 keeps)) (share_cases D (w.switches s) c k x)
        h.2
    call_kept (writes_acknowledgement s c) h = written-kept w I _ (omega arith)
    call_kept (takes_acknowledgement c s k) h =
        acknowledged_at (λ t. Invariant D (at_controller w c t)) (w.controllers c) s k
        (λ l. controller-kept w I c _ (I.given c)
        (λ t. upd_at (λ t v. v ≤ lasts w t) (w.controllers c).acknowledged s k t (I.written _ h)
        (λ n. I.behind c t)))
        (λ l. controller-kept w I c _ (I.given c) (I.behind c))
    call_kept other h = I

  -- so after every run
  pub run-kept : Laws D → (w : World Content Table) → Invariant D w → (xs : List (Call Content))
      → Every (step D) (Allowed D) w xs → Invariant D (run (step D) w xs)
  run-kept L w I xs h = run-keeps (step D) (Allowed D) (Invariant D) (λ v x a J. call_kept L v J x a) w xs h I

  pub safe : Laws D → (xs : List (Call Content)) → Every (step D) (Allowed D) (start D) xs
      → let w = run (step D) (start D) xs in Safe D w.switches w.made
  safe L xs h = (run-kept L (start D) (start_invariant D L) xs h).safe
