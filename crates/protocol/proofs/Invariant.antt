-- What holds between calls. A number is sound at a switch where it is agreed there, with its content, and all that it
-- waits for is applied. Whatever a controller that keeps the rules wrote, or has in a slot, is sound; only members have
-- slots that are not empty, and a quorum has a member that keeps the rules; so what is applied is sound, and nothing is
-- skipped. Assumes nothing.
use mathlib.Core.Path.{◌≡◌, refl, subst}
use mathlib.Core.Bool.{true, false, ◌&&◌}
use mathlib.Core.List.Memᴰ
use mathlib.Core.List.{Memᴰ}
use Prim.Native.Nat.{ℕ, ◌≤◌, ◌<◌}
use native.Mathlib.Omega.{arith}
use borrow.Author.Tests.{eqb-true}
use Rattle.answer.proofs.Bools.{tf, is_false, and_parts, and_join}
use Rattle.lists.specs.Kinds.{among, is_among}
use Rattle.protocol.proofs.Ends.{Domain, Slot, slot_for, holds, agreeing}
use Rattle.protocol.proofs.Worlds.{Message, share, acknowledgement, World, start, Trusted, Agreed}
use Rattle.protocol.proofs.Claims.{Laws, numbers, table_after, Safe}
use Rattle.protocol.proofs.Families.{pigeon, count_none}

module _ {Content Table : Type 0} where
  -- the last applied numbers
  abbrev pub lasts : World Content Table → ℕ → ℕ
  lasts w s = (w.switches s).last

  module _ (D : Domain Content Table) where
    pub record Sound (a : ℕ → ℕ) (s k : ℕ) (x : Content) : Type 0 where
      pub agreed : Agreed D k
      pub on : D.switch k ≡ s
      pub carries : D.content k ≡ x
      pub free : (j : ℕ) → D.waits k j ≡ true → j ≤ a (D.switch j)

    pub sound_grows : {a b : ℕ → ℕ} {s k : ℕ} {x : Content} → ((t : ℕ) → a t ≤ b t) → Sound a s k x → Sound b s k x
    sound_grows h g = record {
      agreed = g.agreed;
      on = g.on;
      carries = g.carries;
      free = λ j e. omega (arith, g.free j e, h (D.switch j));
    }

    -- a share is sound, and an acknowledgement not above what is applied
    abbrev pub SoundMessage : (ℕ → ℕ) → Message Content → Type 0
    SoundMessage a (share c s k x) = Sound a s k x
    SoundMessage a (acknowledgement s c k) = k ≤ a s

    pub message_grows : {a b : ℕ → ℕ} → ((t : ℕ) → a t ≤ b t) → (m : Message Content) → SoundMessage a m
        → SoundMessage b m
    message_grows h (share c s k x) g = sound_grows h g
    message_grows h (acknowledgement s c k) g = omega (arith, h s)

    -- a slot is empty, or above the last applied number and a member's, and sound if its controller keeps the rules
    abbrev pub SoundSlot : (ℕ → ℕ) → ℕ → Table → ℕ → Slot Content → Type 0
    SoundSlot a s t c slot = 0 < slot.number
        → (a s < slot.number) × (D.member t c ≡ true)
        × (D.strays c ≡ false → Sound a s slot.number slot.content)

    pub record Invariant (w : World Content Table) : Type 0 where
      pub given : (c : ℕ) → (w.controllers c).last ≤ D.total
      pub behind : (c s : ℕ) → (w.controllers c).acknowledged s ≤ lasts w s
      pub written : (m : Message Content) → Memᴰ m w.written → SoundMessage (lasts w) m
      pub trusted : (s : ℕ) → Trusted D (w.switches s).table
      pub held : (s c : ℕ) → SoundSlot (lasts w) s (w.switches s).table c ((w.switches s).slots c)
      pub short : (s k : ℕ) (x : Content) → 0 < k
          → agreeing D k x (w.switches s).slots < D.quorum (w.switches s).table
      pub safe : Safe D w.switches w.made
      pub all_made : (k : ℕ) → Agreed D k → k ≤ lasts w (D.switch k) → is_among k (numbers D w.made) ≡ true

    -- some member keeps the rules
    pub trusted_keeper : (t : Table) → Trusted D t
        → (c : ℕ) × (c < D.controllers) × (D.member t c ≡ true) × (D.strays c ≡ false)
    trusted_keeper t h =
        let one = pigeon D.controllers (D.member t) (λ c. D.member t c && D.strays c)
        (omega (arith, h.too_few, h.enough)) in
        let c = one.0 in
        (c, one.1, one.2, is_false (D.strays c) (λ e. tf (and_join (D.member t c) _ one.2 e) one.3))

    module _ (L : Laws D) where
      -- a slot that holds a number and content
      pub holds_sound : (k : ℕ) (x : Content) (slot : Slot Content) → holds D k x slot ≡ true
          → (slot.number ≡ k) × (slot.content ≡ x)
      holds_sound k x slot h =
          let t = and_parts _ (D.same slot.content x) h in
          (eqb-true _ _ t.0, L.same_sound _ _ t.1)

      -- nothing has happened yet
      pub start_invariant : Invariant (start D)
      unfolding table_after among
      start_invariant = record {
        given = λ c. omega arith;
        behind = λ c s. omega arith;
        written = λ m h. absurd (Memᴰ.not-nil h);
        trusted = λ s. L.trusted;
        held = λ s c h. absurd (omega arith);
        short = λ s k x h.
            let none = count_none D.controllers (λ c. holds D k x (slot_for 0 D.none))
            (λ c l. is_false _ (λ e. omega (arith, (holds_sound k x (slot_for 0 D.none) e).0))) in
            omega (arith, L.trusted.too_few);
        safe = record {
          carried = λ m h. absurd (Memᴰ.not-nil h);
          lawful = tt;
          tables = λ s. refl;
          highest = λ k h. tf h refl;
          lasts = λ s h. absurd (omega arith);
        };
        all_made = λ k g h. absurd (omega (arith, g.0));
      }

      -- a quorum has a member that keeps the rules
      module _ (a : ℕ → ℕ) (s : ℕ) (t : Table) (slots : ℕ → Slot Content) (k : ℕ) (x : Content)
          (trusted : Trusted D t) (held : (c : ℕ) → SoundSlot a s t c (slots c)) (positive : 0 < k)
          (quorum : D.quorum t ≤ agreeing D k x slots) where
        pub quorum_keeper : (c : ℕ) × (c < D.controllers) × (D.strays c ≡ false)
            × ((slots c).number ≡ k) × ((slots c).content ≡ x)
        quorum_keeper =
            let one = pigeon D.controllers (λ c. holds D k x (slots c)) (λ c. D.member t c && D.strays c)
            (omega (arith, trusted.too_few)) in
            let c = one.0 in
            let is = holds_sound k x (slots c) one.2 in
            let member = (held c (rw is.0 positive)).1 in
            let keeps = is_false (D.strays c) (λ e. tf (and_join (D.member t c) _ member e) one.3) in
            (c, one.1, keeps, is.0, is.1)

        -- so what it holds is sound
        pub quorum_sound : Sound a s k x
        quorum_sound =
            let one = quorum_keeper in
            let c = one.0 in
            let g = (held c (rw one.3 positive)).2 one.2 in
            subst (λ (y : Content). Sound a s k y) one.4
            (subst (λ (i : ℕ). Sound a s i (slots c).content) one.3 g)
