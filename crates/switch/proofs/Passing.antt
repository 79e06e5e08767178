-- What a share that passes questions 15 to 19 obeys, and that it then passes them. Assumes nothing.
use mathlib.Core.Path.{◌≡◌, refl, ap, ◌∙◌}
use mathlib.Core.Bool.{true, false, not}
use Prim.Native.Nat.{◌≤◌, ◌<◌}
use lib.Dec.{eqb}
use borrow.Author.Tests.{ltb-true, leb-true, lt-ltb, le-leb, eq-eqb, ne_eqb}
use Rattle.answer.specs.Ask.{first_no, reply}
use Rattle.answer.proofs.Asked.{answered}
use Rattle.answer.proofs.Bools.{by_or, or_right, by_eq, tf}
use Rattle.flow.specs.Rules.{well_formed}
use Rattle.flow.specs.Tables.{entries_of}
use Rattle.flow.specs.Changes.{room_for}
use Rattle.switch.specs.Slots.{holds}
use Rattle.switch.specs.Shares.{keeps_rule, share_questions}
use Rattle.switch.specs.declared.Slot.{Slot}
use Rattle.switch.specs.declared.Switch.{Switch}
use Rattle.switch.proofs.Agreement.{holds_sound, holds_mine}

pub record Passes (s : Switch) (slot share : Slot) : Type 0 where
  pub formed : well_formed share.rule ≡ true
  pub above : s.last < share.number
  pub latest : slot.number ≤ share.number
  pub same : slot.number ≡ share.number → slot ≡ share
  pub room : room_for share.rule (entries_of s.table) ≡ true

module _ (s : Switch) (slot share : Slot) where
  kept_rule : keeps_rule slot share ≡ true → slot.number ≡ share.number → slot ≡ share
  kept_rule h e =
      by_or (not (eqb slot.number share.number)) _ h
      (λ other. let n : not (eqb slot.number share.number) ≡ false = rw (eq-eqb _ _ e) in tf other n)
      (λ same. holds_sound share slot same)

  keeps : (slot.number ≡ share.number → slot ≡ share) → keeps_rule slot share ≡ true
  keeps h =
      by_eq slot.number share.number
      (λ e. or_right (not (eqb slot.number share.number)) _ (ap (holds share) (h e) ∙ holds_mine share))
      (λ n. rw (ne_eqb _ _ n))

  pub passes : first_no (share_questions s slot share) ≡ 0 → Passes s slot share
  passes h =
      let yes = answered (share_questions s slot share) refl h in
      record {
        formed = yes 15;
        above = ltb-true _ _ (yes 16);
        latest = leb-true _ _ (yes 17);
        same = kept_rule (yes 18);
        room = yes 19;
      }

  pub passing : Passes s slot share → first_no (share_questions s slot share) ≡ 0
  unfolding reply
  passing p =
      rw (p.formed, lt-ltb _ _ p.above, le-leb _ _ p.latest, keeps p.same, p.room)
