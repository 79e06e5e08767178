-- What writing a FLOW_MOD does to a frame: where it is answered 0 the bytes at the offset are the FLOW_MOD's, and every
-- other byte is as it was; where it is refused the whole frame is. Assumes nothing.
use mathlib.Core.Path.{◌≡◌, refl, sym, ap, ◌∙◌, subst}
use mathlib.Core.Bool.{true, false}
use mathlib.Core.List.{List, [], ◌∷◌}
use Prim.Native.Nat.{ℕ, ◌+◌, ◌≤◌, ◌<◌}
use native.Mathlib.Omega.{arith}
use borrow.Author.Tests.{le-leb, lt-leb, leb-true}
use lib.ListN.{length, take, drop}
use Rattle.answer.specs.Ask.{Question, first_no}
use Rattle.answer.proofs.Asked.{none_asked, refused, asked, by_reply, answered}
use Rattle.lists.specs.Frames.{room_at, placed}
use Rattle.lists.proofs.Frames.{placed-there, placed-before, placed-after, placed-length}
use Rattle.flow.specs.Rules.{well_formed}
use Rattle.flow.specs.declared.Rule.{Rule}
use Rattle.openflow.specs.FlowMods.{length_of, bytes_of}
use Rattle.openflow.specs.Writing.{flow_mod_written}
use Rattle.openflow.specs.declared.Written.{Written}
use Rattle.openflow.proofs.Lengths.{bytes-length}

-- the two replies
abbrev pub done : Rule → Written
done r = record { answer = 0; length = length_of r }

abbrev pub refusal : ℕ → Written
refusal k = record { answer = k; length = 0 }

module _ (number : ℕ) (r : Rule) (frame : List ℕ) (at : ℕ) where
  -- the answers, by the first question whose answer is no
  pub malformed : well_formed r ≡ false → flow_mod_written number r frame at ≡ (refusal 15, frame)
  unfolding flow_mod_written
  malformed n = refused _ _ 15 _ _ n

  pub too_long : well_formed r ≡ true → length frame < at + length_of r
      → flow_mod_written number r frame at ≡ (refusal 25, frame)
  unfolding flow_mod_written
  too_long w n = asked _ _ 15 _ _ w ∙ refused _ _ 25 _ _ (lt-leb _ _ n)

  pub all_written : well_formed r ≡ true → at + length_of r ≤ length frame
      → flow_mod_written number r frame at ≡ (done r, placed (bytes_of number r) frame at)
  unfolding flow_mod_written
  all_written w f = asked _ _ 15 _ _ w ∙ asked _ _ 25 _ _ (le-leb _ _ f) ∙ none_asked _ _

  -- a FLOW_MOD that was written, or a refusal
  pub by_written : {C : Type 0}
      → (well_formed r ≡ true → at + length_of r ≤ length frame
      → flow_mod_written number r frame at ≡ (done r, placed (bytes_of number r) frame at) → C)
      → ((k : ℕ) → 0 < k → flow_mod_written number r frame at ≡ (refusal k, frame) → C) → C
  unfolding flow_mod_written
  by_written is-done is-refused =
      let qs : List Question = (15, well_formed r) ∷ (25, room_at (length frame) at (length_of r)) ∷ [] in
      by_reply 1 qs _ _ refl (λ h e. is-refused (first_no qs) h e)
      (λ pass e. let yes = answered qs refl pass in is-done (yes 15) (leb-true _ _ (yes 25)) e)

  fits : at + length_of r ≤ length frame → at + length (bytes_of number r) ≤ length frame
  fits h = omega (arith, bytes-length number r)

  -- the bytes at the offset
  pub written : (flow_mod_written number r frame at).0.answer ≡ 0
      → take (length_of r) (drop at (flow_mod_written number r frame at).1) ≡ bytes_of number r
  written h =
      by_written
      (λ w f e.
      rw e
      (ap (λ (n : ℕ). take n (drop at (placed (bytes_of number r) frame at))) (sym (bytes-length number r))
      ∙ placed-there (bytes_of number r) frame at (fits f)))
      (λ k n e. let z = rw e at h in absurd (omega arith))

  -- a refusal leaves every byte
  pub not_written : ((flow_mod_written number r frame at).0.answer ≡ 0 → ⊥) → (flow_mod_written number r frame at).1 ≡ frame
  not_written h =
      by_written (λ w f e. absurd (h (ap (λ (a : Written × List ℕ). a.0.answer) e))) (λ k n e. rw e)

  -- whether it was written or refused, the bytes outside it stay
  pub written-length : length (flow_mod_written number r frame at).1 ≡ length frame
  written-length = by_written (λ w f e. rw e (placed-length (bytes_of number r) frame at (fits f))) (λ k n e. rw e)

  pub written-before : take at (flow_mod_written number r frame at).1 ≡ take at frame
  written-before = by_written (λ w f e. rw e (placed-before (bytes_of number r) frame at (fits f))) (λ k n e. rw e)

  pub written_after : drop (at + length_of r) (flow_mod_written number r frame at).1 ≡ drop (at + length_of r) frame
  written_after =
      by_written
      (λ w f e.
      rw e
      (subst (λ (n : ℕ). drop (at + n) (placed (bytes_of number r) frame at) ≡ drop (at + n) frame)
      (bytes-length number r) (placed-after (bytes_of number r) frame at (fits f))))
      (λ k n e. rw e)
