-- A refused playbook is an empty store and has used no byte, read as a beginning or whole (document 01, "The questions,
-- in order"). It is so of every refusal, and a playbook that was read has answer 0.
use mathlib.Core.Path.{◌≡◌, refl}
use mathlib.Core.List.{List}
use Prim.Native.Nat.{ℕ}
use lib.ListN.{length}
use Rattle.playbook.specs.Books.{no_plans}
use Rattle.playbook.specs.Reading.{refusal, read_first, read_whole}
use Rattle.playbook.specs.declared.Outcome.{Outcome}
use Rattle.playbook.proofs.Kept.{read_keeps, whole-keeps}

-- an answer other than 0 is a refusal by that number
abbrev RefusedEmpty : Outcome → Type 0
RefusedEmpty r = (r.answer ≡ 0 → ⊥) → r ≡ refusal r.answer

pub first-refused : (s : List ℕ) → ((read_first s).answer ≡ 0 → ⊥) → read_first s ≡ refusal (read_first s).answer
first-refused s =
    read_keeps RefusedEmpty (λ used b. Unit {0}) (λ at r. Unit {0}) (λ k n some. refl)
    (λ used b h says some. absurd (some refl)) (λ used b t h says pass. tt) (λ used b c h says pass. tt) 0 s 0 no_plans
    (λ i. tt) tt

pub whole-refused : (s : List ℕ) → ((read_whole s).answer ≡ 0 → ⊥) → read_whole s ≡ refusal (read_whole s).answer
whole-refused s = whole-keeps RefusedEmpty (λ k n some. refl) (length s) (read_first s) (first-refused s)
