-- What is read from bytes, refused or not, has rules in range only: a field's bytes say no prefix of more than four
-- bytes, and no port of more than two. Assumes nothing.
use mathlib.Core.Path.{◌≡◌, refl, ap, ◌∙◌}
use mathlib.Core.Bool.{Bool, true}
use mathlib.Core.List.{List}
use Prim.Native.Nat.{ℕ, ◌≤◌}
use native.Mathlib.Omega.{arith}
use lib.ListN.{length, drop}
use borrow.Author.Tests.{lt-ltb}
use Rattle.std.specs.Prelude.{Result, Ok, Err}
use Rattle.answer.proofs.Bools.{and_join}
use Rattle.lists.specs.Arrays.{every}
use Rattle.lists.specs.Bytes.{field, AreBytes}
use Rattle.lists.proofs.Numbers.{bytes_drop, field_range}
use Rattle.lists.proofs.Padding.{pad-take}
use Rattle.lists.proofs.Tails.{every_snoc}
use Rattle.flow.proofs.Actions.{action-port}
use Rattle.playbook.specs.Limits.{max_changes, change_size}
use Rattle.playbook.specs.Books.{empty_change, no_plans}
use Rattle.playbook.specs.Printing.{rule_in_range, InRange}
use Rattle.playbook.specs.Reading.{refusal, read_first, read_whole}
use Rattle.playbook.specs.Records.{change_of}
use Rattle.playbook.specs.Storing.{book_ok}
use Rattle.playbook.specs.Asking.{record_at}
use Rattle.playbook.specs.declared.Outcome.{Outcome}
use Rattle.playbook.specs.declared.records.Record.{Record}
use Rattle.playbook.specs.declared.records.Record.TheVariants.{Opens, Lists, Ends}
use Rattle.playbook.proofs.Kept.{book_parts, plan_kept, change-kept, none_ok, read_keeps, whole-keeps}
use Rattle.playbook.proofs.Past.{record_keeps}

-- the rule that a record lists, if it lists one, is in range
abbrev record_in_range : Result Record ℕ → Bool
record_in_range (Ok (Lists c)) = rule_in_range c
record_in_range (Ok (Opens s c)) = true
record_in_range (Ok Ends) = true
record_in_range (Err k) = true

-- so it is in bytes
module _ (s : List ℕ) (bytes : AreBytes s) where
  change_range : change_size ≤ length s → rule_in_range (change_of s) ≡ true
  change_range n =
      and_join _ _ (lt-ltb _ _ (field_range s 3 4 bytes (omega arith)))
      (rw (action-port (field s 8 2)) (lt-ltb _ _ (field_range s 8 2 bytes (omega arith))))

  record_range : record_in_range (record_at s) ≡ true
  record_range = record_keeps (λ r. record_in_range r ≡ true) s (λ k n. refl) (λ k h. refl) (λ k h. change_range h)
      (λ k h. refl)

-- and what reading leaves has only such rules
abbrev Ranged : Outcome → Type 0
Ranged r = InRange r.playbook

refusal_range : (k : ℕ) → 1 ≤ k → Ranged (refusal k)
unfolding every
refusal_range k n = refl

read-first_range : (s : List ℕ) → AreBytes s → Ranged (read_first s)
unfolding every
read-first_range s bytes =
    read_keeps Ranged (λ used b. (book_ok b ≡ true) × (every rule_in_range b.changes ≡ true))
    (λ at r. record_in_range r ≡ true) refusal_range
    (λ used b h says.
    ap (every rule_in_range) (pad-take max_changes empty_change b.changes (book_parts b h.0).changes) ∙ h.1)
    (λ used b t h says pass. (plan_kept b t h.0 pass, h.1))
    (λ used b c h says pass.
    (change-kept b c h.0 pass, every_snoc rule_in_range b.changes c ∙ and_join _ _ h.1 says))
    0 s 0 no_plans (λ i. record_range (drop i s) (bytes_drop i s bytes)) (none_ok, refl)

pub read_range : (s : List ℕ) → AreBytes s → InRange (read_whole s).playbook
read_range s bytes = whole-keeps Ranged refusal_range (length s) (read_first s) (read-first_range s bytes)
