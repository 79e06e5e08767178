-- The FLOW_MODs of what a switch applied in a rehearsal: none is refused as malformed, and an output of the most bytes
-- that there can be has them all, whatever the input.
use mathlib.Core.Path.{◌≡◌}
use mathlib.Core.List.{List, ◌++◌}
use Prim.Native.Nat.{ℕ, ◌≤◌}
use native.Mathlib.Omega.{arith}
use lib.ListN.{length, drop, length-take}
use Rattle.answer.proofs.Bools.{by_bool, by_le}
use Rattle.lists.specs.Arrays.{every}
use Rattle.switch.specs.declared.Slot.{Slot}
use Rattle.feed.specs.Rules.{applied_of, rules_in}
use Rattle.feed.specs.Mods.{most_fed, is_formed, mods_of, mods_written}
use Rattle.feed.proofs.Cases.{few-rules}
use Rattle.feed.proofs.Tables.{rules_formed}
use Rattle.feed.proofs.Putting.{mods_few, mods_malformed, mods_long, mods_whole}

-- what is written of any rules stands within its output
pub written-within : (xs : List Slot) (out : List ℕ) → (mods_written xs out).0.length ≤ length out
written-within xs out =
    by_bool (every is_formed xs)
    (λ formed. by_le (length (mods_of xs)) (length out)
    (λ fits. rw (mods_whole xs out formed fits) fits) (λ long. rw (mods_long xs out formed long) (omega arith)))
    (λ bad. rw (mods_malformed xs out bad) (omega arith))

module _ (s : ℕ) (input : List ℕ) where
  -- the FLOW_MODs of what a switch applied
  abbrev pub fed : List ℕ
  fed = mods_of (rules_in (applied_of s input))

  -- none of its rules is malformed
  pub fed_formed : (out : List ℕ) → (mods_written (rules_in (applied_of s input)) out).0.answer ≡ 15 → ⊥
  fed_formed out =
      let xs = rules_in (applied_of s input) in
      let formed = rules_formed s input in
      by_le (length fed) (length out)
      (λ fits. rw (mods_whole xs out formed fits) (λ e. omega arith))
      (λ long. rw (mods_long xs out formed long) (λ e. omega arith))

  pub fed_room : length fed ≤ most_fed
  fed_room =
      let a = applied_of s input in
      omega (arith, mods_few (rules_in a), length-take a.count a.rules, few-rules s input)

  -- so an output with that room has all of them
  pub fed-whole : (out : List ℕ) → most_fed ≤ length out
      → mods_written (rules_in (applied_of s input)) out
      ≡ (record { answer = 0; length = length fed }, fed ++ drop (length fed) out)
  fed-whole out long =
      mods_whole (rules_in (applied_of s input)) out (rules_formed s input) (omega (arith, fed_room))
