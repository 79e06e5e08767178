-- An input that is longer than any that can be rehearsed: one byte more than those have tells as much as all of it.
use mathlib.Core.Path.{◌≡◌, refl, ap}
use mathlib.Core.Bool.{Bool, true, false}
use mathlib.Core.List.{List, [], ◌∷◌}
use Prim.Native.Nat.{ℕ, ◌+◌, ◌≤◌, ◌<◌}
use native.Mathlib.Omega.{arith}
use borrow.Author.Tests.{lt-leb, lt-ltb}
use lib.Dec.{leb, ltb}
use lib.ListN.{length, take, drop, length-take, length-drop}
use lib.Seq.{take_all}
use Rattle.std.specs.Prelude.{Option}
use Rattle.answer.specs.Ask.{reply}
use Rattle.answer.proofs.Bools.{tf, by_le}
use Rattle.playbook.specs.Books.{no_plans, store_of}
use Rattle.playbook.specs.Reading.{read_first}
use Rattle.playbook.proofs.Exact.{read_length}
use Rattle.playbook.proofs.Front.{read-front}
use Rattle.rehearsal.specs.Limits.{longest_script, longest_input}
use Rattle.rehearsal.specs.Worlds.{world_of}
use Rattle.rehearsal.specs.Scripts.{line_of, lines_from, script_in, input_questions, world_in, lines_of}
use Rattle.rehearsal.specs.Deeds.{deeds_from, told_by, told_of}
use Rattle.rehearsal.specs.declared.World.{World}

-- the longest input that can be rehearsed, and one byte more
abbrev pub looked : ℕ
looked = longest_input + 1

-- where the last of four answers is no, nothing follows
no_next : {A : Type 0} (refusal : ℕ → A) (x y : A) (a b c d : ℕ) (p q r s : Bool) → s ≡ false
    → reply ((a, p) ∷ (b, q) ∷ (c, r) ∷ (d, s) ∷ []) refusal x
    ≡ reply ((a, p) ∷ (b, q) ∷ (c, r) ∷ (d, s) ∷ []) refusal y
unfolding reply
no_next refusal x y a b c d p q r true e = absurd (tf refl e)
no_next refusal x y a b c d false q r false e = refl
no_next refusal x y a b c d true false r false e = refl
no_next refusal x y a b c d true true false false e = refl
no_next refusal x y a b c d true true true false e = refl

-- the script that is left of more bytes than can be rehearsed is too long
too_long : (rest : List ℕ) → longest_input ≤ length rest → leb (length (drop (read_first rest).used rest)) longest_script ≡ false
too_long rest long =
    lt-leb (length (drop (read_first rest).used rest)) longest_script
    (rw length-drop (omega (arith, read_length rest)))

some : (x : ℕ) (rest : List ℕ) → ltb 0 (length (x ∷ rest)) ≡ true
some x rest = lt-ltb 0 (length (x ∷ rest)) (omega arith)

-- what follows the questions of an input: a refusal, or what comes of its script and the world before it
abbrev after_questions : {A : Type 0} → (ℕ → A) → (List ℕ → World → A) → List ℕ → A
after_questions refusal next input = reply (input_questions input) refusal (next (script_in input) (world_in input))

-- it is the same of an input and of its first bytes, one more than can be rehearsed
module _ {A : Type 0} (refusal : ℕ → A) (next : List ℕ → World → A) where
  cut_long : (x : ℕ) (rest : List ℕ) → longest_input ≤ length rest
      → after_questions refusal next (x ∷ take longest_input rest) ≡ after_questions refusal next (x ∷ rest)
  cut_long x rest long =
      let same = read-front rest longest_input (omega arith) in
      let left = too_long (take longest_input rest) (rw length-take (omega arith)) in
      rw (some x (take longest_input rest), some x rest, same, rw same at left, too_long rest long)
      (no_next _ _ _ 30 20 (read_first rest).answer 28 _ _ _ false refl)

  cut-after : (input : List ℕ) → after_questions refusal next (take looked input) ≡ after_questions refusal next input
  cut-after input =
      by_le (length input) longest_input
      (λ short. ap (after_questions refusal next) (take_all looked input (omega arith)))
      (λ long. longer input long)
    where
      longer : (l : List ℕ) → longest_input < length l
          → after_questions refusal next (take looked l) ≡ after_questions refusal next l
      longer [] h = absurd (omega arith)
      longer (x ∷ rest) h = cut_long x rest (omega arith)

-- the lines, and what is told
pub cut-same : (input : List ℕ) → lines_of (take looked input) ≡ lines_of input
unfolding lines_of
cut-same = cut-after (λ q. line_of 0 q 0 ∷ []) (λ script world. lines_from 0 script 1 world)

pub cut_told : (d : Option ℕ) (input : List ℕ) → told_of d (take looked input) ≡ told_of d input
unfolding told_of
cut_told d =
    cut-after (λ q. told_by q ([], world_of 0 (store_of no_plans)))
    (λ script world. told_by 0 (deeds_from d 0 script world))
