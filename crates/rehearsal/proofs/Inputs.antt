-- An input before its script: which question stops it, and what follows where none does.
use mathlib.Core.Path.{◌≡◌, refl, sym, subst, ◌∙◌}
use mathlib.Core.Bool.{Bool, true, false, ◌&&◌}
use mathlib.Core.List.{List, [], ◌∷◌}
use Prim.Native.Nat.{ℕ, ◌+◌, ◌-◌, ◌≤◌, ◌<◌}
use native.Mathlib.Omega.{arith}
use borrow.Author.Tests.{leb-true, lt-ltb, le-ltb, le-leb, lt-leb, eq-eqb, ne_eqb, eqb-false, ltb-true}
use lib.Dec.{leb, ltb, eqb}
use lib.ListN.{length, take, drop, replicate, length-drop}
use lib.Seq.{drop-drop}
use Rattle.std.specs.Prelude.{Option, Result, Ok, Err}
use Rattle.answer.specs.Ask.{reply}
use Rattle.answer.proofs.Bools.{and_parts}
use Rattle.answer.proofs.Asked.{none_asked, refused, asked}
use Rattle.lists.proofs.Padding.{pad_none}
use Rattle.lists.proofs.Stores.{lent_rest}
use Rattle.playbook.specs.Books.{no_plans, store_of}
use Rattle.playbook.specs.Reading.{read_first}
use Rattle.playbook.specs.declared.Outcome.{Outcome}
use Rattle.playbook.proofs.Front.{read_used}
use Rattle.rehearsal.specs.Worlds.{world_of}
use Rattle.rehearsal.specs.Scripts.{controllers_in, book_in, script_in, input_questions, world_in}
use Rattle.rehearsal.specs.Storing.{begun_of}
use Rattle.rehearsal.specs.Deeds.{broken_deed, deeds_from, told_by, told_of}
use Rattle.rehearsal.specs.declared.Begun.{Begun}
use Rattle.rehearsal.specs.declared.Deed.{Deed}
use Rattle.rehearsal.specs.declared.Told.{Told}
use Rattle.rehearsal.specs.declared.World.{World}

-- `begin` by its branches: each is a question of the input
module _ (input : List ℕ) where
  pub no_input : length input ≤ 0 → Err 30 ≡ begun_of input
  unfolding begun_of
  no_input none = sym (refused _ _ 30 _ _ (le-ltb 0 (length input) none))

  module _ (some : 0 < length input) where
    pub wrong_n : (leb 1 (controllers_in input) && leb (controllers_in input) 16) ≡ false → Err 20 ≡ begun_of input
    unfolding begun_of
    wrong_n no-n = sym (asked _ _ 30 _ _ (lt-ltb 0 (length input) some) ∙ refused _ _ 20 _ _ no-n)

    -- the bytes behind the first, as they are lent, and the playbook that was read from them
    module _ (some-n : (leb 1 (controllers_in input) && leb (controllers_in input) 16) ≡ true) (book : Outcome)
        (read : book ≡ read_first (take (length input - 1) (drop 1 input))) where
      is_book : book ≡ book_in input
      is_book = rw (lent_rest input 1) at read

      pub used_within : book.used ≤ length (take (length input - 1) (drop 1 input))
      used_within = rw read (read_used (take (length input - 1) (drop 1 input)))

      script_length : length (script_in input) ≡ length (take (length input - 1) (drop 1 input)) - book.used
      script_length = rw (lent_rest input 1, is_book) (length-drop (book_in input).used (drop 1 input))

      pub bad_book : (book.answer ≡ 0 → ⊥) → Err book.answer ≡ begun_of input
      unfolding begun_of
      bad_book other =
          rw is_book
          (sym (asked _ _ 30 _ _ (lt-ltb 0 (length input) some)
          ∙ asked _ _ 20 _ _ some-n
          ∙ refused _ _ (book_in input).answer _ _ (ne_eqb (book_in input).answer 0 (rw is_book at other))))

      module _ (good : book.answer ≡ 0) where
        pub long_script : 8192 < length (take (length input - 1) (drop 1 input)) - book.used → Err 28 ≡ begun_of input
        unfolding begun_of
        long_script long =
            sym (asked _ _ 30 _ _ (lt-ltb 0 (length input) some)
            ∙ asked _ _ 20 _ _ some-n
            ∙ asked _ _ (book_in input).answer _ _ (eq-eqb (book_in input).answer 0 (rw is_book at good))
            ∙ refused _ _ 28 _ _ (lt-leb (length (script_in input)) 8192 (omega (arith, script_length))))

        pub begins : length (take (length input - 1) (drop 1 input)) - book.used ≤ 8192 → {w : World}
            → w ≡ world_of (controllers_in input) book.playbook
            → Ok (record { script = 1 + book.used; world = w }) ≡ begun_of input
        unfolding begun_of
        begins short of =
            rw (of, is_book)
            (sym (asked _ _ 30 _ _ (lt-ltb 0 (length input) some)
            ∙ asked _ _ 20 _ _ some-n
            ∙ asked _ _ (book_in input).answer _ _ (eq-eqb (book_in input).answer 0 (rw is_book at good))
            ∙ asked _ _ 28 _ _ (le-leb (length (script_in input)) 8192 (omega (arith, script_length)))
            ∙ none_asked _ _))

-- two replies to the same four questions: what holds of their refusals by a number other than 0, and of what follows
both : {A B : Type 0} (P : A → B → Type 0) (f : ℕ → A) (g : ℕ → B) (x : A) (y : B) (k : ℕ) (p q r s : Bool)
    → (r ≡ false → k ≡ 0 → ⊥) → ((k : ℕ) → (k ≡ 0 → ⊥) → P (f k) (g k)) → (p ≡ true → q ≡ true → s ≡ true → P x y)
    → P (reply ((30, p) ∷ (20, q) ∷ (k, r) ∷ (28, s) ∷ []) f x) (reply ((30, p) ∷ (20, q) ∷ (k, r) ∷ (28, s) ∷ []) g y)
unfolding reply
both P f g x y k false q r s other refuses passes = refuses 30 (λ e. omega arith)
both P f g x y k true false r s other refuses passes = refuses 20 (λ e. omega arith)
both P f g x y k true true false s other refuses passes = refuses k (other refl)
both P f g x y k true true true false other refuses passes = refuses 28 (λ e. omega arith)
both P f g x y k true true true true other refuses passes = passes refl refl refl

-- two things that the questions of an input are asked for
pub beside : {A B : Type 0} (P : A → B → Type 0) (input : List ℕ) (f : ℕ → A) (x : A) (g : ℕ → B) (y : B)
    → ((k : ℕ) → (k ≡ 0 → ⊥) → P (f k) (g k))
    → (ltb 0 (length input) ≡ true → (leb 1 (controllers_in input) && leb (controllers_in input) 16) ≡ true
    → leb (length (script_in input)) 8192 ≡ true → P x y)
    → P (reply (input_questions input) f x) (reply (input_questions input) g y)
beside P input f x g y refuses passes =
    both P f g x y (book_in input).answer (ltb 0 (length input))
    (leb 1 (controllers_in input) && leb (controllers_in input) 16) (eqb (book_in input).answer 0)
    (leb (length (script_in input)) 8192) (λ e. eqb-false (book_in input).answer 0 e) refuses passes

-- an input that was refused has no deeds
pub fault_told : (d : Option ℕ) (input : List ℕ) {q : ℕ} → begun_of input ≡ Err q → {none : List Deed}
    → none ≡ replicate 4096 (broken_deed 0) → {w : World} → w ≡ world_of 0 (store_of no_plans)
    → record { answer = q; deeds = none; count = 0; world = w } ≡ told_of d input
unfolding begun_of told_of
fault_told d input {q} is {none} no_deeds {w} no_world =
    rw (no_deeds, no_world, ← pad_none 4096 (broken_deed 0))
    (beside (λ (b : Result Begun ℕ) (t : Told). b ≡ Err q → told_by q ([], world_of 0 (store_of no_plans)) ≡ t) input
    _ _ _ _ (λ k other e. let same : k ≡ q = cc in rw same) (λ some few short e. cc) is)

-- one that was not has its script's deeds, from its world
pub record Ready (d : Option ℕ) (input : List ℕ) (b : Begun) (t : Told) : Type 0 where
  pub few : b.world.n ≤ 16
  pub within : b.script ≤ length input
  pub short : length (drop b.script input) ≤ 8192
  pub told : told_by 0 (deeds_from d 0 (drop b.script input) b.world) ≡ t

pub ready : (d : Option ℕ) (input : List ℕ) {b : Begun} → begun_of input ≡ Ok b → Ready d input b (told_of d input)
unfolding begun_of told_of
ready d input {b} =
    beside (λ (r : Result Begun ℕ) (t : Told). r ≡ Ok b → Ready d input b t) input _ _ _ _
    (λ k other e. cc)
    (λ some few short e.
    let same : record { script = 1 + (book_in input).used; world = world_in input } ≡ b = cc in
    subst
    (λ (b : Begun). Ready d input b (told_by 0 (deeds_from d 0 (script_in input) (world_in input)))) same
    (begins_there some few short))
  where
    begins_there : ltb 0 (length input) ≡ true
        → (leb 1 (controllers_in input) && leb (controllers_in input) 16) ≡ true
        → leb (length (script_in input)) 8192 ≡ true
        → Ready d input (record { script = 1 + (book_in input).used; world = world_in input })
        (told_by 0 (deeds_from d 0 (script_in input) (world_in input)))
    begins_there some few short =
        let at : drop (1 + (book_in input).used) input ≡ script_in input = sym (drop-drop (book_in input).used 1 input) in
        record {
          few = leb-true (controllers_in input) 16 (and_parts (leb 1 (controllers_in input)) _ few).1;
          within = omega (arith, ltb-true 0 (length input) some, read_used (drop 1 input), length-drop 1 input);
          short = rw at (leb-true (length (script_in input)) 8192 short);
          told = rw at;
        }
