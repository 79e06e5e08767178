-- The fields of a script's records, kind by kind, and what is read in the paper's numbers.
use mathlib.Core.Path.{◌≡◌, sym, ap, ◌∙◌}
use mathlib.Core.Bool.{true, false}
use mathlib.Core.List.{List, []}
use Prim.Native.Nat.{ℕ, ◌≤◌, ◌<◌}
use borrow.Author.Tests.{le-leb, lt-leb, le-ltb, lt-ltb}
use lib.ListN.{length}
use Rattle.std.specs.Prelude.{Ok, Err}
use Rattle.answer.specs.Ask.{reply}
use Rattle.answer.proofs.Asked.{none_asked, refused, asked, reply_ap}
use Rattle.lists.specs.Bytes.{byte_at}
use Rattle.rehearsal.specs.Records.{is_kind, kind_of, size_of, record_of, reading_questions, record_at, next_said}
use Rattle.rehearsal.specs.declared.Kind.{Kind}
use Rattle.rehearsal.specs.declared.Record.{Record}

-- a kind that is told by a match: its size
pub sized : {k : Kind} (kind : Kind) → kind ≡ k → (n : ℕ) → size_of kind ≤ n → size_of k ≤ n
sized kind e n h = rw (← e) h

-- no byte, a byte that is no kind, a record that is cut, and one that is whole
pub none_left : (b : List ℕ) → length b ≤ 0 → Err 30 ≡ record_at b
unfolding record_at
none_left b none = sym (refused Err _ 30 _ _ (le-ltb 0 (length b) none))

module _ (b : List ℕ) (some : 0 < length b) where
  pub unknown : is_kind (byte_at b 0) ≡ false → Err 31 ≡ record_at b
  unfolding record_at
  unknown other =
      sym (asked Err _ 30 _ _ (lt-ltb 0 (length b) some) ∙ refused Err _ 31 _ _ other)

  module _ (known : is_kind (byte_at b 0) ≡ true) {kind : Kind} (is : kind ≡ kind_of (byte_at b 0)) {size : ℕ}
      (long : size ≡ size_of kind) where
    pub cut : length b < size → Err 30 ≡ record_at b
    unfolding record_at
    cut h =
        sym (asked Err _ 30 _ _ (lt-ltb 0 (length b) some)
        ∙ asked Err _ 31 _ _ known
        ∙ refused Err _ 30 _ _ (lt-leb (size_of (kind_of (byte_at b 0))) (length b) (rw (← is, ← long) h)))

    pub found : size ≤ length b → {r : Record} → r ≡ record_of kind b → Ok r ≡ record_at b
    unfolding record_at
    found h e =
        ap Ok e
        ∙ rw is
        (sym (asked Err _ 30 _ _ (lt-ltb 0 (length b) some)
        ∙ asked Err _ 31 _ _ known
        ∙ asked Err _ 30 _ _ (le-leb (size_of (kind_of (byte_at b 0))) (length b) (rw (← is, ← long) h))
        ∙ none_asked Err _))

-- what is read, in the paper's numbers: the number of the first question whose answer is no, and no value; or 0, and the
-- record's values
pub read-numbers : (b : List ℕ)
    → next_said (record_at b)
    ≡ reply (reading_questions b) (λ q. (q, [])) (next_said (Ok (record_of (kind_of (byte_at b 0)) b)))
unfolding record_at
read-numbers b = reply_ap next_said (reading_questions b) Err (Ok (record_of (kind_of (byte_at b 0)) b))
