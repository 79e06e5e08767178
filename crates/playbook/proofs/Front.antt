-- What reading looks at: it uses no more bytes than there are, and none past the longest playbook and one record.
-- Assumes nothing.
use mathlib.Core.Path.{◌≡◌, refl, sym, ap, subst, ◌∙◌}
use mathlib.Core.Bool.{true}
use mathlib.Core.List.{List, [], ◌∷◌}
use Prim.Native.Nat.{ℕ, zero, suc, ◌+◌, ◌*◌, ◌≤◌, ◌<◌}
use native.Mathlib.Omega.{arith}
use borrow.Author.Tests.{lt-ltb, le-ltb, le-leb, lt-leb}
use lib.Dec.{ltb, leb, eqb}
use lib.ListN.{length, take, length-append, length-take}
use lib.Seq.{get_or-take, take-nil}
use Rattle.std.specs.Prelude.{Result, Ok, Err}
use Rattle.answer.proofs.Asked.{reply-keeps, reply-same}
use Rattle.answer.proofs.Bools.{by_bool, by_le}
use Rattle.lists.specs.Bytes.{byte_at, field}
use Rattle.lists.proofs.Stores.{part-within}
use Rattle.playbook.specs.Limits.{plan_kind, change_kind, plan_size, change_size, most_bytes}
use Rattle.playbook.specs.Books.{Book, no_plans}
use Rattle.playbook.specs.Records.{size_of}
use Rattle.playbook.specs.Reading.{refusal, finished, read_from, read_first}
use Rattle.playbook.specs.Storing.{book_ok}
use Rattle.playbook.specs.Asking.{record_of, record_at, plan_questions, change_questions, follow}
use Rattle.playbook.specs.declared.Outcome.{Outcome}
use Rattle.playbook.specs.declared.records.Record.{Record}
use Rattle.playbook.specs.declared.records.Record.TheVariants.{Opens, Lists, Ends}
use Rattle.playbook.proofs.Apart.{read_step}
use Rattle.playbook.proofs.Kept.{book_parts, plan_kept, change-kept, none_ok}
use Rattle.playbook.proofs.Sound.{count-length}

-- what holds of every refusal, of the end and of whatever is read on, holds of what a record does
follow_any : (P : Outcome → Type 0) (r : Result Record ℕ) (b : Book) (end : Outcome) (on : ℕ → Book → Outcome)
    → ((k : ℕ) → P (refusal k)) → P end → ((skip : ℕ) (next : Book) → P (on skip next)) → P (follow r b end on)
follow_any P (Err k) b end on refuses ends goes_on = refuses k
follow_any P (Ok Ends) b end on refuses ends goes_on = ends
follow_any P (Ok (Opens s c)) b end on refuses ends goes_on =
    reply-keeps P (plan_questions b (s, c)) refusal _ refuses (λ pass. goes_on _ _)
follow_any P (Ok (Lists c)) b end on refuses ends goes_on =
    reply-keeps P (change_questions b c) refusal _ refuses (λ pass. goes_on _ _)

used_from : (skip : ℕ) (s : List ℕ) (used : ℕ) (b : Book) → (read_from skip s used b).used ≤ used + length s
unfolding read_from
used_from skip [] used b = omega arith
used_from (suc skip) (x ∷ xs) used b = omega (arith, used_from skip xs (used + 1) b)
used_from zero (x ∷ xs) used b =
    let Within : Outcome → Type 0 = λ r. r.used ≤ used + length (x ∷ xs) in
    subst Within (sym (read_step x xs used b))
    (follow_any Within (record_at (x ∷ xs)) b _ _ (λ k. omega arith) (omega arith)
    (λ skip next. omega (arith, used_from skip xs (used + 1) next)))

pub read_used : (s : List ℕ) → (read_first s).used ≤ length s
read_used s = omega (arith, used_from 0 s 0 no_plans)

-- no record is longer than a change, so the first m bytes tell it where m is no less
module _ (s : List ℕ) (m : ℕ) (enough : change_size ≤ m) where
  size_least : (kind : ℕ) → size_of kind ≤ change_size
  size_least kind =
      by_bool (eqb kind plan_kind) (λ e. rw e (omega arith))
      (λ e. rw e (by_bool (eqb kind change_kind) (λ f. rw f (omega arith)) (λ f. rw f (omega arith))))

  long_enough : (size : ℕ) → size ≤ change_size → leb size (length (take m s)) ≡ leb size (length s)
  long_enough size h =
      let cut = length-take m s in
      by_le size (length s)
      (λ l. le-leb size (length (take m s)) (omega arith) ∙ sym (le-leb size (length s) l))
      (λ l. lt-leb size (length (take m s)) (omega arith) ∙ sym (lt-leb size (length s) l))

  left_enough : ltb 0 (length (take m s)) ≡ ltb 0 (length s)
  left_enough =
      let cut = length-take m s in
      by_le 1 (length s)
      (λ l. lt-ltb 0 (length (take m s)) (omega arith) ∙ sym (lt-ltb 0 (length s) l))
      (λ l. le-ltb 0 (length (take m s)) (omega arith) ∙ sym (le-ltb 0 (length s) (omega arith)))

  same_byte : (i : ℕ) → i < change_size → byte_at (take m s) i ≡ byte_at s i
  same_byte i h = get_or-take m s i 0 (omega arith)

  same-field : (at k : ℕ) → at + k ≤ change_size → field (take m s) at k ≡ field s at k
  unfolding field
  same-field at k h = rw (part-within k at m s (omega arith))

  same_record : (kind : ℕ) → record_of kind (take m s) ≡ record_of kind s
  same_record kind =
      rw (
        same_byte 1 (omega arith),
        same_byte 2 (omega arith),
        same_byte 7 (omega arith),
        same-field 3 4 (omega arith),
        same-field 8 2 (omega arith),
      )

  record_front : record_at (take m s) ≡ record_at s
  unfolding record_at
  record_front =
      rw (
        left_enough,
        same_byte 0 (omega arith),
        long_enough (size_of (byte_at s 0)) (size_least (byte_at s 0)),
        same_record (byte_at s 0),
      )

-- the bytes of a book's records so far, and that a reader stands behind them
abbrev Behind : Book → ℕ → Type 0
Behind b used = (book_ok b ≡ true) × (used ≤ plan_size * length b.plans + change_size * length b.changes)

follow-same : (r : Result Record ℕ) (b : Book) (used : ℕ) (end : Outcome) (on on' : ℕ → Book → Outcome) → Behind b used
    → ((skip : ℕ) (next : Book) → Behind next (used + suc skip) → on skip next ≡ on' skip next)
    → follow r b end on ≡ follow r b end on'
follow-same (Err k) b used end on on' h same = refl
follow-same (Ok Ends) b used end on on' h same = refl
follow-same (Ok (Opens s c)) b used end on on' h same =
    reply-same (plan_questions b (s, c)) refusal _ _
    (λ pass. same _ _ (plan_kept b (s, c) h.0 pass, rw length-append (omega (arith, h.1))))
follow-same (Ok (Lists c)) b used end on on' h same =
    reply-same (change_questions b c) refusal _ _
    (λ pass. same _ _ (change-kept b c h.0 pass, rw (count-length, length-append) (omega (arith, h.1))))

front-from : (skip : ℕ) (s : List ℕ) (used : ℕ) (b : Book) (m : ℕ) → Behind b (used + skip)
    → most_bytes + change_size ≤ used + m + 1 → read_from skip (take m s) used b ≡ read_from skip s used b
unfolding read_from
front-from skip [] used b m h enough = rw (take-nil m)
front-from skip (x ∷ xs) used b zero h enough =
    let l = book_parts b h.0 in
    absurd (omega (arith, h.1, l.plans, l.changes))
front-from (suc skip) (x ∷ xs) used b (suc m) h enough =
    let e : used + suc skip ≡ used + 1 + skip = omega arith in
    front-from skip xs (used + 1) b m (rw e at h) (omega arith)
front-from zero (x ∷ xs) used b (suc m) h enough =
    let l = book_parts b h.0 in
    let z : used + 0 ≡ used = omega arith in
    let end = finished (used + 1) b in
    let front = record_front (x ∷ xs) (suc m) (omega (arith, h.1, l.plans, l.changes)) in
    read_step x (take m xs) used b
    ∙ ap (λ (r : Result Record ℕ). follow r b end (λ skip next. read_from skip (take m xs) (used + 1) next)) front
    ∙ follow-same (record_at (x ∷ xs)) b used end _ _ (rw z at h)
    (λ skip next k. let e : used + suc skip ≡ used + 1 + skip = omega arith in
    front-from skip xs (used + 1) next m (rw e at k) (omega arith))
    ∙ sym (read_step x xs used b)

-- so bytes from there on make no difference
pub read-front : (s : List ℕ) (m : ℕ) → most_bytes + change_size ≤ m + 1 → read_first (take m s) ≡ read_first s
read-front s m enough = front-from 0 s 0 no_plans m (none_ok, omega arith) (omega arith)
