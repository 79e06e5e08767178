-- The one list of a playbook's questions, and the questions apart as the code asks them: both lead to the same. A
-- question that a record's kind has not is answered yes, so what is left of the list are the questions of its kind.
use mathlib.Core.Path.{◌≡◌, refl, sym, ap, ap₂, ◌∙◌}
use mathlib.Core.Bool.{true}
use mathlib.Core.List.{List, [], ◌∷◌}
use Prim.Native.Nat.{ℕ, zero, suc, ◌+◌, ◌-◌}
use native.Mathlib.Nat.{add-zero}
use native.Mathlib.Omega.{arith}
use borrow.Author.Tests.{lt-ltb}
use lib.Dec.{ltb, leb, eqb}
use lib.ListN.{length, drop}
use Rattle.answer.specs.Ask.{reply}
use Rattle.answer.proofs.Asked.{refused}
use Rattle.answer.proofs.Bools.{by_bool}
use Rattle.lists.specs.Bytes.{byte_at}
use Rattle.playbook.specs.Limits.{plan_kind, change_kind, end_kind, plan_size, change_size, end_size}
use Rattle.playbook.specs.Books.{Book, with_plan, with_change}
use Rattle.playbook.specs.Records.{trigger_at, change_of, by_kind}
use Rattle.playbook.specs.Reading.{playbook_questions, refusal, finished, read_from}
use Rattle.playbook.specs.Asking.{record_at, follow}
use Rattle.playbook.specs.declared.Outcome.{Outcome}

-- whatever ends the playbook and whatever is read on, of bytes of which one is left
pub one_list : (b : Book) (x : ℕ) (xs : List ℕ) (end : Outcome) (on : ℕ → Book → Outcome)
    → let s = x ∷ xs in
    reply (playbook_questions b s) refusal
    (by_kind x (on (plan_size - 1) (with_plan b (trigger_at s))) (on (change_size - 1) (with_change b (change_of s))) end)
    ≡ follow (record_at s) b end on
unfolding reply record_at
one_list b x xs end on =
    let n = length (x ∷ xs) in
    let left : ltb 0 n ≡ true = lt-ltb 0 n (omega arith) in
    by_bool (eqb x plan_kind)
    (λ p. by_bool (leb plan_size n) (λ h. rw (left, p, h)) (λ h. rw (left, p, h)))
    (λ p. by_bool (eqb x change_kind)
    (λ c. by_bool (leb change_size n) (λ h. rw (left, p, c, h)) (λ h. rw (left, p, c, h)))
    (λ c. by_bool (eqb x end_kind)
    (λ e. by_bool (leb end_size n) (λ h. rw (left, p, c, e, h)) (λ h. rw (left, p, c, e, h)))
    (λ e. rw (left, p, c, e))))

pub read_step : (x : ℕ) (xs : List ℕ) (used : ℕ) (b : Book)
    → read_from 0 (x ∷ xs) used b
    ≡ follow (record_at (x ∷ xs)) b (finished (used + end_size) b) (λ skip next. read_from skip xs (used + 1) next)
unfolding read_from
read_step x xs used b = one_list b x xs (finished (used + end_size) b) (λ skip next. read_from skip xs (used + 1) next)

-- past the bytes of the record at hand: from its first byte on, and from its second on
skipped : (k : ℕ) (xs : List ℕ) (used : ℕ) (b : Book) → read_from k xs used b ≡ read_from 0 (drop k xs) (used + k) b
unfolding read_from
skipped zero xs used b = ap (λ (u : ℕ). read_from 0 xs u b) (sym (add-zero used))
skipped (suc k) [] used b = refl
skipped (suc k) (x ∷ xs) used b =
    let e : used + 1 + k ≡ used + suc k = omega arith in
    skipped k xs (used + 1) b ∙ ap (λ (u : ℕ). read_from 0 (drop k xs) u b) e

pub past : (k : ℕ) (xs : List ℕ) (used : ℕ) (b : Book)
    → read_from k xs (used + 1) b ≡ read_from 0 (drop k xs) (used + suc k) b
past k xs used b =
    let e : used + 1 + k ≡ used + suc k = omega arith in
    skipped k xs (used + 1) b ∙ ap (λ (u : ℕ). read_from 0 (drop k xs) u b) e

-- so reading is record after record: the list's questions, and then what is left past the record; nothing left too
pub read_asks : (s : List ℕ) (used : ℕ) (b : Book)
    → read_from 0 s used b
    ≡ reply (playbook_questions b s) refusal
    (by_kind (byte_at s 0) (read_from 0 (drop plan_size s) (used + plan_size) (with_plan b (trigger_at s)))
    (read_from 0 (drop change_size s) (used + change_size) (with_change b (change_of s))) (finished (used + end_size) b))
unfolding read_from
read_asks [] used b = sym (refused refusal _ 30 _ _ refl)
read_asks (x ∷ xs) used b =
    let s = x ∷ xs in
    ap₂ (λ (plan change : Outcome).
    reply (playbook_questions b s) refusal (by_kind x plan change (finished (used + end_size) b)))
    (past (plan_size - 1) xs used (with_plan b (trigger_at s)))
    (past (change_size - 1) xs used (with_change b (change_of s)))
