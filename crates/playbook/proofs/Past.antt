-- The record at the front of bytes: what is so of it, and what is left to read behind it. Assumes nothing.
use mathlib.Core.Path.{◌≡◌, refl, sym, ap, subst, ◌∙◌}
use mathlib.Core.Bool.{Bool, true, false, ◌||◌}
use mathlib.Core.List.{List, [], ◌∷◌}
use Prim.Native.Nat.{ℕ, suc, ◌+◌, ◌≤◌, ◌<◌}
use native.Mathlib.Omega.{arith}
use borrow.Author.Tests.{leb-true, le-leb, lt-ltb, eqb-true}
use lib.Dec.{ltb, leb, eqb}
use lib.ListN.{length, drop}
use Rattle.std.specs.Prelude.{Result, Ok, Err}
use Rattle.lists.specs.Bytes.{byte_at}
use Rattle.answer.specs.Ask.{Question, reply, first_no, pick}
use Rattle.answer.proofs.Bools.{by_bool, tf}
use Rattle.answer.proofs.Asked.{none_asked, asked, From, by_reply, reply_ap, answered, reply-from}
use Rattle.playbook.specs.Limits.{plan_kind, change_kind, end_kind, plan_size, change_size, end_size}
use Rattle.playbook.specs.Books.{Book}
use Rattle.playbook.specs.Records.{change_of, is_kind, size_of}
use Rattle.playbook.specs.Reading.{refusal, finished, read_from}
use Rattle.playbook.specs.Asking.{record_of, record_at, bytes_of_record, follow}
use Rattle.playbook.specs.declared.Outcome.{Outcome}
use Rattle.playbook.specs.declared.records.Record.{Record}
use Rattle.playbook.specs.declared.records.Record.TheVariants.{Opens, Lists, Ends}
use Rattle.playbook.proofs.Apart.{past, read_step}

-- no record is without bytes
size_some : (kind : ℕ) → 1 ≤ size_of kind
size_some kind =
    by_bool (eqb kind plan_kind) (λ e. rw e (omega arith))
    (λ e. rw e (by_bool (eqb kind change_kind) (λ f. rw f (omega arith)) (λ f. rw f (omega arith))))

-- a record whose bytes are there
pub whole_record : (l : List ℕ) (kind : ℕ) → byte_at l 0 ≡ kind → is_kind kind ≡ true → size_of kind ≤ length l
    → record_at l ≡ Ok (record_of kind l)
unfolding record_at
whole_record l kind first k n =
    let some : 0 < length l = omega (arith, size_some kind) in
    rw first
    (asked Err _ 30 _ _ (lt-ltb _ _ some) ∙ asked Err _ 31 _ _ k ∙ asked Err _ 30 _ _ (le-leb _ _ n)
    ∙ none_asked Err _)

-- the record at the front of bytes: refused, or of a kind whose bytes are there
pub record_keeps : (P : Result Record ℕ → Type 0) (s : List ℕ) → ((k : ℕ) → 1 ≤ k → P (Err k))
    → (byte_at s 0 ≡ plan_kind → plan_size ≤ length s → P (Ok (Opens (byte_at s 1) (byte_at s 2))))
    → (byte_at s 0 ≡ change_kind → change_size ≤ length s → P (Ok (Lists (change_of s))))
    → (byte_at s 0 ≡ end_kind → end_size ≤ length s → P (Ok Ends)) → P (record_at s)
unfolding record_at
record_keeps P s refused opens lists ends =
    let kind = byte_at s 0 in
    let whole : List Question = (31, is_kind kind) ∷ (30, leb (size_of kind) (length s)) ∷ [] in
    let qs : List Question = (30, ltb 0 (length s)) ∷ whole in
    reply-from P 1 qs Err (Ok (record_of kind s)) refl refused
    (λ pass. let some : ltb 0 (length s) ≡ true = answered qs refl pass 30 in
    let left : first_no whole ≡ 0 = sym (asked (λ k. k) 0 30 (ltb 0 (length s)) whole some) ∙ pass in
    by_kind (eqb kind plan_kind) (eqb kind change_kind) (eqb kind end_kind) refl refl refl
    (answered whole refl left 31) (leb-true _ _ (answered whole refl left 30)))
  where
    by_kind : (plan change end : Bool) → eqb (byte_at s 0) plan_kind ≡ plan → eqb (byte_at s 0) change_kind ≡ change
        → eqb (byte_at s 0) end_kind ≡ end → (plan || change || end) ≡ true
        → pick plan plan_size (pick change change_size end_size) ≤ length s
        → P (Ok (pick plan (Opens (byte_at s 1) (byte_at s 2)) (pick change (Lists (change_of s)) Ends)))
    by_kind true change end p c e known h = opens (eqb-true _ _ p) h
    by_kind false true end p c e known h = lists (eqb-true _ _ c) h
    by_kind false false true p c e known h = ends (eqb-true _ _ e) h
    by_kind false false false p c e known h = tf known refl

-- a record has no more bytes than stand there
abbrev Holds : Result Record ℕ → ℕ → Type 0
Holds (Err k) n = Unit {0}
Holds (Ok r) n = bytes_of_record r ≤ n

record-holds : (s : List ℕ) → Holds (record_at s) (length s)
record-holds s = record_keeps (λ r. Holds r (length s)) s (λ k n. tt) (λ k h. h) (λ k h. h) (λ k h. h)

pub record_within : (s : List ℕ) (r : Record) → record_at s ≡ Ok r → bytes_of_record r ≤ length s
record_within s r e = subst (λ (f : Result Record ℕ). Holds f (length s)) e (record-holds s)

-- a refused record is refused by a question's number
abbrev pub Numbered : Result Record ℕ → Type 0
Numbered (Err k) = 1 ≤ k
Numbered (Ok r) = Unit {0}

pub record_number : (s : List ℕ) → Numbered (record_at s)
record_number s = record_keeps Numbered s (λ k n. n) (λ k h. tt) (λ k h. tt) (λ k h. tt)

-- what is found at the front of bytes decides
pub by_record : (l : List ℕ) (used : ℕ) (b : Book) (r : Result Record ℕ) → record_at l ≡ r
    → read_from 0 l used b
    ≡ follow r b (finished (used + 1) b) (λ skip next. read_from 0 (drop (suc skip) l) (used + suc skip) next)
unfolding read_from record_at reply
by_record [] used b r e =
    ap (λ (f : Result Record ℕ). follow f b (finished (used + 1) b) (λ skip next. read_from 0 [] (used + suc skip) next)) e
by_record (x ∷ xs) used b r e =
    read_step x xs used b ∙ (λ i. follow (e i) b (finished (used + 1) b) (λ skip next. past skip xs used next i))

-- what follows the questions of a plan or of a change, and what they lead to
abbrev pub after : Result (Unit {0}) ℕ → Outcome → Outcome
after (Err k) next = refusal k
after (Ok u) next = next

pub asked_after : (qs : List Question) (next : Outcome) (r : Result (Unit {0}) ℕ) → r ≡ reply qs Err (Ok tt)
    → reply qs refusal next ≡ after r next
asked_after qs next r e =
    sym (reply_ap (λ (f : Result (Unit {0}) ℕ). after f next) qs Err (Ok tt))
    ∙ ap (λ (f : Result (Unit {0}) ℕ). after f next) (sym e)

-- where they pass, all are answered yes
pub asked_yes : (qs : List Question) → From 1 qs ≡ true → (r : Result (Unit {0}) ℕ) → r ≡ reply qs Err (Ok tt)
    → r ≡ Ok tt → first_no qs ≡ 0
asked_yes qs n r e ok =
    by_reply 1 qs Err (Ok tt) n
    (λ k f. let wrong = sym ok ∙ e ∙ f in cc) (λ z f. z)
