-- A playbook has one byte form: where bytes are read as a playbook, its own bytes and those behind its end record are
-- these bytes. The plans read so far, printed before the bytes that are left, are all the bytes; a record moves its own
-- bytes from what is left to what is printed.
use mathlib.Core.Path.{◌≡◌, refl, sym, ap, ap₂, ◌∙◌}
use mathlib.Core.List.{List, [], ◌∷◌, ◌++◌, append-nil}
use mathlib.Core.Bool.{true}
use Prim.Native.Nat.{ℕ, suc, ◌+◌, ◌-◌, ◌≤◌, ◌<◌}
use native.Mathlib.Omega.{arith}
use lib.ListN.{length, take, drop, length-append, length-drop, take-append-drop, drop_of_length-le}
use lib.Seq.{drop-cons, drop-drop, take_all, take-append-le, drop-append-le}
use Rattle.std.specs.Prelude.{Result, Ok, Err}
use Rattle.answer.specs.Ask.{first_no}
use Rattle.lists.specs.Bytes.{be, field, byte_at, AreBytes}
use Rattle.lists.proofs.Numbers.{be-field, bytes_drop}
use Rattle.flow.specs.Rules.{port_of}
use Rattle.flow.proofs.Actions.{action-port}
use Rattle.playbook.specs.Limits.{plan_kind, change_kind, end_kind, plan_size, change_size, end_size}
use Rattle.playbook.specs.Books.{Book, no_plans, Trigger, new_plan, count_last, with_plan, with_change}
use Rattle.playbook.specs.Printing.{change_bytes, changes_bytes, plans_bytes, bytes_of}
use Rattle.playbook.specs.Reading.{finished, read_first, read_whole}
use Rattle.playbook.specs.Records.{change_of}
use Rattle.playbook.specs.Storing.{spans, book_ok}
use Rattle.playbook.specs.Asking.{record_at, plan_questions, change_questions}
use Rattle.playbook.specs.declared.Change.{Change}
use Rattle.playbook.specs.declared.Outcome.{Outcome}
use Rattle.playbook.specs.declared.Plan.{Plan}
use Rattle.playbook.specs.declared.records.Record.{Record}
use Rattle.playbook.specs.declared.records.Record.TheVariants.{Opens, Lists, Ends}
use Rattle.playbook.proofs.Kept.{book_parts, book_fits, plan_kept, change-kept, none_ok}
use Rattle.playbook.proofs.Kept.{read_keeps, whole-first}
use Rattle.playbook.proofs.Past.{record_keeps}
use Rattle.playbook.proofs.Questions.{change_passes}
use Rattle.playbook.proofs.Sound.{meaning_store}
use Rattle.playbook.proofs.Spans.{span_parts, span_none, span_le}

-- printed before bytes of which some come first
changes-append : (cs : List Change) (a rest : List ℕ) → changes_bytes cs (a ++ rest) ≡ changes_bytes cs a ++ rest
unfolding changes_bytes be
changes-append [] a rest = refl
changes-append (c ∷ cs) a rest = ap (change_bytes c) (changes-append cs a rest)

plans-append : (qs : List Plan) (cs : List Change) (a rest : List ℕ)
    → plans_bytes qs cs (a ++ rest) ≡ plans_bytes qs cs a ++ rest
unfolding plans_bytes
plans-append [] cs a rest = refl
plans-append (q ∷ qs) cs a rest =
    let own = take q.count cs in
    ap (λ (l : List ℕ). plan_kind ∷ q.switch ∷ q.cause ∷ l)
    (ap (changes_bytes own) (plans-append qs (drop q.count cs) a rest)
    ∙ changes-append own (plans_bytes qs (drop q.count cs) a) rest)

-- a plan more puts its record before what follows, and so does a change more of the last plan
plan_more : (qs : List Plan) (cs : List Change) (t : Trigger) (first : ℕ) (rest : List ℕ)
    → plans_bytes (qs ++ new_plan t first ∷ []) cs rest ≡ plans_bytes qs cs (plan_kind ∷ t.0 ∷ t.1 ∷ rest)
unfolding plans_bytes changes_bytes
plan_more [] cs t first rest = refl
plan_more (q ∷ qs) cs t first rest =
    ap (λ (l : List ℕ). plan_kind ∷ q.switch ∷ q.cause ∷ changes_bytes (take q.count cs) l)
    (plan_more qs (drop q.count cs) t first rest)

changes_more : (cs : List Change) (c : Change) (rest : List ℕ)
    → changes_bytes (cs ++ c ∷ []) rest ≡ changes_bytes cs (change_bytes c rest)
unfolding changes_bytes
changes_more [] c rest = refl
changes_more (d ∷ cs) c rest = ap (change_bytes d) (changes_more cs c rest)

change_more : (qs : List Plan) (cs : List Change) (c : Change) (from : ℕ) (rest : List ℕ) → 0 < length qs
    → spans from (from + length cs) qs ≡ true
    → plans_bytes (count_last qs) (cs ++ c ∷ []) rest ≡ plans_bytes qs cs (change_bytes c rest)
unfolding plans_bytes count_last
change_more [] cs c from rest n h = absurd (omega arith)
change_more (q ∷ []) cs c from rest n h =
    let own = span_none _ _ (span_parts from (from + length cs) q [] h).rest in
    let all : take (q.count + 1) (cs ++ c ∷ []) ≡ cs ++ c ∷ [] =
    take_all (q.count + 1) (cs ++ c ∷ []) (omega (arith, length-append cs (c ∷ []))) in
    ap (λ (l : List ℕ). plan_kind ∷ q.switch ∷ q.cause ∷ l)
    (ap (λ (es : List Change). changes_bytes es rest) all ∙ changes_more cs c rest
    ∙ ap (λ (es : List Change). changes_bytes es (change_bytes c rest)) (sym (take_all q.count cs (omega arith))))
change_more (q ∷ r ∷ qs) cs c from rest n h =
    let k = q.count in
    let s = span_parts from (from + length cs) q (r ∷ qs) h in
    let le = span_le (from + k) (from + length cs) (r ∷ qs) s.rest in
    let others : length (drop k cs) ≡ length cs - k = length-drop k cs in
    let end : from + length cs ≡ from + k + length (drop k cs) = omega arith in
    ap (λ (l : List ℕ). plan_kind ∷ q.switch ∷ q.cause ∷ l)
    (ap₂ (λ (es fs : List Change). changes_bytes es (plans_bytes (count_last (r ∷ qs)) fs rest))
    (take-append-le k cs (c ∷ []) (omega arith)) (drop-append-le k cs (c ∷ []) (omega arith))
    ∙ ap (changes_bytes (take k cs)) (change_more (r ∷ qs) (drop k cs) c (from + k) rest (omega arith)
    (rw end at s.rest)))

-- a change's bytes, in the order in which they are read
change-listed : (c : Change) (rest : List ℕ)
    → change_bytes c rest
    ≡ change_kind ∷ c.flow ∷ c.switch
    ∷ (be 4 c.rule.prefix ++ c.rule.length ∷ (be 2 (port_of c.rule.action) ++ rest))
unfolding be
change-listed c rest = refl

-- the record at the front of bytes, and what is left behind it, are these bytes
module _ (s : List ℕ) where
  byte_next : (at : ℕ) → at < length s → drop at s ≡ byte_at s at ∷ drop (suc at) s
  byte_next at h = drop-cons s at 0 h

  field_next : (at k : ℕ) → AreBytes s → at + k ≤ length s → drop at s ≡ be k (field s at k) ++ drop (at + k) s
  field_next at k bytes h =
      sym (take-append-drop k (drop at s))
      ∙ ap₂ (λ (a b : List ℕ). a ++ b) (sym (be-field s at k bytes h)) (drop-drop k at s)

  plan_form : byte_at s 0 ≡ plan_kind → plan_size ≤ length s → s ≡ plan_kind ∷ byte_at s 1 ∷ byte_at s 2 ∷ drop plan_size s
  plan_form kind h =
      byte_next 0 (omega arith)
      ∙ ap₂ (λ (k : ℕ) (l : List ℕ). k ∷ l) kind
      (byte_next 1 (omega arith) ∙ ap (λ (l : List ℕ). byte_at s 1 ∷ l) (byte_next 2 (omega arith)))

  end_form : byte_at s 0 ≡ end_kind → end_size ≤ length s → s ≡ end_kind ∷ drop end_size s
  end_form kind h = byte_next 0 (omega arith) ∙ ap (λ (k : ℕ). k ∷ drop 1 s) kind

  change_form : AreBytes s → byte_at s 0 ≡ change_kind → change_size ≤ length s
      → s ≡ change_bytes (change_of s) (drop change_size s)
  change_form bytes kind h =
      let port : drop 8 s ≡ be 2 (port_of (change_of s).rule.action) ++ drop 10 s =
      field_next 8 2 bytes (omega arith) ∙ ap (λ (p : ℕ). be 2 p ++ drop 10 s) (sym (action-port (field s 8 2))) in
      let rule = field_next 3 4 bytes (omega arith)
      ∙ ap (λ (l : List ℕ). be 4 (field s 3 4) ++ l)
      (byte_next 7 (omega arith) ∙ ap (λ (l : List ℕ). byte_at s 7 ∷ l) port) in
      byte_next 0 (omega arith)
      ∙ ap₂ (λ (k : ℕ) (l : List ℕ). k ∷ l) kind
      (byte_next 1 (omega arith)
      ∙ ap (λ (l : List ℕ). byte_at s 1 ∷ l)
      (byte_next 2 (omega arith) ∙ ap (λ (l : List ℕ). byte_at s 2 ∷ l) rule))
      ∙ sym (change-listed (change_of s) (drop 10 s))

module _ (s : List ℕ) (bytes : AreBytes s) where
  -- the bytes from a place on are a record's and those behind it
  abbrev Says : ℕ → Result Record ℕ → Type 0
  Says at (Ok (Opens switch cause)) = drop at s ≡ plan_kind ∷ switch ∷ cause ∷ drop (at + plan_size) s
  Says at (Ok (Lists c)) = drop at s ≡ change_bytes c (drop (at + change_size) s)
  Says at (Ok Ends) = drop at s ≡ end_kind ∷ drop (at + end_size) s
  Says at (Err k) = Unit {0}

  says : (at : ℕ) → Says at (record_at (drop at s))
  says at =
      let l = drop at s in
      record_keeps (Says at) l (λ k n. tt)
      (λ k h. plan_form l k h ∙ ap (λ (m : List ℕ). plan_kind ∷ byte_at l 1 ∷ byte_at l 2 ∷ m) (drop-drop plan_size at s))
      (λ k h. change_form l (bytes_drop at s bytes) k h ∙ ap (change_bytes (change_of l)) (drop-drop change_size at s))
      (λ k h. end_form l k h ∙ ap (λ (m : List ℕ). end_kind ∷ m) (drop-drop end_size at s))

  -- what was read so far, before the bytes that are left, is all the bytes
  abbrev SoFar : ℕ → Book → Type 0
  SoFar used b = (book_ok b ≡ true) × (plans_bytes b.plans b.changes (drop used s) ≡ s)

  opens : (used : ℕ) (b : Book) (t : Trigger) → SoFar used b → Says used (Ok (Opens t.0 t.1))
      → first_no (plan_questions b t) ≡ 0 → SoFar (used + plan_size) (with_plan b t)
  opens used b t h here pass = (
    plan_kept b t h.0 pass,
    plan_more b.plans b.changes t (length b.changes) (drop (used + plan_size) s)
        ∙ ap (plans_bytes b.plans b.changes) (sym here) ∙ h.1,
  )

  lists : (used : ℕ) (b : Book) (c : Change) → SoFar used b → Says used (Ok (Lists c))
      → first_no (change_questions b c) ≡ 0 → SoFar (used + change_size) (with_change b c)
  lists used b c h here pass =
      let z : 0 + length b.changes ≡ length b.changes = omega arith in (
        change-kept b c h.0 pass,
        change_more b.plans b.changes c 0 (drop (used + change_size) s) (change_passes b c pass).some
            (rw z (book_parts b h.0).spanned)
            ∙ ap (plans_bytes b.plans b.changes) (sym here) ∙ h.1,
      )

  -- a playbook that was read: its bytes, and those behind its end record
  abbrev Printed : Outcome → Type 0
  Printed r = r.answer ≡ 0 → bytes_of r.playbook ++ drop r.used s ≡ s

  ends : (used : ℕ) (b : Book) → SoFar used b → Says used (Ok Ends) → Printed (finished (used + end_size) b)
  ends used b h here zero =
      let left = drop (used + end_size) s in
      ap (λ (c : Book). plans_bytes c.plans c.changes (end_kind ∷ []) ++ left)
      (meaning_store b (book_fits b h.0))
      ∙ sym (plans-append b.plans b.changes (end_kind ∷ []) left)
      ∙ ap (plans_bytes b.plans b.changes) (sym here) ∙ h.1

  nothing : plans_bytes [] [] s ≡ s
  unfolding plans_bytes
  nothing = refl

  pub first-printed : (read_first s).answer ≡ 0 → bytes_of (read_first s).playbook ++ drop (read_first s).used s ≡ s
  first-printed =
      let z : (i : ℕ) → 0 + i ≡ i = λ i. omega arith in
      read_keeps Printed SoFar Says (λ k n zero. absurd (omega arith)) ends opens lists 0 s 0 no_plans
      (λ i. rw (z i) (says i)) (none_ok, nothing)

  -- nothing is left behind the end record of bytes that were read whole
  pub whole-printed : (read_whole s).answer ≡ 0 → bytes_of (read_whole s).playbook ≡ s
  whole-printed h =
      let f = whole-first (length s) (read_first s) h in
      let none : drop (read_first s).used s ≡ [] = drop_of_length-le s {i = (read_first s).used} (omega (arith, f.1)) in
      ap (λ (r : Outcome). bytes_of r.playbook) f.0
      ∙ sym (append-nil (bytes_of (read_first s).playbook))
      ∙ ap (λ (l : List ℕ). bytes_of (read_first s).playbook ++ l) (sym none)
      ∙ first-printed (sym (ap (λ (r : Outcome). r.answer) f.0) ∙ h)

-- so two byte strings that are read whole as one playbook are the same
pub one_form : (s t : List ℕ) → AreBytes s → AreBytes t → (read_whole s).answer ≡ 0 → (read_whole t).answer ≡ 0
    → (read_whole s).playbook ≡ (read_whole t).playbook → s ≡ t
one_form s t a b h k same = sym (whole-printed s a h) ∙ ap bytes_of same ∙ whole-printed t b k
