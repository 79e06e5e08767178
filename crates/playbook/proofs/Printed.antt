-- The reader gives a stored playbook back from its bytes. What carries the proof is that a book within its limits was
-- within them a plan or a change earlier and that this record passes its questions (`plan_back`, `change_back`), so
-- that only the order of the records is left to follow. Assumes nothing.
use mathlib.Core.Path.{◌≡◌, refl, sym, ap, ap₂, ◌∙◌}
use mathlib.Core.List.{List, [], ◌∷◌, ◌++◌, append_assoc, append-nil}
use mathlib.Core.Bool.{true}
use Prim.Native.Nat.{ℕ, suc, ◌+◌, ◌-◌, ◌*◌, ◌^◌}
use native.Mathlib.Omega.{arith}
use lib.Dec.{ltb}
use lib.ListN.{length, take, drop, length-append, length-drop, take-append-drop}
use lib.Seq.{length-take-le}
use borrow.Author.Tests.{ltb-true, eq-eqb}
use Rattle.std.specs.Prelude.{Ok}
use Rattle.answer.proofs.Asked.{asked, none_asked, all_yes}
use Rattle.answer.proofs.Bools.{and_parts}
use Rattle.answer.specs.Ask.{first_no}
use Rattle.lists.specs.Arrays.{every}
use Rattle.lists.specs.Bytes.{be, field}
use Rattle.lists.proofs.Numbers.{num-be}
use Rattle.lists.proofs.Tails.{every_take, every_drop}
use Rattle.flow.specs.Rules.{rule_key, prefix_ok, well_formed, port_of, rule_of}
use Rattle.flow.proofs.Actions.{port-rule}
use Rattle.playbook.specs.Limits.{max_plans, max_changes, plan_kind, change_kind, end_kind}
use Rattle.playbook.specs.Limits.{plan_size, change_size, end_size}
use Rattle.playbook.specs.Books.{Book, book_of, Trigger, trigger_of, counted, new_plan, with_plan, with_change}
use Rattle.playbook.specs.Printing.{change_bytes, changes_bytes, plans_bytes, bytes_of, rule_in_range, InRange}
use Rattle.playbook.specs.Reading.{refusal, finished, read_from, read_first, whole, read_whole}
use Rattle.playbook.specs.Storing.{spans, book_ok, stored_ok}
use Rattle.playbook.specs.Asking.{record_at, plan_questions, change_questions}
use Rattle.playbook.specs.declared.Change.{Change}
use Rattle.playbook.specs.declared.Plan.{Plan}
use Rattle.playbook.specs.declared.Playbook.{Playbook}
use Rattle.playbook.specs.declared.records.Record.TheVariants.{Lists, Ends}
use Rattle.playbook.proofs.Kept.{stored_parts, stored_limits, stored_sound, plan_back, change_back}
use Rattle.playbook.proofs.Past.{whole_record, by_record}
use Rattle.playbook.proofs.Questions.{change_passes}
use Rattle.playbook.proofs.Sound.{count_snoc}
use Rattle.playbook.proofs.Spans.{span_parts, span_none, span_le}

-- what a printed change is read as
change_record_lem : (c : Change) (rest : List ℕ) → well_formed c.rule ≡ true → rule_in_range c ≡ true
    → record_at (change_bytes c rest) ≡ Ok (Lists c)
unfolding be field
change_record_lem c rest w r =
    let port = (and_parts (prefix_ok (rule_key c.rule)) _ w).1 in
    let range = and_parts (ltb c.rule.prefix (256 ^ 4)) _ r in
    let x = num-be 4 c.rule.prefix (ltb-true _ _ range.0) in
    let y = num-be 2 (port_of c.rule.action) (ltb-true _ _ range.1) in
    let rule = ap₂ (λ (prefix port : ℕ). rule_of prefix c.rule.length port) x y ∙ port-rule c.rule port in
    whole_record (change_bytes c rest) change_kind refl refl (omega arith)
    ∙ (λ i. Ok (Lists (record { flow = c.flow; switch = c.switch; rule = rule i })))

-- the reader past a record that passes its questions
past_plan : (t : Trigger) (rest : List ℕ) (used : ℕ) (b : Book) → first_no (plan_questions b t) ≡ 0
    → read_from 0 (plan_kind ∷ t.0 ∷ t.1 ∷ rest) used b ≡ read_from 0 rest (used + plan_size) (with_plan b t)
past_plan t rest used b pass =
    let l = plan_kind ∷ t.0 ∷ t.1 ∷ rest in
    by_record l used b _ (whole_record l plan_kind refl refl (omega arith))
    ∙ all_yes (plan_questions b t) refusal _ refl pass

past_change : (c : Change) (rest : List ℕ) (used : ℕ) (b : Book) → rule_in_range c ≡ true
    → first_no (change_questions b c) ≡ 0
    → read_from 0 (change_bytes c rest) used b ≡ read_from 0 rest (used + change_size) (with_change b c)
unfolding be
past_change c rest used b r pass =
    let formed = (change_passes b c pass).formed in
    by_record (change_bytes c rest) used b (Ok (Lists c)) (change_record_lem c rest formed r)
    ∙ all_yes (change_questions b c) refusal _ refl pass

past_end : (used : ℕ) (b : Book) → read_from 0 (end_kind ∷ []) used b ≡ finished (used + 1) b
past_end used b =
    by_record (end_kind ∷ []) used b (Ok Ends) (whole_record (end_kind ∷ []) end_kind refl refl (omega arith))

-- how many bytes are printed
printed-changes : (cs : List Change) (rest : List ℕ)
    → length (changes_bytes cs rest) ≡ change_size * length cs + length rest
unfolding changes_bytes be
printed-changes [] rest = omega arith
printed-changes (c ∷ cs) rest = omega (arith, printed-changes cs rest)

printed-plans : (qs : List Plan) (cs : List Change) (rest : List ℕ) (from : ℕ)
    → spans from (from + length cs) qs ≡ true
    → length (plans_bytes qs cs rest) ≡ plan_size * length qs + change_size * length cs + length rest
unfolding plans_bytes
printed-plans [] cs rest from h = omega (arith, span_none from (from + length cs) h)
printed-plans (q ∷ qs) cs rest from h =
    let s = span_parts from (from + length cs) q qs h in
    let le = span_le (from + q.count) (from + length cs) qs s.rest in
    let own : length (take q.count cs) ≡ q.count = length-take-le _ cs (omega arith) in
    let others : length (drop q.count cs) ≡ length cs - q.count = length-drop _ cs in
    let end : from + length cs ≡ from + q.count + length (drop q.count cs) = omega arith in
    let ih = printed-plans qs (drop q.count cs) rest (from + q.count) (rw end at s.rest) in
    omega (arith, printed-changes (take q.count cs) (plans_bytes qs (drop q.count cs) rest))

abbrev book : List Plan → List Change → Book
book qs cs = record { plans = qs; changes = cs }

-- a plan with another count
abbrev sized : Plan → ℕ → Plan
sized q n = record { switch = q.switch; cause = q.cause; first = q.first; count = n }

module _ (all : List ℕ) where
  -- if b is within its limits, reading all comes to where b was read, `used` bytes are behind and `rest` is left
  abbrev Reached : List ℕ → ℕ → Book → Type 0
  Reached rest used b = book_ok b ≡ true → read_first all ≡ read_from 0 rest used b

  same : (rest : List ℕ) {u v : ℕ} {ps qs : List Plan} {cs ds : List Change} → u ≡ v → ps ≡ qs → cs ≡ ds
      → Reached rest u (book ps cs) → Reached rest v (book qs ds)
  same rest a b c h = rw (← a, ← b, ← c) h

  reach_plan : (t : Trigger) (rest : List ℕ) (used : ℕ) (b : Book) → Reached (plan_kind ∷ t.0 ∷ t.1 ∷ rest) used b
      → Reached rest (used + plan_size) (with_plan b t)
  reach_plan t rest used b h ok = let back = plan_back b t ok in h back.0 ∙ past_plan t rest used b back.1

  reach_change : (c : Change) (rest : List ℕ) (used : ℕ) (b : Book) → rule_in_range c ≡ true
      → Reached (change_bytes c rest) used b → Reached rest (used + change_size) (with_change b c)
  reach_change c rest used b r h ok =
      let back = change_back b c ok in
      h back.0 ∙ past_change c rest used b r back.1

  -- the changes es of the last plan q
  reach_changes : (es : List Change) (rest : List ℕ) (used : ℕ) (ps : List Plan) (q : Plan) (cs : List Change)
      → every rule_in_range es ≡ true → Reached (changes_bytes es rest) used (book (ps ++ q ∷ []) cs)
      → Reached rest (used + change_size * length es) (book (ps ++ sized q (q.count + length es) ∷ []) (cs ++ es))
  unfolding changes_bytes every
  reach_changes [] rest used ps q cs r h =
      let n : q.count ≡ q.count + 0 = omega arith in
      same rest (omega arith) (ap (λ (m : ℕ). ps ++ sized q m ∷ []) n) (sym (append-nil cs)) h
  reach_changes (c ∷ es) rest used ps q cs r h =
      let t = and_parts (rule_in_range c) (every rule_in_range es) r in
      let first = reach_change c (changes_bytes es rest) used (book (ps ++ q ∷ []) cs) t.0 h in
      let others = reach_changes es rest (used + change_size) ps (counted q) (cs ++ c ∷ []) t.1
      (same (changes_bytes es rest) refl (count_snoc ps q) refl first) in
      let n : q.count + 1 + length es ≡ q.count + suc (length es) = omega arith in
      same rest (omega arith) (ap (λ (m : ℕ). ps ++ sized q m ∷ []) n) (append_assoc cs (c ∷ []) es) others

  -- the plans qs with the changes ds
  reach_plans : (qs : List Plan) (ds : List Change) (rest : List ℕ) (used : ℕ) (ps : List Plan) (cs : List Change)
      → spans (length cs) (length cs + length ds) qs ≡ true → every rule_in_range ds ≡ true
      → Reached (plans_bytes qs ds rest) used (book ps cs)
      → Reached rest (used + plan_size * length qs + change_size * length ds) (book (ps ++ qs) (cs ++ ds))
  unfolding plans_bytes
  reach_plans [] [] rest used ps cs s r h = same _ (omega arith) (sym (append-nil ps)) (sym (append-nil cs)) h
  reach_plans [] (d ∷ ds) rest used ps cs s r h = absurd (omega (arith, span_none _ _ s))
  reach_plans (q ∷ qs) ds rest used ps cs s r h =
      let l = span_parts (length cs) (length cs + length ds) q qs s in
      let le = span_le (length cs + q.count) (length cs + length ds) qs l.rest in
      let es = take q.count ds in
      let fs = drop q.count ds in
      let own : length es ≡ q.count = length-take-le _ ds (omega arith) in
      let behind : length fs ≡ length ds - q.count = length-drop _ ds in
      let join = length-append cs es in
      let opened = reach_plan (trigger_of q) (changes_bytes es (plans_bytes qs fs rest)) used (book ps cs) h in
      let listed = reach_changes es (plans_bytes qs fs rest) (used + plan_size) ps (new_plan (trigger_of q) (length cs)) cs
      (every_take rule_in_range q.count ds r) opened in
      let count : 0 + length es ≡ q.count = omega arith in
      let made : sized (new_plan (trigger_of q) (length cs)) (0 + length es) ≡ q =
      λ i. record { switch = q.switch; cause = q.cause; first = sym l.start i; count = count i } in
      let more : spans (length (cs ++ es)) (length (cs ++ es) + length fs) qs ≡ true =
      ap₂ (λ (x y : ℕ). spans x y qs) (omega arith) (omega arith) ∙ l.rest in
      let others = reach_plans qs fs rest (used + plan_size + change_size * length es) (ps ++ q ∷ []) (cs ++ es) more
      (every_drop rule_in_range q.count ds r)
      (same (plans_bytes qs fs rest) refl (ap (λ (p : Plan). ps ++ p ∷ []) made) refl listed) in
      same rest (omega arith) (append_assoc ps (q ∷ []) qs)
      (append_assoc cs es fs ∙ ap (λ (l : List Change). cs ++ l) (take-append-drop q.count ds)) others

module _ (p : Playbook) (h : stored_ok p ≡ true) where
  -- the plans' changes, from the first to the last
  all_spanned : spans 0 (0 + length (book_of p).changes) (book_of p).plans ≡ true
  all_spanned =
      let z : 0 + length (book_of p).changes ≡ length (book_of p).changes = omega arith in
      rw z (stored_limits p h).spanned

  pub printed-length : length (bytes_of p)
      ≡ plan_size * length (book_of p).plans + change_size * length (book_of p).changes + end_size
  printed-length = printed-plans (book_of p).plans (book_of p).changes (end_kind ∷ []) 0 all_spanned

  -- the reader gives back what was printed: its book_of, and in the store the playbook itself
  pub print_first : InRange p → read_first (bytes_of p) ≡ finished (length (bytes_of p)) (book_of p)
  print_first r =
      let n = printed-length in
      let used = 0 + plan_size * length (book_of p).plans + change_size * length (book_of p).changes in
      let e : used + 1 ≡ length (bytes_of p) = omega arith in
      reach_plans (bytes_of p) (book_of p).plans (book_of p).changes (end_kind ∷ []) 0 [] [] all_spanned r (λ ok. refl)
      (stored_parts p h).book
      ∙ past_end used (book_of p) ∙ ap (λ (v : ℕ). finished v (book_of p)) e

pub print_read : (p : Playbook) → length p.plans ≡ max_plans → length p.changes ≡ max_changes → stored_ok p ≡ true
    → InRange p → read_whole (bytes_of p) ≡ record { answer = 0; used = length (bytes_of p); playbook = p }
print_read p np nc h r =
    let n = length (bytes_of p) in
    ap (whole n) (print_first p h r) ∙ asked refusal _ 38 _ _ (eq-eqb n n refl) ∙ none_asked refusal _
    ∙ ap (λ (q : Playbook). record { answer = 0; used = n; playbook = q }) (sym (stored_sound p np nc h))
