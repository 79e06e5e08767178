-- A store is stored exactly if reading some bytes gives it; what is read and what the printer writes is at most 5313
-- bytes long, and the printer writes bytes. Assumes nothing.
use mathlib.Core.Path.{◌≡◌, refl, sym, ap, ◌∙◌}
use mathlib.Core.Logic.{◌↔◌}
use mathlib.Core.List.{List, [], ◌∷◌}
use mathlib.Core.Bool.{Bool, true}
use Prim.Native.Nat.{ℕ, zero, suc, ◌+◌, ◌*◌, ◌≤◌, ◌<◌}
use native.Mathlib.Omega.{arith}
use lib.Dec.{ltb, leb}
use lib.ListN.{length, take, drop, length-append}
use borrow.Author.Tests.{ltb-true, leb-true, lt-ltb}
use Rattle.answer.specs.Limits.{switch_count}
use Rattle.answer.proofs.Bools.{and_join, and_parts}
use Rattle.lists.specs.Arrays.{every}
use Rattle.lists.specs.Bytes.{be, AreBytes}
use Rattle.lists.proofs.Tails.{every_take, every_drop}
use Rattle.flow.specs.Rules.{rule_key, prefix_ok}
use Rattle.playbook.specs.Limits.{max_plans, max_changes, end_kind, plan_size, change_size, most_bytes}
use Rattle.playbook.specs.Books.{no_plans, book_of}
use Rattle.playbook.specs.Printing.{plan_bytes, change_bytes, changes_bytes, plans_bytes, bytes_of, InRange}
use Rattle.playbook.specs.Reading.{read_first, read_whole}
use Rattle.playbook.specs.Storing.{spans, change_ok, book_ok, stored_ok}
use Rattle.playbook.specs.declared.Change.{Change}
use Rattle.playbook.specs.declared.Outcome.{Outcome}
use Rattle.playbook.specs.declared.Plan.{Plan}
use Rattle.playbook.specs.declared.Playbook.{Playbook}
use Rattle.playbook.proofs.Kept.{book_parts, stored_limits, plan_kept, change-kept, none_ok}
use Rattle.playbook.proofs.Kept.{read_keeps, whole-first, read-stored}
use Rattle.playbook.proofs.Printed.{printed-length, print_read}
use Rattle.playbook.proofs.Sound.{count-length}
use Rattle.playbook.proofs.Spans.{span_parts}

-- stored exactly if reading some bytes gives it
pub exact : (p : Playbook) → length p.plans ≡ max_plans → length p.changes ≡ max_changes → InRange p
    → (stored_ok p ≡ true) ↔ ((s : List ℕ) × (read_whole s ≡ record { answer = 0; used = length s; playbook = p }))
exact p np nc r = (
  (λ h. (bytes_of p, print_read p np nc h r)),
  (λ x. ap stored_ok (sym (ap (λ (o : Outcome). o.playbook) x.1)) ∙ read-stored x.0),
)

-- the longest playbook that is read, and the longest that is printed
pub read_length : (s : List ℕ) → (read_first s).used ≤ most_bytes
read_length s =
    read_keeps (λ r. r.used ≤ most_bytes)
    (λ used b. (book_ok b ≡ true) × (used ≤ plan_size * length b.plans + change_size * length b.changes))
    (λ at r. Unit {0}) (λ k n. omega arith)
    (λ used b h says. let l = book_parts b h.0 in omega (arith, h.1, l.plans, l.changes))
    (λ used b t h says pass. (plan_kept b t h.0 pass, rw length-append (omega (arith, h.1))))
    (λ used b c h says pass. (change-kept b c h.0 pass, rw (count-length, length-append) (omega (arith, h.1))))
    0 s 0 no_plans (λ i. tt) (none_ok, omega arith)

pub whole_length : (s : List ℕ) → (read_whole s).answer ≡ 0 → length s ≤ most_bytes
whole_length s h = omega (arith, read_length s, (whole-first (length s) (read_first s) h).1)

pub print_length : (p : Playbook) → stored_ok p ≡ true → length (bytes_of p) ≤ most_bytes
print_length p h =
    let l = stored_limits p h in
    omega (arith, printed-length p h, l.plans, l.changes)

-- what the code's types say besides of plans and changes: causes and flows are bytes
abbrev pub cause_in_range : Plan → Bool
cause_in_range q = ltb q.cause 256

abbrev pub flow_in_range : Change → Bool
flow_in_range c = ltb c.flow 256

abbrev is_byte : ℕ → Bool
is_byte b = ltb b 256

are_bytes : (s : List ℕ) → every is_byte s ≡ true → AreBytes s
unfolding every
are_bytes [] h i = omega arith
are_bytes (b ∷ s) h zero = ltb-true b 256 (and_parts (is_byte b) (every is_byte s) h).0
are_bytes (b ∷ s) h (suc i) = are_bytes s (and_parts (is_byte b) (every is_byte s) h).1 i

byte : (b : ℕ) (rest : List ℕ) → b < 256 → every is_byte rest ≡ true → every is_byte (b ∷ rest) ≡ true
unfolding every
byte b rest h k = and_join (is_byte b) _ (lt-ltb b 256 h) k

change-bytes : (c : Change) (rest : List ℕ) → change_ok c ≡ true → flow_in_range c ≡ true → every is_byte rest ≡ true
    → every is_byte (change_bytes c rest) ≡ true
unfolding be
change-bytes c rest o f h =
    let ok = and_parts (ltb c.switch switch_count) _ o in
    let switch = ltb-true c.switch switch_count ok.0 in
    let prefix = and_parts (leb c.rule.length 32) _ (and_parts (prefix_ok (rule_key c.rule)) _ ok.1).0 in
    let long = leb-true c.rule.length 32 prefix.0 in
    byte _ _ (omega arith) (byte _ _ (ltb-true _ _ f) (byte _ _ (omega arith)
    (byte _ _ (omega arith) (byte _ _ (omega arith) (byte _ _ (omega arith) (byte _ _ (omega arith)
    (byte _ _ (omega arith) (byte _ _ (omega arith) (byte _ _ (omega arith) h)))))))))

changes-bytes : (cs : List Change) (rest : List ℕ) → every change_ok cs ≡ true → every flow_in_range cs ≡ true
    → every is_byte rest ≡ true → every is_byte (changes_bytes cs rest) ≡ true
unfolding changes_bytes every
changes-bytes [] rest o f h = h
changes-bytes (c ∷ cs) rest o f h =
    let a = and_parts (change_ok c) (every change_ok cs) o in
    let b = and_parts (flow_in_range c) (every flow_in_range cs) f in
    change-bytes c (changes_bytes cs rest) a.0 b.0 (changes-bytes cs rest a.1 b.1 h)

plan_bytes_lem : (q : Plan) (rest : List ℕ) → q.switch < switch_count → cause_in_range q ≡ true
    → every is_byte rest ≡ true → every is_byte (plan_bytes q rest) ≡ true
plan_bytes_lem q rest s c h = byte _ _ (omega arith) (byte _ _ (omega arith) (byte _ _ (ltb-true _ _ c) h))

plans-bytes : (qs : List Plan) (cs : List Change) (rest : List ℕ) (from end : ℕ) → spans from end qs ≡ true
    → every cause_in_range qs ≡ true → every change_ok cs ≡ true → every flow_in_range cs ≡ true
    → every is_byte rest ≡ true → every is_byte (plans_bytes qs cs rest) ≡ true
unfolding plans_bytes every
plans-bytes [] cs rest from end s r o f h = h
plans-bytes (q ∷ qs) cs rest from end s r o f h =
    let t = span_parts from end q qs s in
    let a = and_parts (cause_in_range q) (every cause_in_range qs) r in
    let n = q.count in
    let others = plans-bytes qs (drop n cs) rest (from + n) end t.rest a.1 (every_drop change_ok n cs o)
    (every_drop flow_in_range n cs f) h in
    let own = changes-bytes (take n cs) (plans_bytes qs (drop n cs) rest) (every_take change_ok n cs o)
    (every_take flow_in_range n cs f) others in
    plan_bytes_lem q (changes_bytes (take n cs) (plans_bytes qs (drop n cs) rest)) t.known a.0 own

end_bytes : every is_byte (end_kind ∷ []) ≡ true
unfolding every
end_bytes = refl

pub print_bytes : (p : Playbook) → stored_ok p ≡ true → every cause_in_range (book_of p).plans ≡ true
    → every flow_in_range (book_of p).changes ≡ true → AreBytes (bytes_of p)
print_bytes p h q f =
    let l = stored_limits p h in
    are_bytes (bytes_of p)
    (plans-bytes (book_of p).plans (book_of p).changes (end_kind ∷ []) 0 _ l.spanned q l.rules f end_bytes)

-- and so the bytes of `exact` may be asked to be bytes
pub exact_bytes : (p : Playbook) → length p.plans ≡ max_plans → length p.changes ≡ max_changes → InRange p
    → every cause_in_range (book_of p).plans ≡ true → every flow_in_range (book_of p).changes ≡ true
    → (stored_ok p ≡ true)
    ↔ ((s : List ℕ) × AreBytes s × (read_whole s ≡ record { answer = 0; used = length s; playbook = p }))
exact_bytes p np nc r q f =
    ((λ h. (bytes_of p, print_bytes p h q f, print_read p np nc h r)), (λ x. (exact p np nc r).1 (x.0, x.2)))
