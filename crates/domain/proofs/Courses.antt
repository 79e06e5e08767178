-- The agreed changes along a list of decisions: the change at a place has the number that follows, and is what the
-- playbook says; numbers fit four bytes; and a longer list of decisions only adds changes behind.
use mathlib.Core.Path.{◌≡◌, refl, sym, ap, ◌∙◌}
use mathlib.Core.Bool.{true}
use mathlib.Core.List.{List, [], ◌∷◌, ◌++◌, append-nil, append_assoc}
use Prim.Native.Nat.{ℕ, ◌+◌, ◌-◌, ◌^◌, ◌≤◌, ◌<◌}
use native.Mathlib.Omega.{arith}
use lib.Dec.{ltb}
use lib.ListN.{length, get_or, length-append, get_or-append}
use lib.Seq.{get_or-append-add}
use borrow.Author.Tests.{ltb-true, leb-true}
use Rattle.answer.specs.Ask.{first_no}
use Rattle.answer.proofs.Asked.{reply-keeps, answered}
use Rattle.answer.proofs.Bools.{by_le, and_parts}
use Rattle.lists.specs.Arrays.{every}
use Rattle.lists.specs.Kinds.{among}
use Rattle.lists.proofs.Tails.{every_at, every_take, every_drop}
use Rattle.flow.specs.Rules.{rule_key, same_key, well_formed, port_of}
use Rattle.flow.specs.declared.Rule.{Rule}
use Rattle.playbook.specs.Books.{Trigger, empty_change, book_of, keys_on}
use Rattle.playbook.specs.Plans.{plan_of, changes_for}
use Rattle.playbook.specs.Printing.{rule_in_range, InRange}
use Rattle.playbook.specs.Storing.{change_ok, stored_ok}
use Rattle.playbook.specs.declared.Playbook.{Playbook}
use Rattle.playbook.proofs.Listed.{plan_changes, plan_among}
use Rattle.controller.specs.Changes.{empty_undone, numbered}
use Rattle.controller.specs.Decisions.{given}
use Rattle.controller.specs.declared.Undone.{Undone}
use Rattle.controller.proofs.Numbering.{given_at, given-length}
use Rattle.domain.specs.Settings.{Decision}
use Rattle.domain.specs.Agreement.{Course, beginning, next, course_questions, onward, advance, along}
use Rattle.domain.specs.Agreement.{agreed_changes}

-- what a prefix and a port of the code's types are
abbrev pub RuleInRange : Rule → Type 0
RuleInRange r = (r.prefix < 256 ^ 4) × (port_of r.action < 256 ^ 2)

-- a longer list of decisions
pub along-append : (a : Course) (ds es : List Decision) → along a (ds ++ es) ≡ along (along a ds) es
along-append a [] es = refl
along-append a (d ∷ ds) es = along-append (advance a d) ds es

-- what a decision that passes keeps, and one that does not leaves, a list of decisions keeps
along-keeps : (P : Course → Type 0) → ((a : Course) (d : Decision) → first_no (course_questions a d) ≡ 0 → P a → P (onward a d))
    → (a : Course) (ds : List Decision) → P a → P (along a ds)
along-keeps P keep a [] h = h
along-keeps P keep a (d ∷ ds) h =
    along-keeps P keep (advance a d) ds (reply-keeps P (course_questions a d) _ _ (λ k. h) (λ y. keep a d y h))

-- no decision changes the playbook
pub along-book : (a : Course) (ds : List Decision) → (along a ds).playbook ≡ a.playbook
along-book a ds = along-keeps (λ b. b.playbook ≡ a.playbook) (λ b d y h. h) a ds refl

along_adds : (a : Course) (ds : List Decision) → (more : List Undone) × ((along a ds).changes ≡ a.changes ++ more)
along_adds a ds =
    along-keeps (λ b. (more : List Undone) × (b.changes ≡ a.changes ++ more))
    (λ b d y h. (
      h.0 ++ next b d,
      ap (λ (l : List Undone). l ++ next b d) h.1 ∙ append_assoc a.changes h.0 (next b d),
    ))
    a ds ([], sym (append-nil a.changes))

pub agreed_adds : (p : Playbook) (ds es : List Decision)
    → (more : List Undone) × (agreed_changes p (ds ++ es) ≡ agreed_changes p ds ++ more)
unfolding agreed_changes
agreed_adds p ds es =
    let rest = along_adds (along (beginning p) ds) es in
    (rest.0, ap (λ (a : Course). a.changes) (along-append (beginning p) ds es) ∙ rest.1)

-- numbers fit four bytes
pub agreed-few : (p : Playbook) (ds : List Decision) → length (agreed_changes p ds) ≤ 4294967295
unfolding agreed_changes
agreed-few p ds =
    along-keeps (λ a. length a.changes ≤ 4294967295)
    (λ a d y h. rw length-append (leb-true _ _ (answered (course_questions a d) refl y 23))) (beginning p) ds (omega arith)

module _ (p : Playbook) where
  -- a change with a number: on a known switch, its rule well formed and in range, its key one of the playbook's there
  pub record Fine (number : ℕ) (u : Undone) : Type 0 where
    pub numbered : u.number ≡ number
    pub known : u.switch < 16
    pub formed : well_formed u.rule ≡ true
    pub in-range : RuleInRange u.rule
    pub key : among same_key (rule_key u.rule) (keys_on u.switch (book_of p).changes) ≡ true

  -- changes whose numbers are those from 1 on
  abbrev pub Numbered : List Undone → Type 0
  Numbered us = (i : ℕ) → i < length us → Fine (i + 1) (get_or us i empty_undone)

  module _ (stored : stored_ok p ≡ true) (ranged : InRange p) where
    -- the changes of a plan are in range
    plan_range : (t : Trigger) → every rule_in_range (changes_for p t) ≡ true
    plan_range t =
        let q = plan_of t (book_of p).plans in
        every_take rule_in_range q.count _ (every_drop rule_in_range q.first (book_of p).changes ranged)

    -- one of them, with its number
    planned-fine : (t : Trigger) (first number i : ℕ) → i < length (changes_for p t)
        → Fine number (numbered first number (get_or (changes_for p t) i empty_change))
    planned-fine t first number i l =
        let cs = changes_for p t in
        let c = get_or cs i empty_change in
        let ok = and_parts (ltb c.switch 16) _ (every_at change_ok cs i empty_change (plan_changes p t stored) l) in
        let fit = and_parts (ltb c.rule.prefix (256 ^ 4)) _
        (every_at rule_in_range cs i empty_change (plan_range t) l) in
        record {
          numbered = refl;
          known = ltb-true _ _ ok.0;
          formed = ok.1;
          in-range = (ltb-true _ _ fit.0, ltb-true _ _ fit.1);
          key = plan_among p t i empty_change l;
        }

    given-fine : (us : List Undone) (t : Trigger) → Numbered us → Numbered (us ++ given p (length us) t)
    given-fine us t fine i l =
        let n = length us in
        let cs = changes_for p t in
        by_le (length us) i
        (λ h.
        let j = i - n in
        let e : i ≡ n + j = omega arith in
        let few : j < length cs = omega (arith, rw (length-append, given-length (n + 1) (n + 1) cs) at l) in
        let is : get_or (us ++ given p n t) i empty_undone ≡ numbered (n + 1) (i + 1) (get_or cs j empty_change) =
        ap (λ (k : ℕ). get_or (us ++ given p n t) k empty_undone) e
        ∙ get_or-append-add us (given p n t) j empty_undone
        ∙ given_at (n + 1) (n + 1) cs j empty_undone empty_change few
        ∙ ap (λ (k : ℕ). numbered (n + 1) k (get_or cs j empty_change)) (omega arith) in
        rw is (planned-fine t (n + 1) (i + 1) j few))
        (λ h. rw (get_or-append us (given p n t) empty_undone i h) (fine i h))

    pub agreed-fine : (ds : List Decision) → Numbered (agreed_changes p ds)
    unfolding agreed_changes
    agreed-fine ds =
        (along-keeps (λ a. (a.playbook ≡ p) × Numbered a.changes)
        (λ a d y h. (h.0, rw h.0 (given-fine a.changes (d.switch, d.cause) h.1))) (beginning p) ds
        (refl, λ i l. absurd (omega arith))).1
