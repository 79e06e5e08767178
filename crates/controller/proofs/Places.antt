-- Undone changes held and numbers given, one more at the end: what a turn of each loop comes to. Also, the places of a
-- controller within its limits are those of its undone changes. Assumes nothing.
use mathlib.Core.Path.{◌≡◌, refl, sym, ap, ◌∙◌}
use mathlib.Core.Bool.{Bool, true, false, and-false}
use mathlib.Core.List.{List, [], ◌∷◌, ◌++◌, append-nil, append_assoc}
use Prim.Native.Nat.{ℕ, suc, ◌+◌, ◌≤◌, ◌<◌}
use native.Mathlib.Omega.{arith}
use lib.ListN.{length, get_or, take, length-append}
use lib.Seq.{length-take-le}
use borrow.Author.Tests.{eqb-true}
use Rattle.answer.specs.Ask.{pick}
use Rattle.answer.proofs.Bools.{by_bool, tf}
use Rattle.lists.proofs.Padding.{pad_snoc, as_padded}
use Rattle.lists.proofs.Passing.{passing_none, passing_snoc, passing-few}
use Rattle.lists.proofs.Stores.{take_next}
use Rattle.flow.specs.Rules.{empty_rule}
use Rattle.flow.proofs.Actions.{rule_sound}
use Rattle.playbook.specs.declared.Change.{Change}
use Rattle.controller.specs.Changes.{empty_undone, undone_empty, held_of, undone_of, is_undone, still_undone}
use Rattle.controller.specs.Changes.{numbered, numbered_from}
use Rattle.controller.specs.Moving.{with_change}
use Rattle.controller.specs.declared.Controller.{Controller}
use Rattle.controller.specs.declared.Held.{Held}
use Rattle.controller.specs.declared.Undone.{Undone}
use Rattle.controller.proofs.Within.{Within}

-- one more in the next place, also where there is none left
held_of_snoc : (us : List Undone) (u : Undone) → with_change (held_of us) u ≡ held_of (us ++ u ∷ [])
held_of_snoc us u =
    λ i. record { changes = pad_snoc 64 empty_undone us u i; count = sym (length-append us (u ∷ [])) i }

-- a loop holds, after some changes, those of others that are not done: none yet, how many these are, and a turn, which
-- takes the next one
module _ (acknowledged : List ℕ) (us : List Undone) where
  pub held_none : held_of us ≡ held_of (us ++ still_undone acknowledged [])
  held_none = ap held_of (sym (ap (λ (l : List Undone). us ++ l) (passing_none (is_undone acknowledged)) ∙ append-nil us))

  module _ (vs : List Undone) {h : Held} (e : h ≡ held_of (us ++ still_undone acknowledged vs)) where
    pub held_few : h.count ≤ length us + length vs
    held_few = rw e (simp length-append (omega (arith, passing-few (is_undone acknowledged) vs)))

    pub held_turn : (u : Undone) {ws : List Undone} {next : Held} → ws ≡ vs ++ u ∷ []
        → next ≡ pick (is_undone acknowledged u) (with_change h u) h → next ≡ held_of (us ++ still_undone acknowledged ws)
    held_turn u more turn =
        let after = ap (still_undone acknowledged) more ∙ passing_snoc (is_undone acknowledged) vs u in
        turn
        ∙ by_bool (is_undone acknowledged u)
        (λ y. rw (after, y, e) (held_of_snoc (us ++ still_undone acknowledged vs) u ∙ rw append_assoc))
        (λ y. rw (after, y) e)

-- the changes of a plan with their numbers: none, and one more at the end
module _ (first : ℕ) where
  pub numbered_none : (number : ℕ) → numbered_from first number [] ≡ []
  unfolding numbered_from
  numbered_none number = refl

  pub numbered_snoc : (number : ℕ) (cs : List Change) (c : Change)
      → numbered_from first number (cs ++ c ∷ [])
      ≡ numbered_from first number cs ++ numbered first (number + length cs) c ∷ []
  unfolding numbered_from
  numbered_snoc number [] c = let e : number + 0 ≡ number = omega arith in rw e
  numbered_snoc number (d ∷ cs) c =
      let e : number + suc (length cs) ≡ number + 1 + length cs = omega arith in
      rw e (ap (λ (us : List Undone). numbered first number d ∷ us) (numbered_snoc (number + 1) cs c))

  -- a turn of the loop that gives them
  pub numbered_turn : (number : ℕ) (plan : List Change) (i : ℕ) (z : Change) {u : Undone}
      → i < length plan → u ≡ numbered first (number + i) (get_or plan i z)
      → numbered_from first number (take (i + 1) plan) ≡ numbered_from first number (take i plan) ++ u ∷ []
  numbered_turn number plan i z inside e =
      let n : length (take i plan) ≡ i = length-take-le i plan (omega arith) in
      ap (numbered_from first number) (take_next plan i z inside)
      ∙ numbered_snoc number (take i plan) (get_or plan i z)
      ∙ rw (n, e)

-- only the empty undone change passes the test of an unused place
only_empty : (u : Undone) → undone_empty u ≡ true → u ≡ empty_undone
only_empty u h =
    let part : (t : Bool) → (t ≡ false → undone_empty u ≡ false) → t ≡ true =
    λ t f. by_bool t (λ e. e) (λ e. tf h (f e)) in
    λ i. record {
      number = eqb-true u.number 0 (part _ (λ e. rw e)) i;
      first = eqb-true u.first 0 (part _ (λ e. rw (e, and-false))) i;
      flow = eqb-true u.flow 0 (part _ (λ e. rw (e, and-false))) i;
      switch = eqb-true u.switch 0 (part _ (λ e. rw (e, and-false))) i;
      rule = rule_sound u.rule empty_rule (part _ (λ e. rw (e, and-false))) i;
    }

-- so the places of a controller within its limits are those of its undone changes
pub held_sound : (c : Controller) → Within c → length c.progress.undone.changes ≡ 64
    → c.progress.undone ≡ held_of (undone_of c)
held_sound c w long =
    let places = c.progress.undone.changes in
    let padded = as_padded undone_empty empty_undone only_empty _ places long w.count w.unused in
    λ i. record { changes = padded.0 i; count = padded.1 i }
