-- One decision brought to every controller that keeps the rules, one after another: where none of them answers it with
-- 24, each was brought it in the end, and the run stays within the premises.
use mathlib.Core.Path.{◌≡◌, refl, sym, ap, ◌∙◌, subst}
use mathlib.Core.List.{List, [], ◌∷◌, ◌++◌, append_assoc}
use Prim.Native.Nat.{ℕ, zero, suc, ◌≤◌, ◌<◌}
use native.Mathlib.Omega.{arith}
use borrow.Author.Tests.{eq-eqb, ne_eqb}
use Rattle.answer.proofs.Bools.{by_bool, by_eq, by_le, tf}
use Rattle.controller.specs.Decisions.{decided_by}
use Rattle.controller.specs.declared.Controller.{Controller}
use Rattle.protocol.specs.Runs.{run}
use Rattle.protocol.proofs.Families.{upd_other}
use Rattle.domain.specs.Settings.{Decision, Setting, Valid, Keeps}
use Rattle.domain.specs.Calls.{Run, step}
use Rattle.domain.specs.Premises.{decisions, brought}
use Rattle.domain.proofs.Reached.{Begun, Reached, by_other, call_reached}
use Rattle.domain.proofs.Turns.{Fair}
use Rattle.witness.specs.Reaching.{deciding, deciding_below}
use Rattle.witness.proofs.Extended.{fair_join}
use Rattle.witness.proofs.Played.{nothing_fair}

-- a controller does not answer a decision with 24
abbrev pub NotFull : Decision → Controller → Type 0
NotFull d t = (decided_by t d.switch d.serial d.cause).answer ≡ 24 → ⊥

module _ (S : Setting) (v : Valid S) (ds : List Decision) (d : Decision) (rest : List Decision)
    (begins : S.agreed ≡ ds ++ d ∷ rest) where
  -- those below k have room and wait for it, the others were brought it
  record Waiting (k : ℕ) (r : Run) : Type 0 where
    yet : (c : ℕ) → Keeps S c → c < k → (brought c r.log ≡ ds) × NotFull d (r.controllers c)
    done : (c : ℕ) → Keeps S c → k ≤ c → brought c r.log ≡ ds ++ d ∷ []

  waiting_begun : (k : ℕ) (r : Run) → Waiting k r → Begun S r
  waiting_begun k r w c keeps =
      by_le k c
      (λ l. (rest, begins ∙ sym (append_assoc ds (d ∷ []) rest) ∙ ap (λ b. b ++ rest) (sym (w.done c keeps l))))
      (λ l. (d ∷ rest, begins ∙ ap (λ b. b ++ d ∷ rest) (sym (w.yet c keeps l).0)))

  module _ (k : ℕ) (r : Run) (w : Waiting (suc k) r) (keeps : Keeps S k) where
    itself : brought k (step S r (deciding d k)).log ≡ ds ++ d ∷ []
    unfolding step decisions
    itself =
        let now = w.yet k keeps (omega arith) in rw (eq-eqb k k refl, ne_eqb _ 24 now.1, now.0)

    elsewhere : (c : ℕ) → (k ≡ c → ⊥) → (step S r (deciding d k)).controllers c ≡ r.controllers c
    unfolding step
    elsewhere c apart = upd_other r.controllers k _ c apart

    decided_one : Waiting k (step S r (deciding d k))
    decided_one = record {
      yet = λ c other l.
          let apart : k ≡ c → ⊥ = λ e. omega arith in
          let old = w.yet c other (omega arith) in (
            by_other S _ r c k _ apart ∙ old.0,
            subst (NotFull d) (sym (elsewhere c apart)) old.1,
          );
      done = λ c other l. by_eq k c
          (λ e. subst (λ (i : ℕ). brought i (step S r (deciding d k)).log ≡ ds ++ d ∷ []) e itself)
          (λ apart. by_other S _ r c k _ apart ∙ w.done c other (omega arith));
    }

  decided_below : (k : ℕ) → k ≤ S.n → (r : Run) → Reached S r → Waiting k r
      → Fair S v r (deciding_below S d k) × Waiting 0 (run (step S) r (deciding_below S d k))
  unfolding deciding_below
  decided_below zero few r R w = (nothing_fair S v r (waiting_begun 0 r w), w)
  decided_below (suc k) few r R w =
      by_bool (S.strays k)
      (λ e. rw e (decided_below k (omega arith) r R (record {
        yet = λ c keeps l. w.yet c keeps (omega arith);
        done = λ c keeps l. by_eq k c (λ q. tf (rw q at e) keeps.1) (λ n. w.done c keeps (omega arith));
      })))
      (λ e.
      let keeps : Keeps S k = (omega arith, e) in
      let next = decided_one k r w keeps in
      let b = waiting_begun k _ next in
      let more = decided_below k (omega arith) (step S r (deciding d k))
      (call_reached S v r R (deciding d k) keeps tt b) next in
      rw e (
        fair_join S v r (deciding d k ∷ []) (deciding_below S d k)
            (record { in_run = (keeps, tt); unforged = (tt, tt); begun = b }) more.0,
        more.1,
      ))

  -- all of them
  pub decided_all : (r : Run) → Reached S r
      → ((c : ℕ) → Keeps S c → (brought c r.log ≡ ds) × NotFull d (r.controllers c))
      → Fair S v r (deciding_below S d S.n)
      × ((c : ℕ) → Keeps S c → brought c (run (step S) r (deciding_below S d S.n)).log ≡ ds ++ d ∷ [])
  decided_all r R waits =
      let all = decided_below S.n (omega arith) r R (record {
        yet = λ c keeps l. waits c keeps;
        done = λ c keeps l. absurd (omega (arith, keeps.0));
      }) in
      (all.0, λ c keeps. all.1.done c keeps (omega arith))
