-- Demand 3, and what is proved beside it. All ends begin from setups answered 0 and keep their names; the agreed changes
-- are numbered from 1 on; no call of a run within the premises is refused by question 20, and no agreed change by question
-- 19; a stray alone changes nothing; a table follows from the last applied number. The last lines are the claim: after
-- every run what the switches did is what the ideal controller does, and as many full rounds as changes remain make all.
use mathlib.Core.Path.{◌≡◌, sym, ap, ◌∙◌}
use mathlib.Core.Bool.{true}
use mathlib.Core.List.{List, [], ◌++◌, append-nil}
use Prim.Native.Nat.{ℕ, ◌+◌, ◌≤◌, ◌<◌}
use lib.ListN.{length, get_or}
use Rattle.flow.specs.Tables.{entries_of}
use Rattle.flow.specs.Changes.{room_for}
use Rattle.switch.specs.States as switch
use Rattle.switch.specs.declared.Reply as switch-reply
use Rattle.controller.specs.Changes.{empty_undone}
use Rattle.controller.specs.States as controller
use Rattle.controller.specs.declared.Reply as controller-reply
use Rattle.protocol.specs.Runs.{run}
use Rattle.protocol.proofs.Orders.{lawful_agreed}
use Rattle.domain.specs.Settings.{Decision, Setting, Valid, playbook, Keeps}
use Rattle.domain.specs.Calls.{Call, Run, start, step}
use Rattle.domain.specs.Premises.{taken, Premises}
use Rattle.domain.specs.Ideals.{change_of, table_at}
use Rattle.domain.specs.Claim.{agreed, Safe, RoundsMake, Demand3}
use Rattle.domain.specs.Vouched.{Vouched}
use Rattle.domain.proofs.Courses.{agreed-fine}
use Rattle.domain.proofs.View.{domain_of}
use Rattle.domain.proofs.Agreed.{stored}
use Rattle.domain.proofs.Ends.{switch-set, controller-set}
use Rattle.domain.proofs.Reached.{ranged, run_reached}
use Rattle.domain.proofs.Room.{roomy}
use Rattle.domain.proofs.Safety.{reached_safe, reached_table}
use Rattle.domain.proofs.Live.{brought-made, taken_made}
use Rattle.domain.proofs.Vouched.{run_vouched}

module _ (S : Setting) (v : Valid S) where
  pub switches-set : (s : ℕ) → s < 16 → (switch.setup_of s S.n).answer ≡ 0
  switches-set s l = ap (λ (r : switch-reply.Reply). r.answer) (switch-set S v s l)

  pub controllers-set : (c : ℕ) → c < S.n → (controller.setup_of c S.n (playbook S)).answer ≡ 0
  controllers-set c l = ap (λ (r : controller-reply.Reply). r.answer) (controller-set S v c l)

  -- the agreed change at a place has the number that follows
  pub agreed-numbered : (i : ℕ) → i < length (agreed S) → (get_or (agreed S) i empty_undone).number ≡ i + 1
  agreed-numbered i l = (agreed-fine (playbook S) (stored S v (ranged S v)) (ranged S v) S.agreed i l).numbered

  module _ (calls : List Call) (p : Premises S calls) where
    abbrev after : Run
    after = run (step S) (start S) calls

    -- each end keeps its id, and a switch the number of controllers
    pub switch_names : (s : ℕ) → s < 16 → ((after.switches s).id ≡ s) × ((after.switches s).n ≡ S.n)
    switch_names s l = let f = (run_reached S v calls p).switches s l in (f.id, f.n)

    pub controller_names : (c : ℕ) → Keeps S c → (after.controllers c).id ≡ c
    controller_names c keeps = ((run_reached S v calls p).controllers c keeps).id

    -- question 20
    pub switch_limits : (s : ℕ) → s < 16 → switch.switch_ok (after.switches s) ≡ true
    switch_limits s l = ((run_reached S v calls p).switches s l).ok

    pub controller_limits : (c : ℕ) → Keeps S c → controller.controller_ok (after.controllers c) ≡ true
    controller_limits c keeps = ((run_reached S v calls p).controllers c keeps).ok

    -- question 19: each switch has room for each agreed change on it
    pub room : (k : ℕ) → 0 < k → k ≤ length (agreed S) →
        let u = change_of (agreed S) k in
        room_for u.rule (entries_of (after.switches u.switch).table) ≡ true
    room k positive few =
        let safe = (run_reached S v calls p).invariant.safe in
        rw (safe.tables (change_of (agreed S) k).switch)
        (roomy S v (ranged S v) _ (lawful_agreed (domain_of S) _ safe.lawful) k (positive, few))

    pub safe : Safe S after
    safe = reached_safe S v after (run_reached S v calls p)

    -- a stray alone changes nothing: each share answered 1 has the number and rule of one that some controller which
    -- keeps the rules wrote for that switch earlier in the run
    pub vouched : Vouched S after.log
    vouched = run_vouched S v calls p

    -- a switch's table is a function of the agreed changes and its last applied number
    pub table_by_last : (s : ℕ) → (after.switches s).table ≡ table_at (agreed S) s (after.switches s).last
    table_by_last = reached_table S v after (run_reached S v calls p)

  -- in document 01's own words, full rounds make the changes of decisions that all these controllers have taken: at least
  -- the decisions ds, or exactly these; what a controller took has the changes of what it was brought (taken-changes),
  -- the first of the agreed ones (taken-agreed)
  module _ (before rest : List Call) (p : Premises S (before ++ rest)) (ds : List Decision) where
    pub taken-decisions_made : ((c : ℕ) → Keeps S c
        → (more : List Decision) × (taken c (run (step S) (start S) before).log ≡ ds ++ more))
        → RoundsMake S ds before rest
    taken-decisions_made = taken_made S v before rest p ds

    pub same-decisions_made : ((c : ℕ) → Keeps S c → taken c (run (step S) (start S) before).log ≡ ds)
        → RoundsMake S ds before rest
    same-decisions_made same = taken-decisions_made (λ c keeps. ([], same c keeps ∙ sym (append-nil ds)))

-- the one claim
pub demand3 : (S : Setting) → Valid S → Demand3 S
demand3 S v = record { safe = safe S v; live = brought-made S v }
