-- One number asked for is made, and no other. Once every switch has acknowledged, the next number k is ready at every
-- controller that keeps the rules, and stays so while shares are written and arrive; so each share for its switch is
-- that of k, and all of them are a quorum.
use mathlib.Core.Path.{◌≡◌, refl, sym, ap, ◌∙◌, subst}
use mathlib.Core.Bool.{true, not, ◌&&◌}
use mathlib.Core.List.{List, ◌∷◌}
use Prim.Native.Nat.{ℕ, ◌≤◌, ◌<◌}
use native.Mathlib.Omega.{arith}
use lib.ListN.{length}
use borrow.Author.Tests.{not-true}
use Rattle.answer.proofs.Bools.{by_le, tf, and_parts, pick-keeps}
use Rattle.lists.specs.Kinds.{is_among}
use Rattle.flow.specs.declared.Rule.{Rule}
use Rattle.flow.specs.declared.Table.{Table}
use Rattle.message.specs.Writing.{is_message}
use Rattle.message.proofs.Ends.{share-number}
use Rattle.controller.proofs.Sent.{written_state}
use Rattle.protocol.specs.Runs.{run, Every}
use Rattle.protocol.proofs.Ends as protocol
use Rattle.protocol.proofs.Worlds.{Ready}
use Rattle.protocol.proofs.Claims.{Next, Lawful}
use Rattle.protocol.proofs.Families.{upd_self}
use Rattle.protocol.proofs.Runs.{run-append}
use Rattle.protocol.proofs.Rounds.{shares_make}
use Rattle.domain.specs.Settings.{Decision, Setting, Valid, Keeps, controller_keys}
use Rattle.domain.specs.Calls.{Call, Run, step}
use Rattle.domain.specs.Premises.{brought}
use Rattle.domain.specs.Rounds.{share_now}
use Rattle.domain.specs.Claim.{changes_of, answered}
use Rattle.domain.proofs.View.{domain_of, view_controller, view}
use Rattle.domain.proofs.Agreed.{laws, change-fine}
use Rattle.domain.proofs.Undone.{last_given}
use Rattle.domain.proofs.Reached.{Begun, Reached, Walked, ranged, seen_all}
use Rattle.domain.proofs.Numbers.{numbers_are}
use Rattle.domain.proofs.Room.{roomy}
use Rattle.domain.proofs.Delivered.{share-read}
use Rattle.domain.proofs.Turns.{Fair, walked, shared_seen}
use Rattle.domain.proofs.Told.{told_after}
use Rattle.witness.specs.Played.{shares, first_half}
use Rattle.witness.specs.Reaching.{sharing, asking}
use Rattle.witness.proofs.Extended.{fair_join}
use Rattle.witness.proofs.Played.{each_fair, shares_fair, first_fair, told, shared_here}
use Rattle.witness.proofs.Finished.{quiet_brought, first_quiet, shares_quiet}
use Rattle.witness.proofs.ReachingAsked.{AsksFor, each-every, silent_makes, asked_makes, first_silent}

module _ (S : Setting) (v : Valid S) (k : ℕ) (ms : List ℕ) (n : Next (domain_of S) k ms) where
  abbrev D : protocol.Domain Rule Table
  D = domain_of S

  -- its switch
  abbrev s : ℕ
  s = D.switch k

  known : s < 16
  known = (change-fine S v (ranged S v) k n.agreed).known

  -- while it is ready at every controller that keeps the rules
  record Wanted (r : Run) : Type 0 where
    reached : Reached S r
    begun : Begun S r
    ready : (c : ℕ) → Keeps S c → Ready D (view_controller (r.controllers c)) k

  -- writing shares and taking them leaves the controllers
  shares_leave : (r : Run) (c i : ℕ) → (run (step S) r (shares S s r c)).controllers i ≡ r.controllers i
  unfolding step
  shares_leave r c i =
      pick-keeps (λ xs. (run (step S) r xs).controllers i ≡ r.controllers i)
      (not (S.strays c) && is_message (share_now r c s)) _ _
      (λ e. rw (written_state (r.controllers c) (controller_keys S c)) (upd_self r.controllers c i)) (λ e. refl)

  -- so each share asks for it
  shares_ask : (r : Run) → Wanted r → (c : ℕ) → c < S.n
      → Every (step S) (λ u x. AsksFor k x) r (shares S s r c) × Wanted (run (step S) r (shares S s r c))
  shares_ask r w c l =
      let fair = shares_fair S v s known r w.reached w.begun c l in (
        pick-keeps (Every (step S) (λ u x. AsksFor k x) r) (not (S.strays c) && is_message (share_now r c s)) _ _
            (λ e.
            let keeps : Keeps S c = (l, not-true _ (and_parts (not (S.strays c)) _ e).0) in
            let from = w.begun c keeps in
            let read = share-read S v r c l (ranged S v) _ from.0 from.1 (w.reached.controllers c keeps) k
            (w.ready c keeps) in
            (tt, (share-number _ read, tt)))
            (λ e. tt),
        record {
          reached = (walked S v r w.reached (shares S s r c) fair).reached;
          begun = fair.begun;
          ready = λ i keeps.
              subst (λ t. Ready D (view_controller t) k) (sym (shares_leave r c i)) (w.ready i keeps);
        },
      )

  -- from a run that was brought the whole agreed list and has made the numbers before it
  module _ (r : Run) (R : Reached S r) (b : Begun S r)
      (whole : (c : ℕ) → Keeps S c → brought c r.log ≡ S.agreed) (so_far : answered S r ≡ ms) where
    abbrev first : List Call
    first = first_half S r

    abbrev middle : Run
    middle = run (step S) r first

    f : Fair S v r first
    f = first_fair S v r R b

    M : Reached S middle
    M = (walked S v r R first f).reached

    still_whole : (c : ℕ) → Keeps S c → brought c middle.log ≡ S.agreed
    still_whole c keeps = quiet_brought S c r first (first_quiet S r) ∙ whole c keeps

    still_made : answered S middle ≡ ms
    still_made = silent_makes S r first (first_silent S r) ∙ so_far

    unmade : (middle.switches s).last < k
    unmade =
        by_le k (middle.switches s).last
        (λ done.
        tf (rw (← numbers_are middle.log, still_made) at (M.invariant.all_made k n.agreed done)) n.new)
        (λ low. low)

    wanted : Wanted middle
    wanted = record {
      reached = M;
      begun = f.begun;
      ready = λ c keeps. record {
        positive = n.agreed.0;
        given = omega (
          arith,
          last_given S c _ _ (M.controllers c keeps),
          ap (λ (ds : List Decision). length (changes_of S ds)) (still_whole c keeps),
          n.agreed.1,
        );
        undone = omega (arith, M.invariant.behind c s, unmade);
        free = λ j waits.
            let order = (laws S v (ranged S v)).lower k j waits in
            told_after S v r R first f c keeps (λ t low. told S v t c low keeps r) j
            (order.0, omega (arith, order.1, n.agreed.1))
            (R.invariant.safe.highest j (rw (← numbers_are r.log, so_far) (n.none_skipped j waits)));
      };
    }

    abbrev second : List Call
    second = sharing S k middle

    abbrev end : Run
    end = run (step S) middle second

    g : Fair S v middle second
    g = each_fair S v S.n (shares S s) (shares_fair S v s known) middle M f.begun

    W : Walked S v middle second
    W = walked S v middle M second g

    -- it is made
    done : k ≤ (end.switches s).last
    done =
        let made = shares_make D (laws S v (ranged S v)) (roomy S v (ranged S v)) k n.agreed (view middle)
        M.invariant (seen_all S v middle second) W.allowed
        (λ c serves.
        let ready = wanted.ready c (serves.known, serves.keeps) in
        record { given = ready.given; free = ready.free })
        (λ c serves.
        let keeps : Keeps S c = (serves.known, serves.keeps) in
        shared_seen S v c keeps middle M second g k (shared_here S v s c known keeps middle)) in
        rw (← W.is) at made

    there : is_among k (answered S end) ≡ true
    there = rw (numbers_are end.log) (W.reached.invariant.all_made k n.agreed done)

    lawful : Lawful D (answered S end)
    lawful = subst (Lawful D) (sym (numbers_are end.log)) W.reached.invariant.safe.lawful

    asks : Every (step S) (λ u x. AsksFor k x) middle second
    asks = each-every S Wanted _ S.n (shares S s) shares_ask middle wanted

    ended : run (step S) r (asking S k r) ≡ end
    ended = run-append (step S) r first second

    -- the calls that ask for it are within the premises and bring no decision; it is made, and no other
    pub asking_fair : Fair S v r (asking S k r)
    asking_fair = fair_join S v r first second f g

    pub asking-brought : (c : ℕ) → Keeps S c → brought c (run (step S) r (asking S k r)).log ≡ S.agreed
    asking-brought c keeps =
        ap (λ (u : Run). brought c u.log) ended
        ∙ quiet_brought S c middle second (shares_quiet S s middle) ∙ still_whole c keeps

    pub asking-makes : answered S (run (step S) r (asking S k r)) ≡ k ∷ ms
    asking-makes = ap (answered S) ended ∙ asked_makes S k ms middle second n.new still_made asks lawful there
