-- Packets under way while tables change: each switch is asked at a later moment than the one before. The check follows
-- one address from switch to switch. At each switch it tries each number that can be the last made there of those whose
-- prefix covers the address, and keeps the numbers that are known to be made by then; no set of changes is enumerated.
-- Assumes nothing.
use Rattle.std.specs.Prelude.{ℕ, zero, suc, ◌≡◌, Bool, true, false, not, ◌&&◌, ◌||◌, leb, eqb, length}
use Rattle.std.specs.Prelude.{Option, Some, None}
use mathlib.Core.List.{List, [], ◌∷◌, ◌++◌, Memᴰ}
use Rattle.answer.specs.Ask.{pick}
use Rattle.lists.specs.Arrays.{every}
use Rattle.lists.specs.Counts.{passing}
use Rattle.lists.specs.Kinds.{is_among}
use Rattle.flow.specs.Lookups.{covers, lookup_of}
use Rattle.flow.specs.Tables.{entries_of}
use Rattle.controller.specs.Readiness.{waits_for}
use Rattle.controller.specs.declared.Undone.{Undone}
use Rattle.protocol.specs.Orders.{up_to}
use Rattle.protocol.specs.Runs.{run}
use Rattle.domain.specs.Settings.{Setting}
use Rattle.domain.specs.Calls.{Call, start, step}
use Rattle.domain.specs.Premises.{Premises}
use Rattle.domain.specs.Ideals.{change_of}
use Rattle.isolation.specs.Networks.{Link, Traffic, Network}
use Rattle.isolation.specs.Traces.{End, lost, crossed, circling, Step, foreign, leaves, goes_to, over}
use Rattle.isolation.specs.Traces.{by_step, by_found}
use Rattle.isolation.specs.Claim.{Settled}
use Rattle.isolation.specs.Check.{Failure, Verdict, fine, fails, undecided, in_turn, covering, finds_after}
use Rattle.isolation.specs.Check.{each_address}

-- the way of client c's packet, the switch met as number i finding what `find i` says
unfoldable pub fly : ℕ → List Link → (ℕ → ℕ → Option ℕ) → ℕ → ℕ → ℕ → End
fly c links find i zero s = circling
fly c links find i (suc hops) s =
    by_found (find i s) (lost s)
    (λ (p : ℕ). by_step (over c links s p) (crossed s p) (λ (t : ℕ). fly c links find (suc i) hops t))

-- beginnings of a run, each going on where the one before stops
pub record Moments (S : Setting) (moment : ℕ → List Call) : Type 0 where
  pub within : (i : ℕ) → Premises S (moment i)
  pub later : (i : ℕ) → (more : List Call) × (moment (suc i) ≡ moment i ++ more)

-- no packet under way, over any number of switches, is sent out at a port that its client may not use, where the
-- changes up to a number are made when it comes in
abbrev pub IsolatedInFlight : Setting → ℕ → Network → Type 0
IsolatedInFlight S settled N =
    (moment : ℕ → List Call) → Moments S moment → Settled S settled (run (step S) (start S) (moment 0))
    → (t : Traffic) → Memᴰ t N.traffic → (address : ℕ) → covers t.prefix address ≡ true → (hops s p : ℕ)
    → fly t.client N.links
    (λ i s. lookup_of address (entries_of ((run (step S) (start S) (moment i)).switches s).table)) 0 hops t.entry
    ≡ crossed s p → ⊥

-- the numbers from n down to 0
unfoldable pub down_from : ℕ → List ℕ
down_from zero = 0 ∷ []
down_from (suc n) = suc n ∷ down_from n

abbrev pub step_verdict : Step → Verdict → Verdict → (ℕ → Verdict) → Verdict
step_verdict foreign bad good go = bad
step_verdict leaves bad good go = good
step_verdict (goes_to s) bad good go = go s

abbrev pub found_verdict : Option ℕ → Verdict → (ℕ → Verdict) → Verdict
found_verdict None good go = good
found_verdict (Some p) good go = go p

abbrev pub spend : ℕ → (ℕ → Verdict) → Verdict
spend zero next = undecided
spend (suc budget) next = next budget

module _ (us : List Undone) where
  -- whether one of some numbers waits for another
  unfoldable pub is_needed : ℕ → List ℕ → Bool
  is_needed j [] = false
  is_needed j (k ∷ ks) = waits_for (change_of us k) (change_of us j) || is_needed j ks

  -- with the numbers found so far, each number from n down to 1 that is known, or for which one of those found waits;
  -- the lowest first
  unfoldable pub with_needs : (ℕ → Bool) → ℕ → List ℕ → List ℕ
  with_needs known zero found = found
  with_needs known (suc j) found =
      with_needs known j (pick (known (suc j) || is_needed (suc j) found) (suc j ∷ found) found)

  -- what is known once a number is the last made at a switch, 0 for none
  abbrev pub known_at : List ℕ → ℕ → List ℕ
  known_at known zero = known
  known_at known (suc k) = with_needs (λ j. is_among j (suc k ∷ known)) (length us) []

  module _ (covered : ℕ → Bool) where
    -- whether a change is on a switch and its prefix covers the address
    abbrev pub is_on : ℕ → ℕ → Bool
    is_on s k = covered k && eqb (change_of us k).switch s

    -- whether a number can be the last such one made: 0 or such a one, and none known to be made is above it
    abbrev pub can_be_last : ℕ → List ℕ → ℕ → Bool
    can_be_last s known k = (eqb k 0 || is_on s k) && every (λ j. not (is_on s j) || leb j k) known

    -- the numbers of a list, from the highest agreed one down
    abbrev pub downward : List ℕ → List ℕ
    downward known = passing (λ j. is_among j known) (up_to (length us))

    module _ (c : ℕ) (links : List Link) (blame : List ℕ → Failure) where
      -- a packet at a switch, where a number is the last made; it goes on to a switch with what is known then
      abbrev pub flight_at : (ℕ → List ℕ → ℕ → Verdict) → ℕ → List ℕ → ℕ → ℕ → Verdict
      flight_at go s known k budget =
          pick (can_be_last s known k)
          (spend budget (λ (b : ℕ). found_verdict (finds_after us covered (up_to k) s) (fine b)
          (λ (p : ℕ). step_verdict (over c links s p) (fails (blame (downward (known_at known k)))) (fine b)
          (λ (t : ℕ). go t (known_at known k) b))))
          (fine budget)

      unfoldable pub flight : ℕ → ℕ → List ℕ → ℕ → Verdict
      flight zero s known budget = fine budget
      flight (suc hops) s known budget =
          in_turn (flight_at (λ t later b. flight hops t later b) s known) (down_from (length us)) budget

  -- where the changes up to a number are made at first
  module _ (settled hops : ℕ) (N : Network) where
    abbrev pub flight_to : Traffic → ℕ → ℕ → Verdict
    flight_to t address budget =
        flight (covering us address) t.client N.links
        (λ made. record { traffic = t; address = address; made = made }) hops t.entry
        (with_needs (λ j. leb j settled) (length us) []) budget

    abbrev pub check_flights : ℕ → Verdict
    check_flights budget = each_address us flight_to N budget
