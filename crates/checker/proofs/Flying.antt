-- A packet's flight from one switch on, number by number: each turn goes by the trial of that number. Assumes nothing.
use mathlib.Core.Path.{◌≡◌, refl, sym, ap, ◌∙◌}
use mathlib.Core.Bool.{Bool, true, false}
use mathlib.Core.List.{List, [], ◌∷◌}
use Prim.Native.Nat.{ℕ, zero, suc, ◌+◌, ◌-◌, ◌<◌}
use native.Mathlib.Omega.{arith}
use lib.Dec.{leb}
use lib.ListN.{length}
use Rattle.std.specs.Prelude.{Ok, Err}
use Rattle.answer.specs.Ask.{pick}
use Rattle.lists.specs.Counts.{passing}
use Rattle.lists.specs.Kinds.{is_among}
use Rattle.std.specs.Prelude.{Option, Some, None}
use Rattle.controller.specs.declared.Undone.{Undone}
use Rattle.protocol.specs.Orders.{up_to}
use Rattle.isolation.specs.Networks.{Link}
use Rattle.isolation.specs.Traces.{Step, foreign, leaves, goes_to, over}
use Rattle.isolation.specs.Check.{Failure, Verdict, fine, fails, undecided, and_then, in_turn, covering, finds_after}
use Rattle.isolation.specs.Flights.{down_from, step_verdict, found_verdict, spend, can_be_last, known_at, downward}
use Rattle.isolation.specs.Flights.{with_needs, flight_at, flight, flight_to}
use Rattle.checker.specs.Layout.{change_at, changes_in, links_in, network_for, traffic_of}
use Rattle.checker.specs.Marks.{rising_in, made_in}
use Rattle.checker.specs.Trials.{step_trial, spent_trial, trial_at}
use Rattle.checker.specs.Verdicts.{blamed}
use Rattle.checker.specs.Checked.{outcome_of}
use Rattle.checker.specs.declared.AgreedChange.{AgreedChange}
use Rattle.checker.specs.declared.PortLink.{PortLink}
use Rattle.checker.specs.declared.Quest.{Quest}
use Rattle.checker.specs.declared.Refusal.{Refusal}
use Rattle.checker.specs.declared.Trial.{Trial}
use Rattle.checker.specs.declared.Trial.TheVariants.{Passes, Spent, Crosses, GoesOn}
use Rattle.checker.proofs.Listing.{listed-length}
use Rattle.checker.proofs.Needing.{rising_made}
use Rattle.checker.proofs.Outcomes.{goes_on, stops}

-- the verdict that a trial leads to
abbrev by_trial : Trial → Verdict → (ℕ → ℕ → Verdict) → Verdict
by_trial (Passes budget) bad go = fine budget
by_trial Spent bad go = undecided
by_trial Crosses bad go = bad
by_trial (GoesOn s budget) bad go = go s budget

step_cases : (step : Step) (b : ℕ) (bad : Verdict) (go : ℕ → ℕ → Verdict)
    → step_verdict step bad (fine b) (λ (t : ℕ). go t b) ≡ by_trial (step_trial step b) bad go
step_cases foreign b bad go = refl
step_cases leaves b bad go = refl
step_cases (goes_to s) b bad go = refl

trial_cases : (able : Bool) (found : Option ℕ) (step : ℕ → Step) (budget : ℕ) (bad : Verdict) (go : ℕ → ℕ → Verdict)
    → pick able
    (spend budget (λ (b : ℕ). found_verdict found (fine b)
    (λ (p : ℕ). step_verdict (step p) bad (fine b) (λ (t : ℕ). go t b))))
    (fine budget)
    ≡ by_trial (pick able (spent_trial found step budget) (Passes budget)) bad go
trial_cases false found step budget bad go = refl
trial_cases true found step zero bad go = refl
trial_cases true None step (suc b) bad go = refl
trial_cases true (Some p) step (suc b) bad go = step_cases (step p) b bad go

-- the numbers below one, the highest first
unfoldable pub below : ℕ → List ℕ
below zero = []
below (suc n) = n ∷ below n

below_all : (n : ℕ) → down_from n ≡ below (suc n)
unfolding below down_from
below_all zero = refl
below_all (suc n) = ap (λ (l : List ℕ). suc n ∷ l) (below_all n)

-- a flight over some switches is one at the first of them
flight-first : (us : List Undone) (covered : ℕ → Bool) (c : ℕ) (links : List Link) (blame : List ℕ → Failure)
    (hops s : ℕ) (known : List ℕ) (budget : ℕ) → (hops ≡ 0 → ⊥)
    → flight us covered c links blame hops s known budget
    ≡ in_turn (flight_at us covered c links blame
    (λ t later b. flight us covered c links blame (hops - 1) t later b) s known) (down_from (length us)) budget
unfolding flight
flight-first us covered c links blame zero s known budget some = absurd (some refl)
flight-first us covered c links blame (suc h) s known budget some =
    let z : h ≡ suc h - 1 = omega arith in
    ap (λ (n : ℕ). in_turn (flight_at us covered c links blame
    (λ t later b. flight us covered c links blame n t later b) s known) (down_from (length us)) budget) z

module _ (laid : List AgreedChange) (links : List PortLink) (q : Quest) (address : ℕ) where
  abbrev pub flight_of : ℕ → ℕ → List ℕ → ℕ → Verdict
  flight_of hops s known budget =
      flight (changes_in laid) (covering (changes_in laid) address) q.line.client
      (links_in links) (blamed q address) hops s known budget

  -- the numbers below one are still to be tried, over so many switches
  abbrev pub flight_below : ℕ → ℕ → List ℕ → ℕ → ℕ → Verdict
  flight_below hops s known number budget =
      in_turn (flight_at (changes_in laid) (covering (changes_in laid) address) q.line.client
      (links_in links) (blamed q address) (λ t later b. flight_of (hops - 1) t later b) s known)
      (below number) budget

  module _ (hops s : ℕ) (known : List ℕ) where
    pub flight-start : (budget : ℕ) → (hops ≡ 0 → ⊥)
        → flight_of hops s known budget ≡ flight_below hops s known (length laid + 1) budget
    flight-start budget some =
        let us = changes_in laid in
        let covered = covering us address in
        let to = links_in links in
        let z : suc (length laid) ≡ length laid + 1 = omega arith in
        flight-first us covered q.line.client to (blamed q address) hops s known budget some
        ∙ ap (λ (l : List ℕ). in_turn (flight_at us covered q.line.client to (blamed q address)
        (λ t later b. flight_of (hops - 1) t later b) s known) l budget)
        (ap down_from (listed-length (change_at laid) 0 (length laid)) ∙ below_all (length laid) ∙ ap below z)

    pub flight_end : (number budget : ℕ) → number ≡ 0 → flight_below hops s known number budget ≡ fine budget
    unfolding in_turn below
    flight_end number budget e = ap (λ (n : ℕ). flight_below hops s known n budget) e

    -- the trial of a number decides its turn
    flight_turn : (number m left : ℕ) → number ≡ m + 1 → (trial told : Trial)
        → trial ≡ trial_at (changes_in laid) (covering (changes_in laid) address) q.line.client
        (links_in links) s known m left
        → trial ≡ told
        → flight_below hops s known number left
        ≡ and_then (by_trial told
        (fails (blamed q address (downward (changes_in laid) (covering (changes_in laid) address)
        (known_at (changes_in laid) known m))))
        (λ t b. flight_of (hops - 1) t (known_at (changes_in laid) known m) b))
        (λ (b : ℕ). flight_below hops s known m b)
    unfolding in_turn below
    flight_turn number m left e trial told t o =
        let us = changes_in laid in
        let covered = covering us address in
        let bad = fails (blamed q address (downward us covered (known_at us known m))) in
        let next : suc m ≡ number = omega arith in
        ap (λ (n : ℕ). flight_below hops s known n left) (sym next)
        ∙ ap (λ (v : Verdict). and_then v (λ (b : ℕ). flight_below hops s known m b))
        (trial_cases (can_be_last us covered s known m) (finds_after us covered (up_to m) s)
        (λ (p : ℕ). over q.line.client (links_in links) s p) left bad
        (λ t b. flight_of (hops - 1) t (known_at us known m) b)
        ∙ ap (λ (r : Trial). by_trial r bad (λ t b. flight_of (hops - 1) t (known_at us known m) b)) (sym t ∙ o))

  pub flight_none : (hops s : ℕ) (known : List ℕ) (budget : ℕ) → hops ≡ 0 → flight_of hops s known budget ≡ fine budget
  unfolding flight
  flight_none hops s known budget e = ap (λ (n : ℕ). flight_of n s known budget) e

  -- the numbers blamed are those that the marks make
  downward-made : (marks : List Bool) (later : List ℕ) → rising_in marks (length laid) ≡ later
      → downward (changes_in laid) (covering (changes_in laid) address) later
      ≡ made_in marks (length laid)
  downward-made marks later e =
      (λ i. passing (λ j. is_among j (sym e i)) (up_to (listed-length (change_at laid) 0 (length laid) i)))
      ∙ rising_made marks (length laid)

  -- a flight where the changes up to the settled number are known
  pub fly-known : (marks : List Bool) (budget : ℕ)
      → rising_in marks (length laid)
      ≡ with_needs (changes_in laid) (λ k. leb k q.settled) (length laid) []
      → flight_of 16 q.line.entry (rising_in marks (length laid)) budget
      ≡ flight_to (changes_in laid) q.settled 16 (network_for links) (traffic_of q) address budget
  fly-known marks budget e =
      ap (λ (known : List ℕ). flight_of 16 q.line.entry known budget)
      (e ∙ ap (λ (n : ℕ). with_needs (changes_in laid) (λ k. leb k q.settled) n [])
      (sym (listed-length (change_at laid) 0 (length laid))))

  -- a turn of a whole flight, by what its trial is
  module _ (hops s : ℕ) (known : List ℕ) (whole : Verdict) (number left : ℕ)
      (so : whole ≡ flight_below hops s known number left) (some : 0 < number) (trial : Trial)
      (tried : trial ≡ trial_at (changes_in laid) (covering (changes_in laid) address) q.line.client
      (links_in links) s known (number - 1) left) where
    pub turn_passes : (rest : ℕ) → trial ≡ Passes rest → whole ≡ flight_below hops s known (number - 1) rest
    turn_passes rest e =
        so ∙ flight_turn hops s known number (number - 1) left (omega arith) trial (Passes rest) tried e

    pub turn_spent : trial ≡ Spent → whole ≡ undecided
    turn_spent e = so ∙ flight_turn hops s known number (number - 1) left (omega arith) trial Spent tried e

    module _ (marks : List Bool)
        (is : rising_in marks (length laid) ≡ known_at (changes_in laid) known (number - 1)) where
      pub turn_crosses : trial ≡ Crosses → whole ≡ fails (blamed q address (made_in marks (length laid)))
      turn_crosses e =
          so ∙ flight_turn hops s known number (number - 1) left (omega arith) trial Crosses tried e
          ∙ ap (λ (made : List ℕ). fails (blamed q address made)) (downward-made marks _ is)

      module _ (next rest : ℕ) (goes : trial ≡ GoesOn next rest) where
        abbrev later : Verdict
        later = flight_of (hops - 1) next (rising_in marks (length laid)) rest

        turn_later : whole ≡ and_then later (λ (b : ℕ). flight_below hops s known (number - 1) b)
        turn_later =
            so ∙ flight_turn hops s known number (number - 1) left (omega arith) trial (GoesOn next rest) tried goes
            ∙ ap (λ (v : Verdict). and_then v (λ (b : ℕ). flight_below hops s known (number - 1) b))
            (ap (λ (l : List ℕ). flight_of (hops - 1) next l rest) (sym is))

        pub turn_stops : (r : Refusal) → Err r ≡ outcome_of later → Err r ≡ outcome_of whole
        turn_stops r ruled = stops later r _ ruled ∙ ap outcome_of (sym turn_later)

        pub turn_goes_on : (b : ℕ) → Ok b ≡ outcome_of later → whole ≡ flight_below hops s known (number - 1) b
        turn_goes_on b ruled = turn_later ∙ goes_on later b _ ruled
