-- What an aim asks: of one address, and of each line of traffic in turn. Assumes nothing.
use mathlib.Core.Path.{◌≡◌, refl, sym, ap, ◌∙◌}
use mathlib.Core.Bool.{Bool, true, not, ◌&&◌}
use mathlib.Core.List.{List, []}
use Prim.Native.Nat.{ℕ, ◌+◌, ◌-◌, ◌<◌}
use native.Mathlib.Omega.{arith}
use lib.ListN.{length, get_or, drop}
use Rattle.std.specs.Prelude.{Ok, Err, ◌⊎◌}
use Rattle.std.proofs.Common.{inl, inr}
use Rattle.lists.specs.Counts.{passing}
use Rattle.lists.specs.Kinds.{is_among}
use Rattle.controller.specs.declared.Undone.{Undone}
use Rattle.protocol.specs.Orders.{up_to}
use Rattle.isolation.specs.Networks.{Link, Traffic, Network}
use Rattle.isolation.specs.Check.{Failure, Verdict, in_turn, explore, check_address, addresses}
use Rattle.checker.specs.Layout.{change_at, first_changes, changes_in, network_for, traffic_of}
use Rattle.checker.specs.Marks.{made_in}
use Rattle.checker.specs.Verdicts.{wanted_by, aimed_at}
use Rattle.checker.specs.Checked.{aimed, outcome_of}
use Rattle.checker.specs.declared.AgreedChange.{AgreedChange}
use Rattle.checker.specs.declared.Aim.{Aim}
use Rattle.checker.specs.declared.Aim.TheVariants.{Resting, Losing, Moving}
use Rattle.checker.specs.declared.PortLink.{PortLink}
use Rattle.checker.specs.declared.Quest.{Quest}
use Rattle.checker.specs.declared.Refusal.{Refusal}
use Rattle.checker.proofs.Listing.{listed-length}
use Rattle.checker.proofs.Bounding.{asked_from, asked_turn}
use Rattle.checker.proofs.Outcomes.{goes_on, stops}

-- what is asked about one address
abbrev pub asks : List AgreedChange → List PortLink → Quest → ℕ → ℕ → Verdict
asks laid links q address b =
    aimed_at q.aim (changes_in laid) q.settled (network_for links) (traffic_of q) address b

-- no change is made before the first
pub from_first : (laid : List AgreedChange) (n : ℕ) (covered : ℕ → Bool) (test : List ℕ → Bool) (blame : List ℕ → Failure)
    (settled : ℕ) (marks : List Bool) (b : ℕ)
    → explore (first_changes laid n) covered test blame settled (n - 0) (0 + 1) (made_in marks 0) b
    ≡ explore (first_changes laid n) covered test blame settled (length (first_changes laid n)) 1 [] b
from_first laid n covered test blame settled marks b =
    let long = listed-length (change_at laid) 0 n in
    let e : n - 0 ≡ length (first_changes laid n) = omega arith in
    let none : made_in marks 0 ≡ [] = unfold passing up_to in refl in
    λ i. explore (first_changes laid n) covered test blame settled (e i) 1 (none i) b

-- what is asked of tables that stand still
pub explored_at : (aim : Aim) → (aim ≡ Resting) ⊎ (aim ≡ Losing) → (us : List Undone) (settled : ℕ) (N : Network) (t : Traffic)
    (address budget : ℕ)
    → check_address us (wanted_by aim) settled N t address budget ≡ aimed_at aim us settled N t address budget
explored_at Resting e us settled N t address budget = refl
explored_at Losing e us settled N t address budget = refl
explored_at Moving e us settled N t address budget = elim e [ inl p ↦ cc | inr p ↦ cc ]

-- a turn over the bounds from a place on: the one there is asked about, and its outcome stops the loop or goes on
module _ (within : ℕ → Bool) (laid : List AgreedChange) (links : List PortLink) (q : Quest) where
  abbrev pub asks_from : List ℕ → ℕ → Verdict
  asks_from l b = asked_from within (asks laid links q) l b

  module _ (l : List ℕ) (i x b : ℕ) (h : i < length l) (is : x ≡ get_or l i 0)
      (asked : (within x && not (is_among x (drop (i + 1) l))) ≡ true) where
    pub bound_on : (left : ℕ) → Ok left ≡ outcome_of (asks laid links q x b)
        → asks_from (drop i l) b ≡ asks_from (drop (i + 1) l) left
    bound_on left ruled =
        asked_turn within (asks laid links q) l i x b h is asked
        ∙ goes_on (asks laid links q x b) left (λ (b : ℕ). asks_from (drop (i + 1) l) b) ruled

    pub bound_bad : (r : Refusal) → Err r ≡ outcome_of (asks laid links q x b)
        → Err r ≡ outcome_of (asks_from (drop i l) b)
    bound_bad r ruled =
        stops (asks laid links q x b) r (λ (b : ℕ). asks_from (drop (i + 1) l) b) ruled
        ∙ ap outcome_of (sym (asked_turn within (asks laid links q) l i x b h is asked))

-- what is asked of one line of traffic, and of all of them
module _ (aim : Aim) (us : List Undone) (settled : ℕ) (links : List Link) where
  abbrev pub asked_of : Traffic → ℕ → Verdict
  asked_of t b =
      in_turn (λ (address b : ℕ). aimed_at aim us settled (record { links = links; traffic = [] }) t address b)
      (addresses us t) b

pub aimed_is : (aim : Aim) (us : List Undone) (settled : ℕ) (links : List Link) (lines : List Traffic) (budget : ℕ)
    → aimed aim us settled (record { links = links; traffic = lines }) budget
    ≡ in_turn (asked_of aim us settled links) lines budget
aimed_is Resting us settled links lines budget = refl
aimed_is Losing us settled links lines budget = refl
aimed_is Moving us settled links lines budget = refl
