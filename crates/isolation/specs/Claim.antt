-- The claim: at every moment of every run, every packet of every client keeps to links that its client may use.
-- Assumes nothing.
use Rattle.std.specs.Prelude.{◌≡◌, Bool, true, ℕ, ◌≤◌}
use mathlib.Core.List.{List, ◌++◌, Memᴰ}
use Rattle.answer.specs.Limits.{switch_count}
use Rattle.lists.specs.Kinds.{is_among}
use Rattle.flow.specs.Lookups.{covers, lookup_of}
use Rattle.flow.specs.Tables.{entries_of}
use Rattle.flow.specs.declared.Table.{Table}
use Rattle.protocol.specs.Runs.{run}
use Rattle.domain.specs.Settings.{Setting}
use Rattle.domain.specs.Calls.{Call, Run, start, step}
use Rattle.domain.specs.Premises.{Premises}
use Rattle.domain.specs.Claim.{answered}
use Rattle.isolation.specs.Networks.{Traffic, Network}
use Rattle.isolation.specs.Traces.{End, crossed, follow}

-- the way of a packet to an address, over these tables, in so many switches
abbrev pub way_of : Network → (ℕ → Table) → Traffic → ℕ → ℕ → End
way_of N tables t address hops =
    follow t.client N.links (λ (s : ℕ). lookup_of address (entries_of (tables s))) hops t.entry

-- no packet of any client is sent out at a port that its client may not use
abbrev pub Isolated : Network → (ℕ → Table) → Type 0
Isolated N tables =
    (t : Traffic) → Memᴰ t N.traffic → (address : ℕ) → covers t.prefix address ≡ true
    → (hops s p : ℕ) → way_of N tables t address hops ≡ crossed s p → ⊥

-- every packet ends as wanted, followed over 16 switches
abbrev pub Wanted : (Traffic → End → Bool) → Network → (ℕ → Table) → Type 0
Wanted wanted N tables =
    (t : Traffic) → Memᴰ t N.traffic → (address : ℕ) → covers t.prefix address ≡ true
    → wanted t (way_of N tables t address switch_count) ≡ true

-- all changes up to a number are made
abbrev pub Settled : Setting → ℕ → Run → Type 0
Settled S settled r = (k : ℕ) → 1 ≤ k → k ≤ settled → is_among k (answered S r) ≡ true

-- a claim about flow tables, at every moment of every run within demand 3's premises by which the changes up to a number
-- are made; with 0, at every moment
abbrev pub Always : Setting → ℕ → ((ℕ → Table) → Type 0) → Type 0
Always S settled Claim =
    (before rest : List Call) → Premises S (before ++ rest) → Settled S settled (run (step S) (start S) before)
    → Claim (λ s. ((run (step S) (start S) before).switches s).table)

-- a moment of a run within the premises at which a packet is sent out at a port that its client may not use, with the
-- changes up to a number made
pub record Crosses (S : Setting) (settled : ℕ) (N : Network) : Type 0 where
  pub calls : List Call
  pub within : Premises S calls
  pub made : Settled S settled (run (step S) (start S) calls)
  pub traffic : Traffic
  pub listed : Memᴰ traffic N.traffic
  pub address : ℕ
  pub inside : covers traffic.prefix address ≡ true
  pub switch : ℕ
  pub port : ℕ
  pub way : way_of N (λ s. ((run (step S) (start S) calls).switches s).table) traffic address switch_count ≡ crossed switch port
