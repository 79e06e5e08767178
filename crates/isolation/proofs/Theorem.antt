-- The theorem: where the check of a network and an evening's agreed changes says fine, no packet of any client is sent
-- out at a port that its client may not use, at any moment of any run within demand 3's premises. By demand 3 the flow
-- tables are those of the ideal controller, fed the numbers made so far by rising number and refusing none; the check
-- explores all such numbers for one address of each class. Assumes nothing.
use mathlib.Core.Path.{◌≡◌, refl, ap, ◌∙◌}
use mathlib.Core.Bool.{Bool, true, not}
use mathlib.Core.List.{List, [], ◌∷◌, ◌++◌, Memᴰ}
use Prim.Native.Nat.{ℕ, ◌≤◌, ◌<◌}
use native.Mathlib.Omega.{arith}
use lib.Dec.{ltb, eqb}
use lib.ListN.{length}
use borrow.Author.Tests.{ltb-true, eqb-true, eq-eqb, ne_eqb}
use Rattle.answer.proofs.Bools.{by_or, tf, and_parts, or_left, or_right, pick-keeps}
use Rattle.lists.specs.Arrays.{every_tail, every}
use Rattle.lists.specs.Kinds.{among, is_among}
use Rattle.lists.proofs.Tails.{every_at}
use Rattle.flow.specs.Rules.{well_formed}
use Rattle.flow.specs.Tables.{entries_of, table_ok}
use Rattle.flow.specs.Lookups.{lookup_of}
use Rattle.std.specs.Prelude.{Option}
use Rattle.flow.specs.declared.Rule.{Rule}
use Rattle.flow.specs.declared.Table.{Table}
use Rattle.flow.proofs.Kept.{apply_table, table_ok_lem}
use Rattle.controller.specs.declared.Undone.{Undone}
use Rattle.protocol.proofs.Ends as protocol
use Rattle.protocol.proofs.Worlds.{Agreed}
use Rattle.protocol.proofs.Claims.{table_after}
use Rattle.protocol.specs.Orders.{falling}
use Rattle.protocol.proofs.Orders.{falling-among}
use Rattle.protocol.specs.Runs.{run}
use Rattle.protocol.proofs.Families.{upd_at}
use Rattle.domain.specs.Settings.{Setting, Valid}
use Rattle.domain.specs.Calls.{Call, start, step}
use Rattle.domain.specs.Premises.{Premises}
use Rattle.domain.specs.Ideals.{change_of, fed}
use Rattle.domain.specs.Claim.{agreed, answered}
use Rattle.domain.proofs.View.{domain_of}
use Rattle.domain.proofs.Agreed.{change-fine}
use Rattle.domain.proofs.Reached.{ranged}
use Rattle.domain.proofs.Room.{roomy}
use Rattle.domain.proofs.Numbers.{member_at}
use Rattle.domain.proofs.Turns.{premises_fair, fair_first}
use Rattle.domain.proofs.Theorem.{demand3}
use Rattle.isolation.specs.Networks.{Traffic, Network, link_ok, traffic_ok, network_ok}
use Rattle.isolation.specs.Traces.{End, keeps_own}
use Rattle.isolation.specs.Claim.{way_of, Isolated, Wanted, Always}
use Rattle.isolation.specs.Check.{fine, covering, ports_after, finds_after, wanted_after, check_address}
use Rattle.isolation.specs.Check.{check_for, check}
use Rattle.isolation.proofs.Fed.{accepted}
use Rattle.isolation.proofs.Falling.{falling_strict}
use Rattle.isolation.proofs.Explored.{once, explored_all}
use Rattle.isolation.proofs.Ported.{lookup_is, longest_same}
use Rattle.isolation.proofs.Ways.{follow-same, soon}
use Rattle.isolation.proofs.Classes.{each-fine}

module _ (S : Setting) (v : Valid S) where
  abbrev us : List Undone
  us = agreed S

  abbrev D : protocol.Domain Rule Table
  D = domain_of S

  -- the tables that agreed numbers make are within their limits
  made_ok : (ks : List ℕ) → ((k : ℕ) → is_among k ks ≡ true → Agreed D k) → (s : ℕ) → table_ok (table_after D ks s) ≡ true
  unfolding table_after among every_tail
  made_ok [] all s = table_ok_lem [] (omega arith) refl
  made_ok (k ∷ ks) all s =
      let before = made_ok ks (λ j h. all j (or_right (eqb k j) _ h)) in
      let here = all k (or_left (eqb k k) _ (eq-eqb k k refl)) in
      let new = apply_table (D.content k) (table_after D ks (D.switch k))
      (change-fine S v (ranged S v) k here).formed (before (D.switch k))
      (roomy S v (ranged S v) ks (λ j h. all j (or_right (eqb k j) _ h)) k here) in
      pick-keeps (λ (t : Table). table_ok t ≡ true) (eqb (D.switch k) s) _ _
      (λ e. rw (eqb-true (D.switch k) s e) at new)
      (λ e. before s)

  pub all_agreed : (ks : List ℕ) → (fed us ks).refused ≡ [] → (k : ℕ) → is_among k ks ≡ true → Agreed D k
  unfolding among
  all_agreed [] h k m = tf m refl
  all_agreed (j ∷ ks) h k m =
      let a = accepted us ks j h in
      by_or (eqb j k) _ m (λ e. rw (← eqb-true j k e) (a.low, a.high)) (all_agreed ks a.before k)

  fed-after : (ks : List ℕ) → (fed us ks).refused ≡ [] → (s : ℕ) → (fed us ks).tables s ≡ table_after D ks s
  unfolding table_after
  fed-after [] h s = unfold fed in refl
  fed-after (k ∷ ks) h s =
      let a = accepted us ks k h in
      let u = change_of us k in
      let before = fed-after ks a.before in
      ap (λ (f : ℕ → Table). f s) a.tables
      ∙ upd_at (λ (s : ℕ) (x : Table). x ≡ table_after D (k ∷ ks) s) (fed us ks).tables u.switch _ s
      (rw (eq-eqb u.switch u.switch refl, before u.switch))
      (λ other. rw (ne_eqb u.switch s other) (before s))

  pub fed_ok : (ks : List ℕ) → (fed us ks).refused ≡ [] → (s : ℕ) → table_ok ((fed us ks).tables s) ≡ true
  fed_ok ks h s = ap table_ok (fed-after ks h s) ∙ made_ok ks (all_agreed ks h) s

  pub formed : (k : ℕ) → 1 ≤ k → k ≤ length us → well_formed (change_of us k).rule ≡ true
  formed k low high = (change-fine S v (ranged S v) k (low, high)).formed

  -- a moment of a run: its beginnings are within the premises too
  pub earlier : (before rest : List Call) → Premises S (before ++ rest) → Premises S before
  earlier before rest p =
      let f = fair_first S v (start S) before rest (premises_fair S v (before ++ rest) p) in
      record { in_run = f.in_run; unforged = f.unforged; beginning = f.begun }

  module _ (N : Network) (ok : network_ok N ≡ true) where
    pub traffic_ok_lem : (t : Traffic) → Memᴰ t N.traffic → traffic_ok t ≡ true
    traffic_ok_lem t m =
        let at = member_at N.traffic t t m in
        let h = every_at traffic_ok N.traffic at.0 t (and_parts (every link_ok N.links) _ ok).1 at.1 in
        rw at.2 at h

    pub links_ok : every link_ok N.links ≡ true
    links_ok = (and_parts (every link_ok N.links) _ ok).0

    module _ (wanted : Traffic → End → Bool) (settled budget left : ℕ)
        (says : check_for us wanted settled N budget ≡ fine left) where
      -- the tables that some numbers make, the ideal controller refusing none
      ideal_wanted : (ks : List ℕ) → (fed us (falling ks)).refused ≡ []
          → ((k : ℕ) → 1 ≤ k → k ≤ settled → is_among k (falling ks) ≡ true) → (tables : ℕ → Table)
          → ((s : ℕ) → s < 16 → tables s ≡ (fed us (falling ks)).tables s) → Wanted wanted N tables
      ideal_wanted ks may all tables is t m address c =
          let own = and_parts (ltb t.entry 16) _ (traffic_ok_lem t m) in
          let one = each-fine us (check_address us wanted settled N) formed N budget left says t m own.1 address c in
          let covered : ℕ → Bool = covering us one.tried in
          let strict = falling_strict ks (once us covered (falling ks) may) in
          let end = explored_all us covered (wanted_after us wanted settled N t covered)
          (λ made. record { traffic = t; address = one.tried; made = made }) settled (falling ks) strict may all
          one.budget one.left one.says in
          let real : ℕ → Option ℕ = λ s. lookup_of address (entries_of (tables s)) in
          let found : (s : ℕ) → s < 16 → real s ≡ finds_after us covered end.0 s =
          λ s l. ap (λ (x : Table). lookup_of address (entries_of x)) (is s l)
          ∙ lookup_is us address covered one.alike formed fed_ok (falling ks) may s
          ∙ longest_same 32 (ports_after us covered (falling ks) s) (ports_after us covered end.0 s)
          (end.1.ports s) in
          ap (wanted t) (follow-same t.client N.links links_ok real (finds_after us covered end.0) found
          16 t.entry (ltb-true t.entry 16 own.0))
          ∙ end.2

      -- whatever is wanted of every packet
      pub always_wanted : Always S settled (Wanted wanted N)
      always_wanted before rest p all =
          let safe = (demand3 S v).safe before (earlier before rest p) in
          ideal_wanted (answered S (run (step S) (start S) before)) safe.by_number
          (λ k low high. falling-among k _ ∙ all k low high) _ safe.tables_by_number

    -- to keep to its client's links for 16 switches is to keep to them for good
    kept_isolated : (tables : ℕ → Table) → Wanted (λ t. keeps_own) N tables → Isolated N tables
    kept_isolated tables kept t m address c hops s p e =
        let own = and_parts (ltb t.entry 16) _ (traffic_ok_lem t m) in
        let crosses : not (keeps_own (way_of N tables t address hops)) ≡ true =
        ap (λ (x : End). not (keeps_own x)) e in
        tf (soon t.client N.links links_ok (λ s. lookup_of address (entries_of (tables s))) hops t.entry
        (ltb-true t.entry 16 own.0) crosses) (ap not (kept t m address c))

    -- the theorem: no order of arrival takes a packet off its client's links
    pub always_isolated : (settled budget left : ℕ) → check us settled N budget ≡ fine left
        → Always S settled (Isolated N)
    always_isolated settled budget left says before rest p all =
        kept_isolated (λ s. ((run (step S) (start S) before).switches s).table)
        (always_wanted (λ t. keeps_own) settled budget left says before rest p all)
