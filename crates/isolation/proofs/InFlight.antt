-- Packets under way. Where the check of flights over 16 switches says fine, no packet of any client is sent out at a
-- port that its client may not use, over any number of switches, each of them asked at a later moment of the run than
-- the one before. What is known to be made only grows, and the ports of a switch are those of its last applied number.
-- Assumes nothing.
use mathlib.Core.Path.{◌≡◌, refl, sym, ap, ◌∙◌, subst}
use mathlib.Core.Bool.{Bool, true, not, ◌||◌}
use mathlib.Core.List.{List, [], ◌∷◌, ◌++◌, append-nil, Memᴰ}
use Prim.Native.Nat.{ℕ, zero, suc, ◌+◌, ◌≤◌, ◌<◌}
use native.Mathlib.Omega.{arith}
use lib.Dec.{ltb, leb, eqb}
use lib.ListN.{length, get_or}
use borrow.Author.Tests.{ltb-true, leb-true, le-leb, eqb-true, eq-eqb}
use Rattle.answer.proofs.Bools.{by_bool, by_eq, by_or, tf, and_join, and_parts, or_left, or_right}
use Rattle.lists.specs.Kinds.{among, is_among}
use Rattle.lists.proofs.Members.{among_at}
use Rattle.lists.proofs.Tails.{every_all}
use Rattle.flow.specs.Lookups.{lookup_of}
use Rattle.flow.specs.Tables.{entries_of}
use Rattle.std.specs.Prelude.{Option, Some, None}
use Rattle.flow.specs.declared.Table.{Table}
use Rattle.controller.specs.Changes.{empty_undone}
use Rattle.controller.specs.declared.Undone.{Undone}
use Rattle.protocol.specs.Orders.{up_to}
use Rattle.protocol.specs.Runs.{run}
use Rattle.protocol.proofs.Runs.{run-append}
use Rattle.domain.specs.Settings.{Setting, Valid}
use Rattle.domain.specs.Calls.{Call, at_switch, at_controller, Done, Run, start, step}
use Rattle.domain.specs.Ideals.{fed}
use Rattle.domain.specs.Claim.{Made, made_by, made, numbers, agreed, answered, Safe}
use Rattle.domain.proofs.Theorem.{agreed-numbered, demand3}
use Rattle.isolation.specs.Networks.{Link, Network, network_ok}
use Rattle.isolation.specs.Traces.{lost, crossed, Step, foreign, leaves, goes_to, over, by_step, by_found, follow}
use Rattle.isolation.specs.Traces.{keeps_own}
use Rattle.isolation.specs.Claim.{Isolated, Always}
use Rattle.isolation.specs.Check.{Failure, Verdict, fine, fails, covering, ports_after, finds_after}
use Rattle.isolation.specs.Flights.{fly, Moments, IsolatedInFlight, down_from, step_verdict, found_verdict, spend}
use Rattle.isolation.specs.Flights.{with_needs, known_at, is_on, can_be_last, downward, flight, flight_to, check_flights}
use Rattle.isolation.proofs.Verdicts.{undecided-fine, fails-fine, chosen, turn_fine}
use Rattle.isolation.proofs.Ported.{lookup_is, longest_same}
use Rattle.isolation.proofs.Loops.{in_domain, Leg, out, on, Within, loopless}
use Rattle.isolation.proofs.Classes.{each-fine}
use Rattle.isolation.proofs.Lasts.{Last, last, needs_made}
use Rattle.isolation.proofs.Theorem.{formed, fed_ok, traffic_ok_lem, links_ok, earlier}

-- each number up to n is tried
down_there : (n k : ℕ) → k ≤ n → Memᴰ k (down_from n)
unfolding down_from
down_there zero k l = let e : k ≡ 0 = omega arith in Memᴰ.head e
down_there (suc n) k l =
    by_eq k (suc n) (λ e. Memᴰ.head e) (λ e. Memᴰ.tail (down_there n k (omega arith)))

-- a step that was paid for
spend-fine : (b c : ℕ) (next : ℕ → Verdict) → spend b next ≡ fine c → (d : ℕ) × (next d ≡ fine c)
spend-fine zero c next e = undecided-fine c e
spend-fine (suc b) c next e = (b, e)

-- what was said of a port that is found
port_found : (x : Option ℕ) (p : ℕ) (good : Verdict) (go : ℕ → Verdict) {v : Verdict} → x ≡ Some p
    → found_verdict x good go ≡ v → go p ≡ v
port_found x p good go e h = sym (ap (λ (y : Option ℕ). found_verdict y good go) e) ∙ h

module _ (us : List Undone) (numbered : (i : ℕ) → i < length us → (get_or us i empty_undone).number ≡ i + 1)
    (covered : ℕ → Bool) (c : ℕ) (links : List Link) (blame : List ℕ → Failure)
    (find : ℕ → ℕ → Option ℕ) (made_by_lem : ℕ → List ℕ)
    (may : (i : ℕ) → (fed us (made_by_lem i)).refused ≡ [])
    (grows : (i j : ℕ) → is_among j (made_by_lem i) ≡ true → is_among j (made_by_lem (suc i)) ≡ true)
    (finds : (i s : ℕ) → s < 16 → find i s ≡ finds_after us covered (made_by_lem i) s) where
  -- numbers known to be made by a moment
  abbrev Known : ℕ → List ℕ → Type 0
  Known i known = (k : ℕ) → is_among k known ≡ true → is_among k (made_by_lem i) ≡ true

  -- what is known once a number is the last made at a switch
  known_last : (i m : ℕ) (known : List ℕ) → Known i known → (0 < m → is_among m (made_by_lem i) ≡ true)
      → Known i (known_at us known m)
  unfolding among
  known_last i zero known all self = all
  known_last i (suc m) known all self =
      needs_made us numbered (made_by_lem i) (may i) (λ j. is_among j (suc m ∷ known))
      (λ k low h. by_or (eqb (suc m) k) _ h (λ q. rw (← eqb-true (suc m) k q) (self (omega arith))) (λ q. all k q))
      (length us) (omega arith) [] (λ k h. tf h refl)

  -- the last number made on a switch passes the check's test
  can-be-last : (i s m : ℕ) (known : List ℕ) → Known i known → Last us numbered covered s (made_by_lem i) m
      → can_be_last us covered s known m ≡ true
  can-be-last i s m known all l =
      and_join (eqb m 0 || is_on us covered s m) _
      (by_eq m 0 (λ e. or_left (eqb m 0) _ (eq-eqb m 0 e)) (λ n. or_right (eqb m 0) _ (l.itself (omega arith)).1))
      (every_all (λ j. not (is_on us covered s j) || leb j m) known 0
      (λ at inside.
      let j = get_or known at 0 in
      let there = all j (among_at eqb (λ x. eq-eqb x x refl) known at 0 inside) in
      by_bool (is_on us covered s j)
      (λ o. or_right (not (is_on us covered s j)) _ (le-leb j m (l.top j there o)))
      (λ o. rw o)))

  -- what is known at a moment is known later
  stays : (i j k : ℕ) → i ≤ j → is_among k (made_by_lem i) ≡ true → is_among k (made_by_lem j) ≡ true
  stays i zero k l h = let e : i ≡ 0 = omega arith in rw e at h
  stays i (suc j) k l h = by_eq i (suc j) (λ e. rw e at h) (λ e. grows j k (stays i j k (omega arith) h))

  -- what the check says from a switch, with what is known then
  abbrev checks : ℕ → ℕ → List ℕ → ℕ → Verdict
  checks hops s known b = flight us covered c links blame hops s known b

  -- what the check said of the port that a switch finds at a moment, having tried the last number made there by then
  record Asked (hops j s p : ℕ) (known : List ℕ) : Type 0 where
    last_one : ℕ
    spent : ℕ
    left : ℕ
    says : step_verdict (over c links s p) (fails (blame (downward us covered (known_at us known last_one)))) (fine spent)
        (λ (t : ℕ). checks hops t (known_at us known last_one) spent) ≡ fine left
    all : Known j (known_at us known last_one)

  asked : (hops j s p : ℕ) (known : List ℕ) (b y : ℕ) → s < 16 → checks (suc hops) s known b ≡ fine y → Known j known
      → find j s ≡ Some p → Asked hops j s p known
  unfolding flight
  asked hops j s p known b y l e all f =
      let r = last us numbered covered s (made_by_lem j) (may j) in
      let m = r.0 in
      let one = turn_fine _ (down_from (length us)) b y e m (down_there (length us) m r.1.bound) in
      let paid = spend-fine one.0 one.1 _
      (chosen (can_be_last us covered s known m) _ _ (can-be-last j s m known all r.1) one.2) in
      let is : finds_after us covered (up_to m) s ≡ Some p =
      sym (finds j s l ∙ longest_same 32 _ (ports_after us covered (up_to m) s) r.1.ports) ∙ f in
      record {
        last_one = m;
        spent = paid.0;
        left = one.1;
        says = port_found _ p _ _ is paid.1;
        all = known_last j m known all (λ q. (r.1.itself q).0);
      }

  -- where it says fine, no way over so many switches leads to a port that the client may not use
  flown : (hops i s : ℕ) (known : List ℕ) (b y : ℕ) → checks hops s known b ≡ fine y → Known i known
      → Within c links find in_domain hops i s → ⊥
  flown zero i s known b y e all w = w
  flown (suc hops) i s known b y e all w =
      go w.1 (λ j t later d z q k v. flown hops j t later d z q k v)
    where
      at : (j p : ℕ) → i ≤ j → find j s ≡ Some p → Asked hops j s p known
      at j p l f = asked hops j s p known b y (ltb-true s 16 w.0) e (λ k h. stays i j k l (all k h)) f

      go : Leg c links find (Within c links find in_domain hops) i s
          → ((j t : ℕ) (later : List ℕ) (d z : ℕ) → checks hops t later d ≡ fine z → Known j later
          → Within c links find in_domain hops j t → ⊥) → ⊥
      go (out j p l f x) rest = let a = at j p l f in fails-fine _ a.left (rw x at a.says)
      go (on j p t l f x v) rest =
          let a = at j p l f in
          rest (suc j) t (known_at us known a.last_one) a.spent a.left (rw x at a.says)
          (λ k h. grows j k (a.all k h)) v

-- what is made stays made
more_made : (k : ℕ) (new old : List Made) → is_among k (numbers old) ≡ true → is_among k (numbers (new ++ old)) ≡ true
unfolding among
more_made k [] old h = h
more_made k (m ∷ new) old h = or_right (eqb m.number k) _ (more_made k new old h)

module _ (S : Setting) where
  logged : (r : Run) (x : Call) → (d : Done) × ((step S r x).log ≡ d ∷ r.log)
  unfolding step
  logged r (at_switch s x) = (_, refl)
  logged r (at_controller c x) = (_, refl)

  step-made : (k : ℕ) (r : Run) (x : Call) → is_among k (answered S r) ≡ true
      → is_among k (answered S (step S r x)) ≡ true
  unfolding made
  step-made k r x h =
      let l = logged r x in
      ap (λ (log : List Done). is_among k (numbers (made log))) l.1
      ∙ more_made k (made_by l.0.answer l.0.call) (made r.log) h

  run-made : (k : ℕ) (r : Run) (xs : List Call) → is_among k (answered S r) ≡ true
      → is_among k (answered S (run (step S) r xs)) ≡ true
  run-made k r [] h = h
  run-made k r (x ∷ xs) h = run-made k (step S r x) xs (step-made k r x h)

module _ (S : Setting) (v : Valid S) (N : Network) (ok : network_ok N ≡ true) (settled budget left : ℕ)
    (says : check_flights (agreed S) settled 16 N budget ≡ fine left) where
  -- the theorem of packets under way, over any number of switches
  pub isolated_in_flight : IsolatedInFlight S settled N
  unfolding among
  isolated_in_flight moment M first t m address c hops s p e =
      let us = agreed S in
      let own = and_parts (ltb t.entry 16) _ (traffic_ok_lem S v N ok t m) in
      let one = each-fine us (flight_to us settled 16 N) (formed S v) N budget left says t m own.1 address c in
      let covered : ℕ → Bool = covering us one.tried in
      let at : ℕ → Run = λ i. run (step S) (start S) (moment i) in
      let safe : (i : ℕ) → Safe S (at i) = λ i. (demand3 S v).safe (moment i) (M.within i) in
      let entry = ltb-true t.entry 16 own.0 in
      let find : ℕ → ℕ → Option ℕ = λ i s. lookup_of address (entries_of ((at i).switches s).table) in
      flown us (agreed-numbered S v) covered t.client N.links
      (λ made. record { traffic = t; address = one.tried; made = made }) find (λ i. answered S (at i))
      (λ i. (safe i).in_order)
      (λ i j h.
      let next = M.later i in
      subst (λ (l : List Call). is_among j (answered S (run (step S) (start S) l)) ≡ true) (sym next.1)
      (subst (λ (r : Run). is_among j (answered S r) ≡ true) (sym (run-append (step S) (start S) (moment i) next.0))
      (run-made S j (at i) next.0 h)))
      (λ i s l.
      ap (λ (x : Table). lookup_of address (entries_of x)) ((safe i).tables s l)
      ∙ lookup_is us address covered one.alike (formed S v) (fed_ok S v) (answered S (at i)) (safe i).in_order s)
      16 0 t.entry (with_needs us (λ j. leb j settled) (length us) []) one.budget one.left one.says
      (needs_made us (agreed-numbered S v) (answered S (at 0)) (safe 0).in_order (λ j. leb j settled)
      (λ k low h. first k low (leb-true k settled h)) (length us) (omega arith) [] (λ k h. tf h refl))
      (loopless t.client N.links find (links_ok S v N ok) hops 0 t.entry entry (ap keeps_own e))

-- asked at one moment, the switches give the way over the tables of that moment
fly_still : (c : ℕ) (links : List Link) (find : ℕ → Option ℕ) (i hops s : ℕ)
    → fly c links (λ j. find) i hops s ≡ follow c links find hops s
unfolding fly follow
fly_still c links find i zero s = refl
fly_still c links find i (suc hops) s = found (find s) (λ t. fly_still c links find (suc i) hops t)
  where
    met : (p : ℕ) (x : Step) → ((t : ℕ) → fly c links (λ j. find) (suc i) hops t ≡ follow c links find hops t)
        → by_step x (crossed s p) (λ (t : ℕ). fly c links (λ j. find) (suc i) hops t)
        ≡ by_step x (crossed s p) (λ (t : ℕ). follow c links find hops t)
    met p foreign rest = refl
    met p leaves rest = refl
    met p (goes_to t) rest = rest t

    found : (x : Option ℕ) → ((t : ℕ) → fly c links (λ j. find) (suc i) hops t ≡ follow c links find hops t)
        → by_found x (lost s)
        (λ (p : ℕ). by_step (over c links s p) (crossed s p) (λ (t : ℕ). fly c links (λ j. find) (suc i) hops t))
        ≡ by_found x (lost s)
        (λ (p : ℕ). by_step (over c links s p) (crossed s p) (λ (t : ℕ). follow c links find hops t))
    found None rest = refl
    found (Some p) rest = met p (over c links s p) rest

-- so the check of flights does for packets at rest too
pub flights_isolate : (S : Setting) (v : Valid S) (N : Network) → network_ok N ≡ true → (settled budget left : ℕ)
    → check_flights (agreed S) settled 16 N budget ≡ fine left → Always S settled (Isolated N)
flights_isolate S v N ok settled budget left says before rest p all =
    let tables : ℕ → Table = λ s. ((run (step S) (start S) before).switches s).table in
    let still : Moments S (λ i. before) =
    record { within = λ i. earlier S v before rest p; later = λ i. ([], sym (append-nil before)) } in
    λ t m address c hops s p e.
    isolated_in_flight S v N ok settled budget left says (λ i. before) still all t m address c hops s p
    (fly_still t.client N.links (λ s. lookup_of address (entries_of (tables s))) 0 hops t.entry ∙ e)
