-- The other way round: a failure that a check gives is real. Its numbers may be made one after another, the ideal
-- controller refusing none, and over its tables then the way of the failure's packets is not the wanted one. So they
-- cross in a run whose shares answered 1 are exactly these, in this order. Assumes nothing.
use mathlib.Core.Path.{◌≡◌, refl, ap, ◌∙◌, subst}
use mathlib.Core.Bool.{Bool, true, false, not, ◌||◌}
use mathlib.Core.List.{List, [], ◌∷◌, Memᴰ}
use mathlib.Core.Logic.{⊎_elim}
use Prim.Native.Nat.{ℕ, zero, suc, ◌+◌, ◌≤◌, ◌<◌}
use native.Mathlib.Omega.{arith}
use lib.Dec.{ltb, eqb}
use lib.ListN.{length, get_or}
use borrow.Author.Tests.{ltb-true, le-ltb, le-leb, eqb-true, eq-eqb}
use Rattle.answer.specs.Ask.{pick}
use Rattle.answer.proofs.Bools.{by_bool, by_eq, by_or, tf, and_join, and_parts, or_left, or_right, is_false}
use Rattle.lists.specs.Kinds.{among, is_among}
use Rattle.lists.proofs.Tails.{every_all}
use Rattle.flow.specs.Lookups.{covers, lookup_of}
use Rattle.flow.specs.Tables.{entries_of}
use Rattle.flow.specs.declared.Table.{Table}
use Rattle.controller.specs.Changes.{empty_undone}
use Rattle.controller.specs.Readiness.{waits_for}
use Rattle.controller.specs.declared.Undone.{Undone}
use Rattle.protocol.specs.Runs.{run}
use Rattle.domain.specs.Settings.{Setting, Valid}
use Rattle.domain.specs.Calls.{Call, start, step}
use Rattle.domain.specs.Premises.{Premises}
use Rattle.domain.specs.Ideals.{change_of, skips_none, accepts, fed}
use Rattle.domain.specs.Claim.{agreed, answered}
use Rattle.domain.proofs.Theorem.{agreed-numbered, demand3}
use Rattle.isolation.specs.Networks.{Traffic, Network, network_ok}
use Rattle.isolation.specs.Traces.{End, arrived, lost, crossed, circling, keeps_own}
use Rattle.isolation.specs.Claim.{way_of}
use Rattle.isolation.specs.Check.{Failure, fine, fails, covering, finds_after, may_wait, explore}
use Rattle.isolation.specs.Check.{wanted_after, check_address, check_for, check}
use Rattle.isolation.proofs.Verdicts.{fine-fails, chosen, other, tested-fails, then_fails}
use Rattle.isolation.proofs.Fed.{fed-made, number_is}
use Rattle.isolation.proofs.Falling.{Under}
use Rattle.isolation.proofs.Ported.{lookup_is}
use Rattle.isolation.proofs.Classes.{each-fails}
use Rattle.isolation.proofs.Ways.{follow-same}
use Rattle.isolation.proofs.Theorem.{formed, fed_ok, traffic_ok_lem, links_ok}

-- one more number below a bound
one_more : (k : ℕ) (ms : List ℕ) → Under (suc k) ms → Under (suc k) (k ∷ ms)
unfolding among
one_more k ms under j m = by_or (eqb k j) _ m (λ e. omega (arith, eqb-true k j e)) (λ e. under j e)

-- all changes below k of those settled are made
abbrev MadeBelow : ℕ → ℕ → List ℕ → Type 0
MadeBelow settled k ms = (j : ℕ) → 1 ≤ j → j < k → j ≤ settled → is_among j ms ≡ true

module _ (us : List Undone) (numbers : (i : ℕ) → i < length us → (get_or us i empty_undone).number ≡ i + 1) where
  -- one more that skips none
  made-next : (k : ℕ) (ms : List ℕ) → (fed us ms).refused ≡ [] → 1 ≤ k → k ≤ length us → is_among k ms ≡ false
      → skips_none us ms (change_of us k) ≡ true → (fed us (k ∷ ms)).refused ≡ []
  unfolding fed
  made-next k ms h low high new free =
      let made = fed-made us ms h in
      let yes : accepts us (fed us ms) k ≡ true =
      and_join _ _ (and_join _ _ (and_join _ _ (le-leb 1 k low) (le-leb k (length us) high))
      (ap (λ (l : List ℕ). not (is_among k l)) made ∙ ap not new))
      (ap (λ (l : List ℕ). skips_none us l (change_of us k)) made ∙ free) in
      rw yes h

  -- a settled change skips none once the ones before it are made
  settled_free : (settled k : ℕ) (ms : List ℕ) → 1 ≤ k → k ≤ length us → k ≤ settled → MadeBelow settled k ms
      → skips_none us ms (change_of us k) ≡ true
  settled_free settled k ms low high known all =
      every_all (λ v. not (waits_for (change_of us k) v) || is_among v.number ms) us empty_undone
      (λ i l.
      let v = get_or us i empty_undone in
      let is = numbers i l in
      by_bool (waits_for (change_of us k) v)
      (λ e.
      let own = (change_of us k).number in
      let less = ltb-true v.number own (and_parts (ltb v.number own) _ e).0 in
      let same = number_is us numbers k low high in
      or_right (not (waits_for (change_of us k) v)) _ (all v.number (omega arith) (omega arith) (omega arith)))
      (λ e. rw e))

  module _ (covered : ℕ → Bool) (test : List ℕ → Bool) (blame : List ℕ → Failure) (settled : ℕ) where
    -- numbers that may be made, all settled ones among them, and that the test refuses
    pub record Refused (f : Failure) : Type 0 where
      pub made : List ℕ
      pub is : blame made ≡ f
      pub may : (fed us made).refused ≡ []
      pub known : MadeBelow settled (suc (length us)) made
      pub bad : test made ≡ false

    -- a settled change may not stay unmade
    settled_made : (k : ℕ) → k ≤ settled → may_wait us covered settled k ≡ false
    settled_made k l = let no = le-ltb settled k l in by_bool (covered k) (λ q. rw (q, no)) (λ q. simp (q, no))

    -- from numbers that may be made, a failing exploration comes to some that the test refuses
    fails_real : (left k budget : ℕ) (ms : List ℕ) (f : Failure)
        → explore us covered test blame settled left k ms budget ≡ fails f
        → Under k ms → MadeBelow settled k ms → (fed us ms).refused ≡ [] → k + left ≡ suc (length us) → 1 ≤ k → Refused f
    unfolding explore among
    fails_real zero k budget ms f e under all may end some =
        let t = tested-fails (test ms) (blame ms) f budget e in
        record { made = ms; is = t.1; may = may; known = λ j low high few. all j low (omega arith) few; bad = t.0 }
    fails_real (suc left) k budget ms f e under all may end some =
        let free = skips_none us ms (change_of us k) in
        let waits = may_wait us covered settled k in
        let without = pick waits (explore us covered test blame settled left (suc k) ms budget) (fine budget) in
        let on : suc k + left ≡ suc (length us) = omega arith in
        let high : k ≤ length us = omega arith in
        let later : Under (suc k) ms = λ j m. omega (arith, under j m) in
        let unsettled : (k ≤ settled → ⊥) → MadeBelow settled (suc k) ms =
        λ late j low less few. all j low (by_eq j k (λ q. absurd (late (omega arith))) (λ q. omega arith)) few in
        by_bool free
        (λ yes.
        ⊎_elim
        (λ q. by_bool waits
        (λ w. fails_real left (suc k) budget ms f (chosen waits _ _ w q) later
        (unsettled (λ l. tf w (settled_made k l))) may on (omega arith))
        (λ w. fine-fails budget f (other waits _ _ w q)))
        (λ q.
        let new : is_among k ms ≡ false = is_false _ (λ m. omega (arith, under k m)) in
        fails_real left (suc k) q.0 (k ∷ ms) f q.1 (one_more k ms later)
        (λ j low less few. by_eq k j (λ z. or_left (eqb k j) _ (eq-eqb k j z))
        (λ z. or_right (eqb k j) _ (all j low (omega arith) few)))
        (made-next k ms may some high new yes) on (omega arith))
        (then_fails without _ f (chosen free _ _ yes e)))
        (λ no. fails_real left (suc k) budget ms f (other free _ _ no e) later
        (unsettled (λ l. tf (settled_free settled k ms some high l all) no)) may on (omega arith))

    pub fails_all : (budget : ℕ) (f : Failure) → explore us covered test blame settled (length us) 1 [] budget ≡ fails f
        → Refused f
    unfolding among
    fails_all budget f e =
        fails_real (length us) 1 budget [] f e (λ j m. tf m refl) (λ j low less few. absurd (omega arith))
        (unfold fed in refl) (omega arith) (omega arith)

-- a way that does not keep to links of its client's crosses
crossed_so : (e : End) → keeps_own e ≡ false → (s : ℕ) × (p : ℕ) × (e ≡ crossed s p)
crossed_so arrived h = tf refl h
crossed_so (lost s) h = tf refl h
crossed_so (crossed s p) h = (s, p, refl)
crossed_so circling h = tf refl h

-- the way of a failure's packets over the ideal controller's tables
abbrev pub ideal_way : Setting → Network → Failure → End
ideal_way S N f = way_of N (fed (agreed S) f.made).tables f.traffic f.address 16

module _ (S : Setting) (settled : ℕ) (N : Network) (f : Failure) where
  -- packets of a client whose way is not the wanted one over the ideal controller's tables, once it has made numbers
  -- none of which it refuses, the last of them first; all settled changes are among them
  pub record Unwanted (wanted : Traffic → End → Bool) : Type 0 where
    pub listed : Memᴰ f.traffic N.traffic
    pub inside : covers f.traffic.prefix f.address ≡ true
    pub may : (fed (agreed S) f.made).refused ≡ []
    pub known : (k : ℕ) → 1 ≤ k → k ≤ settled → k ≤ length (agreed S) → is_among k f.made ≡ true
    pub way : wanted f.traffic (ideal_way S N f) ≡ false

  -- packets that are sent out at a port that their client may not use
  pub record Crossing : Type 0 where
    pub real : Unwanted (λ t. keeps_own)
    pub switch : ℕ
    pub port : ℕ
    pub way : ideal_way S N f ≡ crossed switch port

module _ (S : Setting) (v : Valid S) (settled : ℕ) (N : Network) (ok : network_ok N ≡ true) where
  -- the failure of a check, whatever was wanted
  pub unwanted : (wanted : Traffic → End → Bool) (budget : ℕ) (f : Failure)
      → check_for (agreed S) wanted settled N budget ≡ fails f → Unwanted S settled N f wanted
  unwanted wanted budget f says =
      let us = agreed S in
      let one = each-fails us (check_address us wanted settled N) N budget f says in
      let t = one.traffic in
      let a = one.address in
      let covered : ℕ → Bool = covering us a in
      let r = fails_all us (agreed-numbered S v) covered (wanted_after us wanted settled N t covered)
      (λ made. record { traffic = t; address = a; made = made }) settled one.budget f one.says in
      let fits = and_parts (ltb t.entry 16) _ (traffic_ok_lem S v N ok t one.listed) in
      let same = follow-same t.client N.links (links_ok S v N ok)
      (λ s. lookup_of a (entries_of ((fed us r.made).tables s))) (finds_after us covered r.made)
      (λ s l. lookup_is us a covered (λ k low high. refl) (formed S v) (fed_ok S v) r.made r.may s)
      16 t.entry (ltb-true t.entry 16 fits.0) in
      subst (λ (g : Failure). Unwanted S settled N g wanted) r.is (record {
        listed = one.listed;
        inside = one.inside;
        may = r.may;
        known = λ k low few high. r.known k low (omega arith) few;
        way = ap (wanted t) same ∙ r.bad;
      })

  -- the failure of the check of links
  pub crossing : (budget : ℕ) (f : Failure) → check (agreed S) settled N budget ≡ fails f → Crossing S settled N f
  crossing budget f says =
      let u = unwanted (λ t. keeps_own) budget f says in
      let x = crossed_so (ideal_way S N f) u.way in
      record { real = u; switch = x.0; port = x.1; way = x.2 }

  -- in a run in which exactly these shares are answered 1, in this order, the way is the same
  pub run-way : (f : Failure) → Memᴰ f.traffic N.traffic → (calls : List Call) → Premises S calls
      → answered S (run (step S) (start S) calls) ≡ f.made
      → way_of N (λ s. ((run (step S) (start S) calls).switches s).table) f.traffic f.address 16
      ≡ ideal_way S N f
  run-way f listed calls p is =
      let t = f.traffic in
      let fits = and_parts (ltb t.entry 16) _ (traffic_ok_lem S v N ok t listed) in
      let safe = (demand3 S v).safe calls p in
      follow-same t.client N.links (links_ok S v N ok)
      (λ s. lookup_of f.address (entries_of ((run (step S) (start S) calls).switches s).table))
      (λ s. lookup_of f.address (entries_of ((fed (agreed S) f.made).tables s)))
      (λ s l. ap (λ (x : Table). lookup_of f.address (entries_of x))
      (safe.tables s l ∙ ap (λ (ks : List ℕ). (fed (agreed S) ks).tables s) is))
      16 t.entry (ltb-true t.entry 16 fits.0)

  -- so there the packet crosses
  pub run_crosses : (budget : ℕ) (f : Failure) (says : check (agreed S) settled N budget ≡ fails f)
      → (calls : List Call) → Premises S calls → answered S (run (step S) (start S) calls) ≡ f.made →
      let c = crossing budget f says in
      way_of N (λ s. ((run (step S) (start S) calls).switches s).table) f.traffic f.address 16
      ≡ crossed c.switch c.port
  run_crosses budget f says calls p is =
      let c = crossing budget f says in
      run-way f c.real.listed calls p is ∙ c.way
