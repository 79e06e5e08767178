-- What a lookup gives after a rule, all entries considered: but for the rule's own key the ports are those of before,
-- and ports have one answer. The last four laws are all the cases there are. Assumes nothing.
use mathlib.Core.Path.{◌≡◌, refl, sym, ap, subst, ◌∙◌}
use mathlib.Core.List.{List, [], ◌∷◌}
use mathlib.Core.Bool.{true, false}
use Prim.Native.Nat.{ℕ, suc, ◌≤◌, ◌<◌}
use native.Mathlib.Omega.{arith}
use lib.Dec.{ltb}
use borrow.Author.Tests.{lt-ltb, le-ltb}
use lib.ListN.{length}
use Rattle.answer.specs.Ask.{pick}
use Rattle.answer.proofs.Bools.{by_bool, tf, and_parts, and_join, is_false}
use Rattle.flow.specs.Rules.{Key, entry_key, rule_key, same_key, prefix_ok, well_formed}
use Rattle.flow.specs.Changes.{apply_rule}
use Rattle.flow.specs.Lookups.{covers, Best, better, best_of, lookup_of}
use Rattle.flow.specs.declared.Action.{Action}
use Rattle.flow.specs.declared.Action.TheVariants.{Remove, Set}
use Rattle.flow.specs.declared.Entry.{Entry}
use Rattle.flow.specs.declared.Rule.{Rule}
use Rattle.std.specs.Prelude.{Option, Some}
use Rattle.flow.proofs.Order.{key_sound, key_mine, key_is}
use Rattle.flow.proofs.Acts.{Acts, past, over, own, acts}
use Rattle.flow.proofs.Kept.{Ordered, apply_ordered}
use Rattle.flow.proofs.Keys.{entry_at}
use Rattle.flow.proofs.Longest.{some-port, Each, NoLonger}
use Rattle.flow.proofs.Ports.{port_at, port_after, port_at_lem, apply_port, reaches, cover_one, entry_reaches}
use Rattle.flow.proofs.Ports.{NoLongerKey, port_no_longer, Answers, unanswered, answered}
use Rattle.flow.proofs.Ports.{answers_one, answers-same, lookup_answers}

-- the ports after a rule
abbrev pub ports_after : Rule → List Entry → Key → Option ℕ
ports_after r es k = pick (same_key (rule_key r) k) (port_after r.action) (port_at k es)

-- the entries shorter than n
unfoldable pub shorter : ℕ → List Entry → List Entry
shorter n [] = []
shorter n (e ∷ es) = pick (ltb e.length n) (e ∷ shorter n es) (shorter n es)

-- where every covering entry is shorter than n, the shorter ones give the same
shorter_best : (address n : ℕ) (es : List Entry) → Each (λ e. covers (entry_key e) address ≡ true → e.length < n) es
    → best_of address (shorter n es) ≡ best_of address es
unfolding shorter best_of
shorter_best address n [] u = refl
shorter_best address n (e ∷ es) u =
    let ih = shorter_best address n es (λ i l. u (suc i) (omega arith)) in
    by_bool (ltb e.length n) (λ l. rw l (ap (better (covers (entry_key e) address) e) ih))
    (λ l. let c : covers (entry_key e) address ≡ false = is_false _ (λ d. tf (lt-ltb _ _ (u 0 (omega arith) d)) l) in
    rw (l, c) ih)

-- a removal changes nothing among the entries shorter than its key
removal_shorter : (k : Key) {es fs : List Entry} → Acts Remove k es fs → shorter k.1 fs ≡ shorter k.1 es
unfolding shorter
removal_shorter k (past {e} b s) = rw (removal_shorter k s)
removal_shorter k (over {e} {es} s) =
    rw (le-ltb e.length k.1 (omega (arith, ap (λ (j : Key). j.1) (key_sound (entry_key e) k s))))
removal_shorter k (own b) = refl

module _ (address : ℕ) (r : Rule) (es : List Entry) (h : Ordered es) (w : well_formed r ≡ true) where
  -- a lookup gives what the ports after the rule answer
  pub lookup_after : Answers address (ports_after r es) (lookup_of address (apply_rule r es))
  lookup_after =
      answers-same (λ k c. apply_port k r es h) (lookup_answers address (apply_rule r es) (apply_ordered r es w h))

  other_port : (k : Key) → same_key (rule_key r) k ≡ false → ports_after r es k ≡ port_at k es
  other_port k s = rw s

  own-length : (k : Key) → same_key (rule_key r) k ≡ true → r.length ≡ k.1
  own-length k s = ap (λ (j : Key). j.1) (key_sound (rule_key r) k s)

  -- the keys that cover the address and have a port after the rule are no longer than those before and the rule
  after_no_longer : (n : ℕ) → r.length ≤ n → NoLongerKey address n (λ k. port_at k es)
      → NoLongerKey address n (ports_after r es)
  after_no_longer n m l k p c e =
      by_bool (same_key (rule_key r) k) (λ s. omega (arith, own-length k s)) (λ s. l k p c (sym (other_port k s) ∙ e))

  -- the rule does not cover the address: as before
  pub after_uncovered : covers (rule_key r) address ≡ false → lookup_of address (apply_rule r es) ≡ lookup_of address es
  after_uncovered u =
      answers_one (answers-same (λ k c. other_port k (other k c)) lookup_after) (lookup_answers address es h)
    where
      other : (k : Key) → reaches address k ≡ true → same_key (rule_key r) k ≡ false
      other k c =
          let d = (and_parts (prefix_ok k) (covers k address) c).1 in
          is_false (same_key (rule_key r) k)
          (λ s. tf (ap (λ (j : Key). covers j address) (key_sound (rule_key r) k s) ∙ d) u)

  -- some entry that covers the address is longer than the rule: as before
  pub after_longer : (i : ℕ) → i < length es → covers (entry_key (entry_at es i)) address ≡ true
      → r.length < (entry_at es i).length → lookup_of address (apply_rule r es) ≡ lookup_of address es
  after_longer i inside c l = go (lookup_answers address es h)
    where
      reach : reaches address (entry_key (entry_at es i)) ≡ true
      reach = entry_reaches address es h i inside c

      go : {f : Option ℕ} → Answers address (λ k. port_at k es) f → lookup_of address (apply_rule r es) ≡ f
      go (unanswered n u) = absurd (some-port (sym (port_at_lem es h i inside) ∙ u _ reach))
      go (answered v) =
          let long : (entry_at es i).length ≤ v.key.1 = v.longest _ _ reach (port_at_lem es h i inside) in
          let other = is_false (same_key (rule_key r) v.key) (λ s. omega (arith, own-length v.key s)) in
          answers_one lookup_after (answered (record {
            key = v.key;
            port = v.port;
            reaching = v.reaching;
            has = other_port v.key other ∙ v.has;
            found = v.found;
            longest = after_no_longer v.key.1 (omega arith) v.longest;
          }))

  module _ (c : covers (rule_key r) address ≡ true) (l : NoLonger address r.length es) where
    own_reach : reaches address (rule_key r) ≡ true
    own_reach = and_join _ _ (and_parts (prefix_ok (rule_key r)) _ w).0 c

    -- the rule sets a port and covers the address, and no covering entry is longer: its port
    pub after-set : (port : ℕ) → r.action ≡ Set port → lookup_of address (apply_rule r es) ≡ Some port
    after-set port a =
        answers_one lookup_after (answered (record {
          key = rule_key r;
          port = port;
          reaching = own_reach;
          has = rw (key_mine (rule_key r)) (ap port_after a);
          found = refl;
          longest = after_no_longer r.length (omega arith) (port_no_longer address es r.length l);
        }))

    -- a removal leaves only covering entries that are shorter than the rule
    removal_less : r.action ≡ Remove
        → Each (λ e. covers (entry_key e) address ≡ true → e.length < r.length) (apply_rule r es)
    removal_less a i inside d =
        let after = apply_ordered r es w h in
        let k = entry_key (entry_at (apply_rule r es) i) in
        let reach = entry_reaches address (apply_rule r es) after i inside d in
        let has = sym (apply_port k r es h) ∙ port_at_lem (apply_rule r es) after i inside in
        let one = cover_one address (rule_key r) k own_reach reach in
        by_bool (same_key (rule_key r) k) (λ s. absurd (some-port (sym has ∙ rw s (ap port_after a))))
        (λ s. let ne : r.length ≡ k.1 → ⊥ = λ e. tf (key_is (rule_key r) k (one e)) s in
        omega (arith, port_no_longer address es r.length l k _ reach (sym (other_port k s) ∙ has)))

    -- the rule removes its entry and covers the address, and no covering entry is longer: what the shorter entries give
    pub after_removal : r.action ≡ Remove
        → lookup_of address (apply_rule r es) ≡ lookup_of address (shorter r.length es)
    after_removal a =
        let way : Acts Remove (rule_key r) es (apply_rule r es) =
        subst (λ (x : Action). Acts x (rule_key r) es (apply_rule r es)) a (acts r.action (rule_key r) es) in
        ap (λ (b : Best). b.0) (sym (shorter_best address r.length (apply_rule r es) (removal_less a)))
        ∙ ap (lookup_of address) (removal_shorter (rule_key r) way)
