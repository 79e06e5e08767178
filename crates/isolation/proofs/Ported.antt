-- The ports of a flow table and the check's: of the keys that cover an address there is one for each length, so the
-- table's port of such a key is the check's port of its length, and a lookup finds the port of the greatest length.
-- Assumes nothing.
use mathlib.Core.Path.{◌≡◌, refl, sym, ap, ◌∙◌}
use mathlib.Core.Bool.{Bool, true, false, ◌&&◌}
use mathlib.Core.List.{List, [], ◌∷◌}
use Prim.Native.Nat.{ℕ, zero, suc, ◌*◌, ◌-◌, ◌/◌, ◌≤◌, ◌<◌}
use native.Mathlib.Nat.{mul-mod_left, mul-div_cancel, one-le-pow}
use native.Mathlib.Omega.{arith}
use lib.Dec.{leb, eqb}
use lib.ListN.{length}
use borrow.Author.Tests.{eqb-true, eq-eqb, ne_eqb, leb-true, le-leb}
use Rattle.answer.specs.Ask.{pick}
use Rattle.answer.proofs.Bools.{by_le, and_join, and_parts, same_test}
use Rattle.lists.proofs.Padding.{pad-take}
use Rattle.flow.specs.Rules.{Key, rule_key, same_key, block_size, prefix_ok, well_formed}
use Rattle.flow.specs.Tables.{empty_entry, entries_of, table_ok}
use Rattle.flow.specs.Changes.{apply_rule, changed}
use Rattle.flow.specs.Lookups.{covers, lookup_of}
use Rattle.flow.specs.declared.Action.{Action}
use Rattle.flow.specs.declared.Action.TheVariants.{Remove, Set}
use Rattle.std.specs.Prelude.{Option, Some, None}
use Rattle.flow.specs.declared.Rule.{Rule}
use Rattle.flow.specs.declared.Table.{Table}
use Rattle.flow.proofs.Order.{key_sound, key_is}
use Rattle.flow.proofs.Kept.{ok_ordered}
use Rattle.flow.proofs.Longest.{some-port}
use Rattle.flow.proofs.Ports.{port_at, port_after, apply_port, reaches, cover_one, Answers, unanswered, answered}
use Rattle.flow.proofs.Ports.{answers_one, answers-same, lookup_answers}
use Rattle.controller.specs.declared.Undone.{Undone}
use Rattle.protocol.proofs.Families.{upd_same, upd_at}
use Rattle.domain.specs.Ideals.{change_of, fed}
use Rattle.isolation.specs.Check.{port_by, longest_to, covering, hits, ports_after, finds_after}
use Rattle.isolation.proofs.Fed.{accepted}

-- at most 64 entries in use
table-few : (t : Table) → table_ok t ≡ true → t.count ≤ 64
unfolding table_ok
table-few t h = leb-true t.count 64 (and_parts (leb t.count 64) _ (and_parts (leb t.count 64 && _) _ h).0).0

-- three tests of which the middle one is known
on_switch : (a b c : Bool) → b ≡ true → (a && b && c) ≡ (a && c)
on_switch true b c e = rw e
on_switch false b c e = refl

off_switch : (a b c : Bool) → b ≡ false → (a && b && c) ≡ false
off_switch true b c e = rw e
off_switch false b c e = refl

-- the one key of a length that covers an address
abbrev key_for : ℕ → ℕ → Key
key_for address l = (address / block_size l * block_size l, l)

size_positive : (l : ℕ) → 0 < block_size l
size_positive l = one-le-pow (32 - l) 2 (omega arith)

key_reaches : (address l : ℕ) → l ≤ 32 → reaches address (key_for address l) ≡ true
key_reaches address l few =
    let z = block_size l in
    and_join (prefix_ok (key_for address l)) _
    (and_join (leb l 32) _ (le-leb l 32 few) (eq-eqb _ 0 (mul-mod_left (address / z) z)))
    (eq-eqb _ _ (sym (mul-div_cancel (address / z) (size_positive l))))

reach_short : (address : ℕ) (k : Key) → reaches address k ≡ true → k.1 ≤ 32
reach_short address k h = leb-true k.1 32 (and_parts (leb k.1 32) _ (and_parts (prefix_ok k) _ h).0).0

-- what the greatest length with a port is
data Greatest (ports : ℕ → Option ℕ) (n : ℕ) (f : Option ℕ) : Type 0 where
  none : f ≡ None → ((l : ℕ) → l ≤ n → ports l ≡ None) → Greatest ports n f
  one : (l p : ℕ) → l ≤ n → ports l ≡ Some p → f ≡ Some p → ((j : ℕ) → l < j → j ≤ n → ports j ≡ None)
      → Greatest ports n f

greatest : (n : ℕ) (ports : ℕ → Option ℕ) → Greatest ports n (longest_to n ports)
unfolding longest_to
greatest zero ports = first (ports 0) refl
  where
    first : (f : Option ℕ) → ports 0 ≡ f → Greatest ports 0 (ports 0)
    first None e = none e (λ l m. let z : l ≡ 0 = omega arith in ap ports z ∙ e)
    first (Some p) e = one 0 p (omega arith) e e (λ j low high. absurd (omega arith))
greatest (suc n) ports = next (ports (suc n)) refl (greatest n ports)
  where
    next : (f : Option ℕ) → ports (suc n) ≡ f → Greatest ports n (longest_to n ports)
        → Greatest ports (suc n) (longest_to (suc n) ports)
    next (Some p) e g = one (suc n) p (omega arith) e (rw e) (λ j low high. absurd (omega arith))
    next None e (none f all) =
        none (rw e f) (λ l m. by_le l n (λ low. all l low) (λ high. let z : l ≡ suc n = omega arith in ap ports z ∙ e))
    next None e (one l p low has f above) =
        one l p (omega arith) has (rw e f)
        (λ j more few. by_le j n (λ q. above j more q) (λ q. let z : j ≡ suc n = omega arith in ap ports z ∙ e))

-- it answers for the ports of all keys
longest_answers : (address : ℕ) (ports : ℕ → Option ℕ) → Answers address (λ k. ports k.1) (longest_to 32 ports)
longest_answers address ports = go (longest_to 32 ports) (greatest 32 ports)
  where
    go : (f : Option ℕ) → Greatest ports 32 f → Answers address (λ k. ports k.1) f
    go f (none e all) = unanswered e (λ k h. all k.1 (reach_short address k h))
    go f (one l p few has e above) =
        answered (record {
          key = key_for address l;
          port = p;
          reaching = key_reaches address l few;
          has = has;
          found = e;
          longest = λ k q h found. by_le k.1 l (λ low. low)
              (λ high. absurd (some-port (sym found ∙ above k.1 high (reach_short address k h))));
        })

port_by_lem : (a : Action) → port_after a ≡ port_by a
port_by_lem Remove = refl
port_by_lem (Set port) = refl

-- a rule's key is a key that covers the address exactly if it covers it and has its length
same_length : (address : ℕ) (r : Rule) (k : Key) → well_formed r ≡ true → reaches address k ≡ true
    → same_key (rule_key r) k ≡ (covers (rule_key r) address && eqb r.length k.1)
same_length address r k w h =
    same_test (same_key (rule_key r) k) _
    (λ e.
    let q = key_sound (rule_key r) k e in
    and_join (covers (rule_key r) address) _
    (ap (λ (j : Key). covers j address) q ∙ (and_parts (prefix_ok k) _ h).1)
    (eq-eqb _ _ (ap (λ (j : Key). j.1) q)))
    (λ e.
    let t = and_parts (covers (rule_key r) address) _ e in
    key_is (rule_key r) k (cover_one address (rule_key r) k
    (and_join (prefix_ok (rule_key r)) _ (and_parts (prefix_ok (rule_key r)) _ w).0 t.0) h (eqb-true _ _ t.1)))

module _ (us : List Undone) (address : ℕ) (covered : ℕ → Bool)
    (same : (k : ℕ) → 1 ≤ k → k ≤ length us → covered k ≡ covering us address k)
    (formed : (k : ℕ) → 1 ≤ k → k ≤ length us → well_formed (change_of us k).rule ≡ true)
    (good : (ks : List ℕ) → (fed us ks).refused ≡ [] → (s : ℕ) → table_ok ((fed us ks).tables s) ≡ true) where
  -- the port of a key after one more change on its switch
  after-change : (r : Rule) (t : Table) (k : Key) → well_formed r ≡ true → table_ok t ≡ true
      → table_ok (changed r t) ≡ true → reaches address k ≡ true → port_at k (entries_of (changed r t))
      ≡ pick (covers (rule_key r) address && eqb r.length k.1) (port_by r.action) (port_at k (entries_of t))
  after-change r t k w ok then h =
      let es = apply_rule r (entries_of t) in
      let is : entries_of (changed r t) ≡ es = pad-take 64 empty_entry es (table-few (changed r t) then) in
      ap (port_at k) is ∙ apply_port k r (entries_of t) (ok_ordered t ok)
      ∙ rw (same_length address r k w h, port_by_lem r.action)

  pub ported : (ks : List ℕ) → (fed us ks).refused ≡ [] → (s : ℕ) (k : Key) → reaches address k ≡ true
      → port_at k (entries_of ((fed us ks).tables s)) ≡ ports_after us covered ks s k.1
  unfolding ports_after
  ported [] h s k c = unfold fed port_at in refl
  ported (n ∷ ks) h s k c =
      let a = accepted us ks n h in
      let u = change_of us n in
      let t = (fed us ks).tables in
      let new = changed u.rule (t u.switch) in
      let ported-before = ported ks a.before in
      let own : (fed us (n ∷ ks)).tables u.switch ≡ new =
      ap (λ (f : ℕ → Table). f u.switch) a.tables ∙ upd_same t u.switch new in
      let then : table_ok new ≡ true = ap table_ok (sym own) ∙ good (n ∷ ks) h u.switch in
      ap (λ (f : ℕ → Table). port_at k (entries_of (f s))) a.tables
      ∙ upd_at (λ (j : ℕ) (x : Table). port_at k (entries_of x)
      ≡ pick (hits us covered n j k.1) (port_by u.rule.action) (ports_after us covered ks j k.1))
      t u.switch new s
      (after-change u.rule (t u.switch) k (formed n a.low a.high) (good ks a.before u.switch) then c
      ∙ (λ i. pick (sym (on_switch (covered n) (eqb u.switch u.switch) (eqb u.rule.length k.1)
      (eq-eqb u.switch u.switch refl) ∙ ap (λ (b : Bool). b && eqb u.rule.length k.1)
      (same n a.low a.high)) i) (port_by u.rule.action) (ported-before u.switch k c i)))
      (λ other.
      ported-before s k c
      ∙ ap (λ (b : Bool). pick b (port_by u.rule.action) (ports_after us covered ks s k.1))
      (sym (off_switch (covered n) (eqb u.switch s) (eqb u.rule.length k.1) (ne_eqb u.switch s other))))

  -- a lookup in a table finds the port of the greatest length
  pub lookup_is : (ks : List ℕ) → (fed us ks).refused ≡ [] → (s : ℕ)
      → lookup_of address (entries_of ((fed us ks).tables s)) ≡ finds_after us covered ks s
  lookup_is ks h s =
      let es = entries_of ((fed us ks).tables s) in
      answers_one (answers-same (ported ks h s) (lookup_answers address es (ok_ordered _ (good ks h s))))
      (longest_answers address (ports_after us covered ks s))

-- ports that agree at every length have one greatest
pub longest_same : (n : ℕ) (p q : ℕ → Option ℕ) → ((l : ℕ) → p l ≡ q l) → longest_to n p ≡ longest_to n q
unfolding longest_to
longest_same zero p q h = h 0
longest_same (suc n) p q h = rw (h (suc n), longest_same n p q h)
