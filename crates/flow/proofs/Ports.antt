-- The ports of a table by their keys: a rule changes the port of its own key and no other, and the ports alone tell
-- what a lookup gives, since well-formed keys of one length that cover one address are one. Assumes nothing.
use mathlib.Core.Path.{◌≡◌, refl, sym, ap, subst, ◌∙◌}
use mathlib.Core.List.{List, [], ◌∷◌, ◌++◌}
use mathlib.Core.Bool.{Bool, true, false, ◌&&◌}
use Prim.Native.Nat.{ℕ, zero, suc, ◌/◌, ◌%◌, ◌≤◌, ◌<◌}
use native.Mathlib.Nat.{div-add-mod'}
use native.Mathlib.Omega.{arith}
use lib.ListN.{length}
use lib.Dec.{leb}
use borrow.Author.Tests.{eqb-true}
use Rattle.answer.specs.Ask.{pick}
use Rattle.answer.proofs.Bools.{by_bool, tf, and_parts, and_join, or_none, is_false}
use Rattle.lists.specs.Kinds.{among}
use Rattle.flow.specs.Rules.{Key, entry_key, rule_key, same_key, block_size, prefix_ok}
use Rattle.flow.specs.Tables.{entry_ok}
use Rattle.flow.specs.Changes.{apply_rule, has_entry}
use Rattle.flow.specs.Lookups.{covers, Best, lookup_of}
use Rattle.flow.specs.declared.Action.{Action}
use Rattle.flow.specs.declared.Action.TheVariants.{Remove, Set}
use Rattle.flow.specs.declared.Entry.{Entry}
use Rattle.flow.specs.declared.Rule.{Rule}
use Rattle.std.specs.Prelude.{Option, Some, None}
use Rattle.flow.proofs.Order.{key_sound, key_mine, apart}
use Rattle.flow.proofs.Acts.{fresh, Acts, past, over, own, acts}
use Rattle.flow.proofs.Kept.{Ordered, parts, none_first, first-after}
use Rattle.flow.proofs.Keys.{entry_at, Placed, has-entry, entry_has}
use Rattle.flow.proofs.Longest.{some-port, Each, Uncovered, NoLonger, Looked, uncovered, covered, looked}

-- the port of an entry by its key
unfoldable pub port_at : Key → List Entry → Option ℕ
port_at k [] = None
port_at k (e ∷ es) = pick (same_key (entry_key e) k) (Some e.port) (port_at k es)

-- the port of a rule's key once it is applied
abbrev pub port_after : Action → Option ℕ
port_after Remove = None
port_after (Set port) = Some port

-- a key with no entry has no port, so one with a port has an entry
pub no_port : (k : Key) (es : List Entry) → has_entry k es ≡ false → port_at k es ≡ None
unfolding among port_at
no_port k [] h = refl
no_port k (e ∷ es) h = let t = or_none (same_key (entry_key e) k) _ h in rw t.0 (no_port k es t.1)

pub port-entry : (k : Key) (es : List Entry) {port : ℕ} → port_at k es ≡ Some port → Placed k es
port-entry k es h =
    has-entry k es (by_bool (has_entry k es) (λ e. e) (λ n. absurd (some-port (sym h ∙ no_port k es n))))

-- each entry's port is found by its key
pub port_at_lem : (es : List Entry) → Ordered es → Each (λ e. port_at (entry_key e) es ≡ Some e.port) es
unfolding port_at
port_at_lem [] h i l = absurd (omega arith)
port_at_lem (e ∷ es) h zero l = rw (key_mine (entry_key e))
port_at_lem (e ∷ es) h (suc i) l =
    let t = parts e es h in
    let none = none_first (entry_key e) es t.rest t.next in
    by_bool (same_key (entry_key e) (entry_key (entry_at es i)))
    (λ s. let at : Placed (entry_key e) es = record { place = i; inside = omega arith; key = sym (key_sound _ _ s) } in
    tf (entry_has (entry_key e) es at) none)
    (λ s. rw s (port_at_lem es t.rest i (omega arith)))

-- the order of two choices of which at most one is taken
choices : {A : Type 0} (a b : Bool) (x y z : A) → (a ≡ true → b ≡ true → ⊥)
    → pick a x (pick b y z) ≡ pick b y (pick a x z)
choices true true x y z h = absurd (h refl refl)
choices true false x y z h = refl
choices false b x y z h = refl

fresh-port : (a : Action) (j k : Key) (es : List Entry) → has_entry k es ≡ false
    → port_at j (fresh a k ++ es) ≡ pick (same_key k j) (port_after a) (port_at j es)
unfolding port_at
fresh-port Remove j k es n =
    by_bool (same_key k j)
    (λ s. rw s (ap (λ (i : Key). port_at i es) (sym (key_sound k j s)) ∙ no_port k es n)) (λ s. rw s)
fresh-port (Set port) j k es n = refl

acts_port : (a : Action) (j k : Key) {es fs : List Entry} → Acts a k es fs → Ordered es
    → port_at j fs ≡ pick (same_key k j) (port_after a) (port_at j es)
unfolding port_at
acts_port a j k (past {e} {es} b s) h =
    ap (λ (f : Option ℕ). pick (same_key (entry_key e) j) (Some e.port) f) (acts_port a j k s (parts e es h).rest)
    ∙ choices (same_key (entry_key e) j) (same_key k j) _ _ _
    (λ p q. apart (entry_key e) k b (key_sound (entry_key e) j p ∙ sym (key_sound k j q)))
acts_port a j k (over {e} {es} s) h =
    let none = none_first k es (parts e es h).rest (first-after k e es s h) in
    let same : same_key (entry_key e) j ≡ same_key k j = ap (λ (i : Key). same_key i j) (key_sound (entry_key e) k s) in
    fresh-port a j k es none ∙ by_bool (same_key k j) (λ t. rw t) (λ t. rw (t, same ∙ t))
acts_port a j k (own {es} b) h = fresh-port a j k es (none_first k es h b)

-- a rule sets or removes the port of its key, and changes no other
pub apply_port : (k : Key) (r : Rule) (es : List Entry) → Ordered es
    → port_at k (apply_rule r es) ≡ pick (same_key (rule_key r) k) (port_after r.action) (port_at k es)
apply_port k r es h = acts_port r.action k (rule_key r) (acts _ _ es) h

-- a well-formed key that covers the address
abbrev pub reaches : ℕ → Key → Bool
reaches address k = prefix_ok k && covers k address

reach_parts : (address : ℕ) (k : Key) → reaches address k ≡ true
    → (k.0 % block_size k.1 ≡ 0) × (address / block_size k.1 ≡ k.0 / block_size k.1)
reach_parts address k c =
    let t = and_parts (prefix_ok k) _ c in
    (eqb-true _ _ (and_parts (leb k.1 32) _ t.0).1, eqb-true _ _ t.1)

-- well-formed keys of one length that cover one address are one
pub cover_one : (address : ℕ) (j k : Key) → reaches address j ≡ true → reaches address k ≡ true → j.1 ≡ k.1 → j ≡ k
cover_one address j k cj ck e = λ i. (one i, e i)
  where
    size : ℕ
    size = block_size j.1

    one : j.0 ≡ k.0
    one =
        let x = reach_parts address j cj in
        let y = reach_parts address (k.0, j.1) (subst (λ (n : ℕ). reaches address (k.0, n) ≡ true) (sym e) ck) in
        cc (div-add-mod' j.0 size, div-add-mod' k.0 size)

-- each entry may stand in a table
pub entry_fit : (es : List Entry) → Ordered es → Each (λ e. entry_ok e ≡ true) es
entry_fit [] h i l = absurd (omega arith)
entry_fit (e ∷ es) h zero l = (parts e es h).fit
entry_fit (e ∷ es) h (suc i) l = entry_fit es (parts e es h).rest i (omega arith)

-- no key that covers the address and has a port is longer than n
abbrev pub NoLongerKey : ℕ → ℕ → (Key → Option ℕ) → Type 0
NoLongerKey address n ports = (k : Key) (p : ℕ) → reaches address k ≡ true → ports k ≡ Some p → k.1 ≤ n

-- the port of a key that covers the address, and no such key is longer
pub record Answer (address : ℕ) (ports : Key → Option ℕ) (f : Option ℕ) : Type 0 where
  pub key : Key
  pub port : ℕ
  pub reaching : reaches address key ≡ true
  pub has : ports key ≡ Some port
  pub found : f ≡ Some port
  pub longest : NoLongerKey address key.1 ports

-- what the ports of all keys answer to the lookup of an address
pub data Answers (address : ℕ) (ports : Key → Option ℕ) (f : Option ℕ) : Type 0 where
  unanswered : f ≡ None → ((k : Key) → reaches address k ≡ true → ports k ≡ None) → Answers address ports f
  answered : Answer address ports f → Answers address ports f

-- there is one answer
pub answers_one : {address : ℕ} {ports : Key → Option ℕ} {f g : Option ℕ} → Answers address ports f → Answers address ports g
    → f ≡ g
answers_one (unanswered n u) (unanswered m v) = n ∙ sym m
answers_one (unanswered n u) (answered w) = absurd (some-port (sym w.has ∙ u w.key w.reaching))
answers_one (answered w) (unanswered n u) = absurd (some-port (sym w.has ∙ u w.key w.reaching))
answers_one {address} {ports} (answered w) (answered v) =
    let long : w.key.1 ≤ v.key.1 = v.longest w.key w.port w.reaching w.has in
    let short : v.key.1 ≤ w.key.1 = w.longest v.key v.port v.reaching v.has in
    let e = cover_one address w.key v.key w.reaching v.reaching (omega arith) in
    w.found ∙ sym w.has ∙ ap ports e ∙ v.has ∙ sym v.found

-- ports that agree on the keys that cover the address have one answer
pub answers-same : {address : ℕ} {p q : Key → Option ℕ} {f : Option ℕ}
    → ((k : Key) → reaches address k ≡ true → p k ≡ q k) → Answers address p f → Answers address q f
answers-same e (unanswered n u) = unanswered n (λ k c. sym (e k c) ∙ u k c)
answers-same e (answered w) =
    answered (record {
      key = w.key;
      port = w.port;
      reaching = w.reaching;
      has = sym (e w.key w.reaching) ∙ w.has;
      found = w.found;
      longest = λ k p c h. w.longest k p c (e k c ∙ h);
    })

module _ (address : ℕ) (es : List Entry) where
  -- an entry whose key covers the address covers it
  placed-covers : (k : Key) (e : Placed k es) → reaches address k ≡ true
      → covers (entry_key (entry_at es e.place)) address ≡ true
  placed-covers k e c = ap (λ (j : Key). covers j address) e.key ∙ (and_parts (prefix_ok k) _ c).1

  uncovered_port : Uncovered address es → (k : Key) → reaches address k ≡ true → port_at k es ≡ None
  uncovered_port u k c =
      no_port k es (is_false (has_entry k es)
      (λ h. let e = has-entry k es h in tf (placed-covers k e c) (u e.place e.inside)))

  pub port_no_longer : (n : ℕ) → NoLonger address n es → NoLongerKey address n (λ k. port_at k es)
  port_no_longer n l k p c h =
      let e = port-entry k es h in
      omega (arith, l e.place e.inside (placed-covers k e c), ap (λ (j : Key). j.1) e.key)

  module _ (h : Ordered es) where
    pub entry_reaches : (i : ℕ) → i < length es → covers (entry_key (entry_at es i)) address ≡ true
        → reaches address (entry_key (entry_at es i)) ≡ true
    entry_reaches i inside c =
        let k = entry_key (entry_at es i) in
        and_join (prefix_ok k) _ (and_parts (prefix_ok k) _ (entry_fit es h i inside)).0 c

    -- a covering entry answers where no covering entry is longer
    entry-answers : (i : ℕ) → i < length es → covers (entry_key (entry_at es i)) address ≡ true
        → NoLonger address (entry_at es i).length es → (f : Option ℕ) → f ≡ Some (entry_at es i).port
        → Answers address (λ k. port_at k es) f
    entry-answers i inside c l f found =
        answered (record {
          key = entry_key (entry_at es i);
          port = (entry_at es i).port;
          reaching = entry_reaches i inside c;
          has = port_at_lem es h i inside;
          found = found;
          longest = port_no_longer (entry_at es i).length l;
        })

    -- a lookup gives what the ports of the entries answer
    pub lookup_answers : Answers address (λ k. port_at k es) (lookup_of address es)
    lookup_answers = go (looked address es)
      where
        go : {b : Best} → Looked address es b → Answers address (λ k. port_at k es) b.0
        go (uncovered n u) = unanswered (ap (λ (b : Best). b.0) n) (uncovered_port u)
        go {b} (covered w n) = entry-answers w.place w.inside w.covering w.longest b.0 w.port

    -- a lookup finds the port of the covering entry that no covering entry is longer than
    pub lookup_is : (i : ℕ) → i < length es → covers (entry_key (entry_at es i)) address ≡ true
        → NoLonger address (entry_at es i).length es → lookup_of address es ≡ Some (entry_at es i).port
    lookup_is i inside c l = answers_one lookup_answers (entry-answers i inside c l _ refl)
