-- Classes of addresses. Prefixes cover ranges, so two addresses with no bound of a prefix between them are covered by
-- the same changes: every address of a client's prefix is in the class of the greatest bound up to it. Assumes nothing.
use mathlib.Core.Path.{◌≡◌, refl, sym, ap, ◌∙◌}
use mathlib.Core.Bool.{Bool, true, ◌&&◌, ◌||◌}
use mathlib.Core.List.Memᴰ
use mathlib.Core.List.{List, [], ◌∷◌, Memᴰ}
use mathlib.Core.Logic.{◌⊎◌, inl, inr, ⊎_elim}
use Prim.Native.Nat.{ℕ, zero, suc, ◌+◌, ◌*◌, ◌-◌, ◌/◌, ◌%◌, ◌≤◌, ◌<◌}
use native.Mathlib.Nat.{div-add-mod', lt-div-mul-add, div-mul-le_self, div-eq_of_lt-le, one-le-pow}
use native.Mathlib.Omega.{arith}
use lib.Dec.{ltb, leb, eqb}
use lib.ListN.{length, get_or}
use borrow.Author.Tests.{eqb-true, eq-eqb, ltb-true, leb-true, lt-ltb, le-leb}
use Rattle.answer.proofs.Bools.{by_bool, by_le, by_or, tf, and_parts, not_both, or_left, or_right, same_test}
use Rattle.lists.specs.Counts.{passing}
use Rattle.lists.specs.Kinds.{among, is_among}
use Rattle.flow.specs.Rules.{Key, rule_key, block_size, prefix_ok, well_formed}
use Rattle.flow.specs.Lookups.{covers}
use Rattle.controller.specs.Changes.{empty_undone}
use Rattle.controller.specs.declared.Undone.{Undone}
use Rattle.domain.specs.Ideals.{change_of}
use Rattle.isolation.specs.Networks.{Traffic, Network}
use Rattle.isolation.specs.Check.{Failure, Verdict, fine, fails, bounds, singly, covering, addresses, each_address}
use Rattle.isolation.proofs.Verdicts.{turn_fine, turn_fails}

-- a well-formed prefix covers a range
module _ (k : Key) (ok : prefix_ok k ≡ true) (address : ℕ) where
  abbrev size : ℕ
  size = block_size k.1

  -- it begins at a multiple of its size
  begins : k.0 / size * size ≡ k.0
  begins =
      let z : k.0 % size ≡ 0 = eqb-true _ _ (and_parts (leb k.1 32) _ ok).1 in
      omega (arith, div-add-mod' k.0 size, z)

  positive : 0 < size
  positive = one-le-pow (32 - k.1) 2 (omega arith)

  pub in-range : covers k address ≡ true → (k.0 ≤ address) × (address < k.0 + size)
  in-range h =
      let e : address / size * size ≡ k.0 / size * size =
      ap (λ (x : ℕ). x * size) (eqb-true (address / size) (k.0 / size) h) in (
        omega (arith, e, begins, div-mul-le_self address size),
        omega (arith, e, begins, lt-div-mul-add {a = address} {b = size} positive),
      )

  pub range_in : k.0 ≤ address → address < k.0 + size → covers k address ≡ true
  range_in low high =
      eq-eqb _ _ (div-eq_of_lt-le size (omega (arith, begins)) (omega (arith, begins)))

-- no bound of the prefix lies between two addresses
same_covered : (k : Key) → prefix_ok k ≡ true → (a b : ℕ) → b ≤ a → (k.0 ≤ a → k.0 ≤ b)
    → (k.0 + block_size k.1 ≤ a → k.0 + block_size k.1 ≤ b) → covers k b ≡ covers k a
same_covered k ok a b less first last =
    same_test (covers k b) (covers k a)
    (λ h.
    let r = in-range k ok b h in
    range_in k ok a (omega (arith, r.0))
    (by_le (k.0 + block_size k.1) a (λ l. absurd (omega (arith, last l, r.1))) (λ l. l)))
    (λ h.
    let r = in-range k ok a h in
    range_in k ok b (first r.0) (omega (arith, r.1)))

-- the greatest of some numbers up to a, or a lower one given
record Floor (a low : ℕ) (xs : List ℕ) (y : ℕ) : Type 0 where
  above : low ≤ y
  up_to : y ≤ a
  top : (x : ℕ) → is_among x xs ≡ true → x ≤ a → x ≤ y
  is : (y ≡ low) ⊎ (is_among y xs ≡ true)

-- there is one
floor : (a low : ℕ) (xs : List ℕ) → low ≤ a → (y : ℕ) × Floor a low xs y
unfolding among
floor a low [] l = (low, record { above = omega arith; up_to = l; top = λ x m k. tf m refl; is = inl refl })
floor a low (x ∷ xs) l =
    by_bool (ltb low x && leb x a)
    (λ e.
    let t = and_parts (ltb low x) (leb x a) e in
    let r = floor a x xs (leb-true x a t.1) in
    let y = r.0 in (
      y,
      record {
        above = omega (arith, ltb-true low x t.0, r.1.above);
        up_to = r.1.up_to;
        top = λ z m k. by_or (eqb x z) _ m (λ q. omega (arith, eqb-true x z q, r.1.above)) (λ q. r.1.top z q k);
        is = ⊎_elim (λ q. inr (or_left (eqb x y) _ (eq-eqb x y (sym q))))
            (λ q. inr (or_right (eqb x y) _ q)) r.1.is;
      },
    ))
    (λ e.
    let r = floor a low xs l in
    let y = r.0 in (
      y,
      record {
        above = r.1.above;
        up_to = r.1.up_to;
        top = λ z m k. by_or (eqb x z) _ m
            (λ q. by_le z low (λ h. omega (arith, r.1.above))
            (λ h. absurd (not_both (ltb low x) (leb x a) e (lt-ltb low x (omega (arith, eqb-true x z q)))
            (le-leb x a (omega (arith, eqb-true x z q))))))
            (λ q. r.1.top z q k);
        is = ⊎_elim (λ q. inl q) (λ q. inr (or_right (eqb x y) _ q)) r.1.is;
      },
    ))

-- the members of a list of numbers, by the test
among_member : (x : ℕ) (l : List ℕ) → is_among x l ≡ true → Memᴰ x l
unfolding among
among_member x [] m = tf m refl
among_member x (y ∷ l) m =
    by_or (eqb y x) _ m (λ q. Memᴰ.head (sym (eqb-true y x q))) (λ q. Memᴰ.tail (among_member x l q))

member_among : (x : ℕ) (l : List ℕ) → Memᴰ x l → is_among x l ≡ true
unfolding among
member_among x [] m = absurd (Memᴰ.not-nil m)
member_among x (y ∷ l) m =
    ⊎_elim (λ q. or_left (eqb y x) _ (eq-eqb y x (sym q))) (λ q. or_right (eqb y x) _ (member_among x l q))
    (Memᴰ.cases_cons m)

-- those that pass a test are the members that pass it
among-passing : (f : ℕ → Bool) (x : ℕ) (l : List ℕ) → is_among x l ≡ true → f x ≡ true → is_among x (passing f l) ≡ true
unfolding among passing
among-passing f x [] m e = m
among-passing f x (y ∷ l) m e =
    by_or (eqb y x) _ m
    (λ q. let z : f y ≡ true = ap f (eqb-true y x q) ∙ e in rw z (or_left (eqb y x) _ q))
    (λ q. let rest = among-passing f x l q e in
    by_bool (f y) (λ p. rw p (or_right (eqb y x) _ rest)) (λ p. rw p rest))

passed : (f : ℕ → Bool) (x : ℕ) (l : List ℕ) → is_among x (passing f l) ≡ true → f x ≡ true
unfolding among passing
passed f x [] m = tf m refl
passed f x (y ∷ l) m =
    by_bool (f y)
    (λ p. by_or (eqb y x) _ (rw p at m) (λ q. ap f (sym (eqb-true y x q)) ∙ p) (λ q. passed f x l q))
    (λ p. passed f x l (rw p at m))

-- a list with each number once has the same numbers
among-singly : (x : ℕ) (l : List ℕ) → is_among x (singly l) ≡ is_among x l
unfolding among singly
among-singly x [] = refl
among-singly x (y ∷ l) =
    by_bool (is_among y l)
    (λ e. rw e (among-singly x l ∙ by_bool (eqb y x)
    (λ q. rw q (ap (λ (z : ℕ). is_among z l) (sym (eqb-true y x q)) ∙ e)) (λ q. rw q)))
    (λ e. rw e (ap (λ (b : Bool). eqb y x || b) (among-singly x l)))

-- both bounds of each change are bounds
bounds_at : (us : List Undone) (i : ℕ) → i < length us →
    let r = (get_or us i empty_undone).rule in
    (is_among r.prefix (bounds us) ≡ true) × (is_among (r.prefix + block_size r.length) (bounds us) ≡ true)
unfolding among bounds
bounds_at [] i l = absurd (omega arith)
bounds_at (u ∷ us) zero l =
    let p = u.rule.prefix in
    let q = u.rule.prefix + block_size u.rule.length in
    (or_left (eqb p p) _ (eq-eqb p p refl), or_right (eqb p q) _ (or_left (eqb q q) _ (eq-eqb q q refl)))
bounds_at (u ∷ us) (suc i) l =
    let r = (get_or us i empty_undone).rule in
    let t = bounds_at us i (omega arith) in
    let end = r.prefix + block_size r.length in
    let p = u.rule.prefix in
    let q = u.rule.prefix + block_size u.rule.length in (
      or_right (eqb p r.prefix) _ (or_right (eqb q r.prefix) _ t.0),
      or_right (eqb p end) _ (or_right (eqb q end) _ t.1),
    )

-- the addresses tried are the candidates that the prefix covers
module _ (us : List Undone) (t : Traffic) where
  abbrev candidates : List ℕ
  candidates = t.prefix.0 ∷ bounds us

  abbrev within : ℕ → Bool
  within a = covers t.prefix a

  tried_so : (a : ℕ) → is_among a candidates ≡ true → within a ≡ true → Memᴰ a (addresses us t)
  tried_so a m c =
      among_member a (addresses us t)
      (among-singly a (passing within candidates) ∙ among-passing within a candidates m c)

  tried_inside : (a : ℕ) → Memᴰ a (addresses us t) → within a ≡ true
  tried_inside a m =
      passed within a candidates
      (sym (among-singly a (passing within candidates)) ∙ member_among a (addresses us t) m)

module _ (us : List Undone) (one : Traffic → ℕ → ℕ → Verdict) where
  -- for an address, one that was tried, that the same changes cover, and that was fine
  pub record Tried (t : Traffic) (address : ℕ) : Type 0 where
    pub tried : ℕ
    pub alike : (k : ℕ) → 1 ≤ k → k ≤ length us → covering us tried k ≡ covering us address k
    pub budget : ℕ
    pub left : ℕ
    pub says : one t tried budget ≡ fine left

  -- a check that says fine said it for each address of each client's prefix, or for one of its class
  pub each-fine : ((k : ℕ) → 1 ≤ k → k ≤ length us → well_formed (change_of us k).rule ≡ true)
      → (N : Network) (b c : ℕ) → each_address us one N b ≡ fine c → (t : Traffic) → Memᴰ t N.traffic
      → prefix_ok t.prefix ≡ true → (address : ℕ) → covers t.prefix address ≡ true → Tried t address
  unfolding among
  each-fine formed N b c e t m ok address h =
      let range = in-range t.prefix ok address h in
      let first = t.prefix.0 in
      let f = floor address first (bounds us) range.0 in
      let y = f.0 in
      let r = f.1 in
      let inside : covers t.prefix y ≡ true =
      range_in t.prefix ok y r.above (omega (arith, r.up_to, range.1)) in
      let there : is_among y (first ∷ bounds us) ≡ true =
      ⊎_elim (λ q. or_left (eqb first y) _ (eq-eqb first y (sym q))) (λ q. or_right (eqb first y) _ q) r.is in
      let group = turn_fine _ N.traffic b c e t m in
      let said = turn_fine (one t) (addresses us t) group.0 group.1 group.2 y (tried_so us t y there inside) in
      record {
        tried = y;
        alike = λ k low high.
            let rule = (change_of us k).rule in
            let b = bounds_at us (k - 1) (omega arith) in
            let key-ok = (and_parts (prefix_ok (rule_key rule)) _ (formed k low high)).0 in
            same_covered (rule_key rule) key-ok address y r.up_to
            (λ l. r.top rule.prefix b.0 l) (λ l. r.top (rule.prefix + block_size rule.length) b.1 l);
        budget = said.0;
        left = said.1;
        says = said.2;
      }

  -- a check that fails failed so for an address of some client's prefix
  pub record Failed (N : Network) (f : Failure) : Type 0 where
    pub traffic : Traffic
    pub listed : Memᴰ traffic N.traffic
    pub address : ℕ
    pub inside : covers traffic.prefix address ≡ true
    pub budget : ℕ
    pub says : one traffic address budget ≡ fails f

  pub each-fails : (N : Network) (b : ℕ) (f : Failure) → each_address us one N b ≡ fails f → Failed N f
  each-fails N b f e =
      let group = turn_fails _ N.traffic b f e in
      let t = group.0 in
      let said = turn_fails (one t) (addresses us t) group.2.0 f group.2.1 in
      record {
        traffic = t;
        listed = group.1;
        address = said.0;
        inside = tried_inside us t said.0 said.1;
        budget = said.2.0;
        says = said.2.1;
      }
