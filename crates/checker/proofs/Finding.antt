-- What a switch finds once marked changes are made: the ports of all lengths, kept as numbers, are those of the check,
-- and so is the port of the greatest length that has one. Assumes nothing.
use mathlib.Core.Path.{◌≡◌, refl, sym, ap, ◌∙◌}
use mathlib.Core.Bool.{Bool, true, false, ◌&&◌}
use mathlib.Core.List.{List}
use Prim.Native.Nat.{ℕ, zero, suc, ◌+◌, ◌-◌, ◌≤◌, ◌<◌}
use native.Mathlib.Omega.{arith}
use lib.Dec.{eqb}
use lib.ListN.{length, get_or, set, replicate, length-set, length-replicate, get_or-replicate}
use lib.Seq.{set_out, get_or-set_same, get_or-set_other}
use borrow.Author.Tests.{eq-eqb, ne_eqb}
use Rattle.std.specs.Prelude.{Option, Some, None}
use Rattle.answer.specs.Ask.{pick}
use Rattle.answer.proofs.Bools.{by_bool, by_eq, pick_ap, pick-keeps}
use Rattle.flow.specs.Rules.{rule_key, action_of}
use Rattle.flow.specs.Lookups.{covers}
use Rattle.flow.specs.declared.Action.TheVariants.{Remove, Set}
use Rattle.lists.specs.Counts.{passing}
use Rattle.protocol.specs.Orders.{up_to}
use Rattle.domain.specs.Ideals.{change_of}
use Rattle.isolation.specs.Check.{port_by, or_else, longest_to, covering, ports_after, finds_after}
use Rattle.checker.specs.Layout.{no_change, change_at, first_changes, on_at, found_of}
use Rattle.checker.specs.declared.AgreedChange.{AgreedChange}
use Rattle.checker.specs.Marks.{made_in, ports_in}
use Rattle.checker.proofs.Listing.{change_is}
use Rattle.checker.proofs.Marking.{made-next}

-- a port as a number
pub found_none : (p : ℕ) → p ≡ 0 → found_of p ≡ None
found_none p e = rw (eq-eqb p 0 e)

pub found_port : (p : ℕ) → (p ≡ 0 → ⊥) → found_of p ≡ Some p
found_port p d = rw (ne_eqb p 0 d)

port_by_lem : (p : ℕ) → port_by (action_of p) ≡ found_of p
port_by_lem p = sym (pick_ap port_by (eqb p 0) Remove (Set p))

-- the ports of all lengths, one change more
module _ (laid : List AgreedChange) (marks : List Bool) (s address : ℕ) where
  abbrev ports : ℕ → List ℕ
  ports n = ports_in laid marks s address n

  abbrev length_at : ℕ → ℕ
  length_at i = (get_or laid i no_change).length

  abbrev port_at : ℕ → ℕ
  port_at i = (get_or laid i no_change).port

  ports_long : (n : ℕ) → length (ports n) ≡ 33
  unfolding ports_in
  ports_long zero = length-replicate {A = ℕ} 33 0
  ports_long (suc i) =
      pick-keeps (λ (l : List ℕ). length l ≡ 33) (get_or marks i false && on_at laid i s address) _ _
      (λ e. simp length-set (ports_long i)) (λ e. ports_long i)

  ports-same : (i : ℕ) → (get_or marks i false && on_at laid i s address) ≡ false → ports (suc i) ≡ ports i
  unfolding ports_in
  ports-same i e = rw e

  ports-set : (i : ℕ) → (get_or marks i false && on_at laid i s address) ≡ true
      → ports (suc i) ≡ set (ports i) (length_at i) (port_at i)
  unfolding ports_in
  ports-set i e = rw e

  pub ports_begin : replicate 33 0 ≡ ports 0
  unfolding ports_in
  ports_begin = refl

  pub ports_unmarked : (i : ℕ) → get_or marks i false ≡ false → ports i ≡ ports (i + 1)
  ports_unmarked i m =
      let e : suc i ≡ i + 1 = omega arith in
      sym (ports-same i (ap (λ (b : Bool). b && on_at laid i s address) m)) ∙ ap ports e

  pub ports_elsewhere : (i : ℕ) → get_or marks i false ≡ true → on_at laid i s address ≡ false → ports i ≡ ports (i + 1)
  ports_elsewhere i m o =
      let e : suc i ≡ i + 1 = omega arith in
      sym (ports-same i (λ k. m k && o k)) ∙ ap ports e

  pub ports-put : (i : ℕ) → get_or marks i false ≡ true → on_at laid i s address ≡ true
      → set (ports i) (length_at i) (port_at i) ≡ ports (i + 1)
  ports-put i m o =
      let e : suc i ≡ i + 1 = omega arith in
      sym (ports-set i (λ k. m k && o k)) ∙ ap ports e

  pub ports_past : (i : ℕ) → get_or marks i false ≡ true → on_at laid i s address ≡ true → 32 < length_at i
      → ports i ≡ ports (i + 1)
  ports_past i m o l =
      let long = ports_long i in
      sym (set_out (ports i) (length_at i) (port_at i) (omega arith)) ∙ ports-put i m o

  -- what the ports say of a length, and what the check says of it, with one change more
  ports-next : (i l : ℕ) → l ≤ 32
      → found_of (get_or (ports (suc i)) l 0)
      ≡ pick (get_or marks i false && on_at laid i s address && eqb (length_at i) l) (found_of (port_at i))
      (found_of (get_or (ports i) l 0))
  ports-next i l low =
      let long = ports_long i in
      by_bool (get_or marks i false && on_at laid i s address)
      (λ e. ap (λ (ps : List ℕ). found_of (get_or ps l 0)) (ports-set i e)
      ∙ by_eq (length_at i) l
      (λ q. rw (e, eq-eqb (length_at i) l q)
      (ap found_of (ap (λ (n : ℕ). get_or (set (ports i) n (port_at i)) l 0) q
      ∙ get_or-set_same (ports i) l (port_at i) 0 (omega arith))))
      (λ d. rw (e, ne_eqb (length_at i) l d)
      (ap found_of (get_or-set_other (ports i) (length_at i) l (port_at i) 0 (λ q. d (sym q))))))
      (λ e. rw e (ap (λ (ps : List ℕ). found_of (get_or ps l 0)) (ports-same i e)))

  module _ (upto : ℕ) where
    abbrev after : ℕ → ℕ → Option ℕ
    after n l = ports_after (first_changes laid upto) (covering (first_changes laid upto) address) (made_in marks n) s l

    after_next : (i l : ℕ) → i < upto
        → after (suc i) l
        ≡ pick (get_or marks i false && on_at laid i s address && eqb (length_at i) l) (found_of (port_at i)) (after i l)
    unfolding ports_after
    after_next i l high =
        let e : suc i - 1 ≡ i = omega arith in
        let is : change_of (first_changes laid upto) (suc i) ≡ change_at laid i =
        change_is laid upto (suc i) (omega arith) (omega arith) ∙ ap (change_at laid) e in
        ap
        (λ (made : List ℕ). ports_after (first_changes laid upto) (covering (first_changes laid upto) address) made s l)
        (made-next marks i)
        ∙ by_bool (get_or marks i false)
        (λ m. rw m
        ((λ k. pick
        (covers (rule_key (is k).rule) address && eqb (is k).switch s && eqb (is k).rule.length l)
        (port_by (is k).rule.action) (after i l))
        ∙ ap (λ (f : Option ℕ). pick (on_at laid i s address && eqb (length_at i) l) f (after i l)) (port_by_lem (port_at i))))
        (λ m. rw m)

    ports-after : (n l : ℕ) → n ≤ upto → l ≤ 32 → found_of (get_or (ports n) l 0) ≡ after n l
    ports-after zero l high low =
        let none : found_of (get_or (ports 0) l 0) ≡ None =
        ap (λ (ps : List ℕ). found_of (get_or ps l 0)) (sym ports_begin)
        ∙ ap found_of (get_or-replicate 33 l 0 0 (omega arith)) in
        none ∙ unfold passing up_to ports_after in refl
    ports-after (suc i) l high low =
        ports-next i l low
        ∙ ap (λ (f : Option ℕ). pick (get_or marks i false && on_at laid i s address && eqb (length_at i) l)
        (found_of (port_at i)) f)
        (ports-after i l (omega arith) low)
        ∙ sym (after_next i l (omega arith))

-- ports that agree on all lengths up to one have the same longest
longest_same : (f g : ℕ → Option ℕ) (n : ℕ) → ((l : ℕ) → l ≤ n → f l ≡ g l) → longest_to n f ≡ longest_to n g
unfolding longest_to
longest_same f g zero h = h 0 (omega arith)
longest_same f g (suc n) h =
    let at = h (suc n) (omega arith) in
    let below = longest_same f g n (λ l b. h l (omega arith)) in
    λ k. or_else (at k) (below k)

-- the longest of the ports is what the switch finds
pub finds_is : (laid : List AgreedChange) (marks : List Bool) (s address upto : ℕ) (ports : List ℕ) (port : Option ℕ)
    → ports ≡ ports_in laid marks s address upto → port ≡ longest_to 32 (λ l. found_of (get_or ports l 0))
    → port ≡ finds_after (first_changes laid upto) (covering (first_changes laid upto) address) (made_in marks upto) s
finds_is laid marks s address upto ports port e f =
    f
    ∙ longest_same _ _ 32 (λ l low.
    ap (λ (ps : List ℕ). found_of (get_or ps l 0)) e ∙ ports-after laid marks s address upto upto l (omega arith) low)

-- the port of the greatest length below one
abbrev pub longest_below : ℕ → (ℕ → Option ℕ) → Option ℕ
longest_below zero ports = None
longest_below (suc l) ports = longest_to l ports

longest_none : (l : ℕ) (f : ℕ → Option ℕ) → f l ≡ None → longest_to l f ≡ longest_below l f
unfolding longest_to
longest_none zero f e = e
longest_none (suc l) f e = rw e

longest_some : (l : ℕ) (f : ℕ → Option ℕ) (p : ℕ) → f l ≡ Some p → longest_to l f ≡ Some p
unfolding longest_to
longest_some zero f p e = e
longest_some (suc l) f p e = rw e

module _ (ports : List ℕ) (l : ℕ) (some : 0 < l) where
  abbrev found : ℕ → Option ℕ
  found k = found_of (get_or ports k 0)

  from_below : longest_below l found ≡ longest_to (l - 1) found
  from_below = let e : l ≡ suc (l - 1) = omega arith in ap (λ (n : ℕ). longest_below n found) e

  pub longest_down : get_or ports (l - 1) 0 ≡ 0 → longest_below l found ≡ longest_below (l - 1) found
  longest_down e = from_below ∙ longest_none (l - 1) found (found_none (get_or ports (l - 1) 0) e)

  pub longest_here : (get_or ports (l - 1) 0 ≡ 0 → ⊥) → longest_below l found ≡ found_of (get_or ports (l - 1) 0)
  longest_here d =
      let p = get_or ports (l - 1) 0 in
      from_below ∙ longest_some (l - 1) found p (found_port p d) ∙ sym (found_port p d)
