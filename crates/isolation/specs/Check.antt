-- The check of all orders of arrival, for one address at a time. Of an evening it asks only the agreed changes. The
-- changes are tried by rising number: each that may be made next is made and, if its prefix covers the address, is also
-- left out. So each set of covering changes that an order of arrival can make is met once. Assumes nothing.
use Rattle.std.specs.Prelude.{ℕ, zero, suc, ◌+◌, Bool, ◌&&◌, List, [], ◌∷◌, ltb, eqb, length, Option, Some, None}
use Rattle.answer.specs.Ask.{pick}
use Rattle.answer.specs.Limits.{switch_count}
use Rattle.lists.specs.Counts.{passing}
use Rattle.lists.specs.Kinds.{is_among}
use Rattle.flow.specs.Rules.{rule_key, block_size}
use Rattle.flow.specs.Lookups.{covers}
use Rattle.flow.specs.declared.Action.{Action}
use Rattle.flow.specs.declared.Action.TheVariants.{Remove, Set}
use Rattle.controller.specs.declared.Undone.{Undone}
use Rattle.domain.specs.Ideals.{change_of, skips_none}
use Rattle.isolation.specs.Networks.{Traffic, Network}
use Rattle.isolation.specs.Traces.{End, follow, keeps_own, not_lost_past}

-- whose packets fail, to which address, and the numbers made by then
pub record Failure : Type 0 where
  pub traffic : Traffic
  pub address : ℕ
  pub made : List ℕ

-- fine, with what is left of the budget; a failure; or the budget was too small
pub data Verdict : Type 0 where
  fine : ℕ → Verdict
  fails : Failure → Verdict
  undecided : Verdict

abbrev pub and_then : Verdict → (ℕ → Verdict) → Verdict
and_then (fine budget) next = next budget
and_then (fails f) next = fails f
and_then undecided next = undecided

-- one after another, each with the budget that those before it left, as long as all are fine
unfoldable pub in_turn : {A : Type 0} → (A → ℕ → Verdict) → List A → ℕ → Verdict
in_turn f [] budget = fine budget
in_turn f (x ∷ xs) budget = and_then (f x budget) (λ (b : ℕ). in_turn f xs b)

-- a state tested costs one
abbrev pub tested : Bool → Failure → ℕ → Verdict
tested good f zero = undecided
tested good f (suc budget) = pick good (fine budget) (fails f)

abbrev pub port_by : Action → Option ℕ
port_by Remove = None
port_by (Set port) = Some port

-- the port of the greatest length up to one that has a port
abbrev pub or_else : Option ℕ → Option ℕ → Option ℕ
or_else None f = f
or_else (Some p) f = Some p

unfoldable pub longest_to : ℕ → (ℕ → Option ℕ) → Option ℕ
longest_to zero ports = ports 0
longest_to (suc l) ports = or_else (ports (suc l)) (longest_to l ports)

-- where the prefixes of changes begin and end
unfoldable pub bounds : List Undone → List ℕ
bounds [] = []
bounds (u ∷ us) = u.rule.prefix ∷ (u.rule.prefix + block_size u.rule.length) ∷ bounds us

-- each number of a list once
unfoldable pub singly : List ℕ → List ℕ
singly [] = []
singly (x ∷ xs) = pick (is_among x xs) (singly xs) (x ∷ singly xs)

module _ (us : List Undone) where
  -- whether the prefix of a change covers an address
  abbrev pub covering : ℕ → ℕ → Bool
  covering address k = covers (rule_key (change_of us k).rule) address

  module _ (covered : ℕ → Bool) where
    -- whether a change sets or removes the port of a switch and a length
    abbrev pub hits : ℕ → ℕ → ℕ → Bool
    hits k s l = covered k && eqb (change_of us k).switch s && eqb (change_of us k).rule.length l

    -- what matters to one address once some numbers are made, the latest first: at each switch, for each prefix length,
    -- the port of the entry that covers it
    unfoldable pub ports_after : List ℕ → ℕ → ℕ → Option ℕ
    ports_after [] s l = None
    ports_after (k ∷ ks) s l = pick (hits k s l) (port_by (change_of us k).rule.action) (ports_after ks s l)

    -- the port that a switch then finds
    abbrev pub finds_after : List ℕ → ℕ → Option ℕ
    finds_after made s = longest_to 32 (ports_after made s)

    -- a change may stay unmade: its prefix covers the address, and it is not one of those known to be made
    abbrev pub may_wait : ℕ → ℕ → Bool
    may_wait settled k = covered k && ltb settled k

    -- the changes from number k on, so many of them; those up to the number settled are made
    module _ (test : List ℕ → Bool) (blame : List ℕ → Failure) (settled : ℕ) where
      unfoldable pub explore : ℕ → ℕ → List ℕ → ℕ → Verdict
      explore zero k made budget = tested (test made) (blame made) budget
      explore (suc left) k made budget =
          pick (skips_none us made (change_of us k))
          (and_then (pick (may_wait settled k) (explore left (suc k) made budget) (fine budget))
          (λ (b : ℕ). explore left (suc k) (k ∷ made) b))
          (explore left (suc k) made budget)

  -- one address of each class: the first of the client's prefix, and each bound within it
  abbrev pub addresses : Traffic → List ℕ
  addresses t = singly (passing (λ a. covers t.prefix a) (t.prefix.0 ∷ bounds us))

  -- each client's packets to each of these
  abbrev pub each_address : (Traffic → ℕ → ℕ → Verdict) → Network → ℕ → Verdict
  each_address one N = in_turn (λ (t : Traffic). in_turn (one t) (addresses t)) N.traffic

  module _ (wanted : Traffic → End → Bool) (settled : ℕ) (N : Network) where
    -- the packets of one client to one address, once some numbers are made
    abbrev pub wanted_after : Traffic → (ℕ → Bool) → List ℕ → Bool
    wanted_after t covered made =
        wanted t (follow t.client N.links (λ (s : ℕ). finds_after covered made s) switch_count t.entry)

    abbrev pub check_address : Traffic → ℕ → ℕ → Verdict
    check_address t address budget =
        explore (covering address) (wanted_after t (covering address))
        (λ made. record { traffic = t; address = address; made = made }) settled (length us) 1 [] budget

    -- whether every packet ends as wanted, where the changes with numbers up to `settled` are known to be made (0: none)
    abbrev pub check_for : ℕ → Verdict
    check_for budget = each_address check_address N budget

  -- whether every packet keeps to links that its client may use; and whether none is lost past its first switch
  abbrev pub check : ℕ → Network → ℕ → Verdict
  check = check_for (λ t. keeps_own)

  abbrev pub check_lost : ℕ → Network → ℕ → Verdict
  check_lost = check_for (λ t. not_lost_past t.entry)
