-- What is shown of the protocol's runs: the premises on the domain, what holds after every run, and what full rounds
-- make. The whole-run claim has its own `Safe`, `Round` and `Made`, in domain/specs.
use mathlib.Core.Path.{◌≡◌}
use mathlib.Core.Bool.{Bool, true, false}
use mathlib.Core.List.{List, [], ◌∷◌, ◌++◌, map, Memᴰ}
use Prim.Native.Nat.{ℕ, ◌+◌, ◌≤◌, ◌<◌}
use lib.Dec.{ltb, eqb}
use Rattle.answer.specs.Ask.{pick}
use Rattle.lists.specs.Kinds.{is_among}
use Rattle.protocol.specs.Families.{count_below}
use Rattle.protocol.specs.Runs.{run, Sometime}
use Rattle.protocol.specs.Orders.{up_to}
use Rattle.protocol.proofs.Ends.{Domain, Switch}
use Rattle.protocol.proofs.Worlds.{Made, World, Call, takes_share, takes_acknowledgement, step, is_member, Trusted}
use Rattle.protocol.proofs.Worlds.{Agreed, Ready}

module _ {Content Table : Type 0} (D : Domain Content Table) where
  -- Few enough stray at first, and nobody becomes a member later. A change waits only for lower numbers, and for all
  -- lower ones on its switch. The test of contents tells whether two are the same.
  pub record Laws : Type 0 where
    pub trusted : Trusted D D.empty
    pub none_joins : (x : Content) (t : Table) (c : ℕ) → D.member (D.apply x t) c ≡ true → D.member t c ≡ true
    pub lower : (k j : ℕ) → D.waits k j ≡ true → (0 < j) × (j < k)
    pub in_turn : (k j : ℕ) → Agreed D k → 0 < j → j < k → D.switch j ≡ D.switch k → D.waits k j ≡ true
    pub same_sound : (x y : Content) → D.same x y ≡ true → x ≡ y
    pub same_mine : (x : Content) → D.same x x ≡ true

  -- a number that may be made once those of a list are: agreed, new, and everything that it waits for is made
  pub record Next (k : ℕ) (ks : List ℕ) : Type 0 where
    pub agreed : Agreed D k
    pub new : is_among k ks ≡ false
    pub none_skipped : (j : ℕ) → D.waits k j ≡ true → is_among j ks ≡ true

  -- numbers made one after another, the latest first, and the tables that they make
  abbrev pub Lawful : List ℕ → Type 0
  Lawful [] = Unit {0}
  Lawful (k ∷ ks) = Next k ks × Lawful ks

  unfoldable pub table_after : List ℕ → ℕ → Table
  table_after [] s = D.empty
  table_after (k ∷ ks) s = pick (eqb (D.switch k) s) (D.apply (D.content k) (table_after ks s)) (table_after ks s)

  -- what a switch holds once the agreed changes on it up to a number are made, in their order
  abbrev pub table_at : ℕ → ℕ → Table
  table_at s k = table_after (up_to k) s

  abbrev pub numbers : List (Made Content) → List ℕ
  numbers ms = map (λ (m : Made Content). m.number) ms

  -- After every run, of the switches and the shares answered 1: each such share carries the agreed change of its
  -- number, none was skipped or made again, the tables are those that the numbers made, and each last applied number is
  -- the highest made there, or 0.
  pub record Safe (switches : ℕ → Switch Content Table) (made : List (Made Content)) : Type 0 where
    pub carried : (m : Made Content) → Memᴰ m made
        → (D.switch m.number ≡ m.switch) × (D.content m.number ≡ m.content)
    pub lawful : Lawful (numbers made)
    pub tables : (s : ℕ) → (switches s).table ≡ table_after (numbers made) s
    pub highest : (k : ℕ) → is_among k (numbers made) ≡ true → k ≤ (switches (D.switch k)).last
    pub lasts : (s : ℕ) → 0 < (switches s).last
        → (is_among (switches s).last (numbers made) ≡ true) × (D.switch (switches s).last ≡ s)

  -- A controller that keeps the rules and is a member of the switch of a number.
  pub record Serves (w : World Content Table) (c k : ℕ) : Type 0 where
    pub known : c < D.controllers
    pub keeps : D.strays c ≡ false
    pub agreed : Agreed D k
    pub member : is_member D w (D.switch k) c ≡ true

  -- A full round: the acknowledgement of each switch as it would write it then reaches each controller that keeps the
  -- rules and is still a member of some switch after the round, then that controller's share for each switch whose
  -- member it still is does, if it would write one then. Where the one half ends and the other begins may differ from
  -- controller to controller.
  pub record Turn (c : ℕ) (w : World Content Table) (calls : List (Call Content)) : Type 0 where
    pub first : List (Call Content)
    pub second : List (Call Content)
    pub cut : calls ≡ first ++ second
    pub acknowledged : (k : ℕ) → Agreed D k
        → Sometime (step D)
        (λ v rest. Memᴰ (takes_acknowledgement c (D.switch k) (v.switches (D.switch k)).last) rest) w first
    pub shared : (k : ℕ) → Serves (run (step D) w calls) c k
        → Sometime (step D) (λ v rest. Ready D (v.controllers c) k
        → Memᴰ (takes_share (D.switch k) c k (D.content k)) rest)
        (run (step D) w first) second

  abbrev pub Round : World Content Table → List (Call Content) → Type 0
  Round w calls = (c k : ℕ) → Serves (run (step D) w calls) c k → Turn c w calls

  -- room for each agreed change in every table that agreed changes make
  abbrev pub Roomy : Type 0
  Roomy = (ks : List ℕ) → ((k : ℕ) → is_among k ks ≡ true → Agreed D k) → (k : ℕ) → Agreed D k
      → D.room (D.content k) (table_after ks (D.switch k)) ≡ true

  -- whether a number is unmade, and how many of those up to d are
  abbrev pub is_unmade : World Content Table → ℕ → Bool
  is_unmade w k = ltb (w.switches (D.switch k)).last k

  abbrev pub unmade : World Content Table → ℕ → ℕ
  unmade w d = count_below d (λ i. is_unmade w (i + 1))
