-- The world of all ends, its calls, and which calls the rules and the premises allow. s is a switch, c a controller,
-- k a number, x a content.
use mathlib.Core.Path.{◌≡◌}
use mathlib.Core.Bool.{Bool, true, false, ◌&&◌}
use mathlib.Core.List.{List, [], ◌∷◌, Memᴰ}
use Prim.Native.Nat.{ℕ, ◌+◌, ◌≤◌, ◌<◌}
use lib.Dec.{eqb}
use Rattle.answer.specs.Ask.{pick}
use Rattle.protocol.specs.Families.{upd, count_below}
use Rattle.protocol.proofs.Ends.{Domain, Switch, Controller, Reply, slot_for, take_share, acknowledge}

-- what was written: a share from a controller for a switch, an acknowledgement from a switch for a controller
pub data Message (Content : Type 0) : Type 0 where
  share : ℕ → ℕ → ℕ → Content → Message Content
  acknowledgement : ℕ → ℕ → ℕ → Message Content

-- a share answered 1: where, its number, its content
pub record Made (Content : Type 0) : Type 0 where
  pub switch : ℕ
  pub number : ℕ
  pub content : Content

-- all ends, what was written so far, and the shares answered 1, the latest first
pub record World (Content Table : Type 0) : Type 0 where
  pub switches : ℕ → Switch Content Table
  pub controllers : ℕ → Controller
  pub written : List (Message Content)
  pub made : List (Made Content)

-- decisions that take the last number given at c to k; c writes the share of k; s takes a share from c; s writes its
-- acknowledgement for c; c takes one from s; and calls of which nothing is seen here
pub data Call (Content : Type 0) : Type 0 where
  decides : ℕ → ℕ → Call Content
  writes_share : ℕ → ℕ → Call Content
  takes_share : ℕ → ℕ → ℕ → Content → Call Content
  writes_acknowledgement : ℕ → ℕ → Call Content
  takes_acknowledgement : ℕ → ℕ → ℕ → Call Content
  other : Call Content

module _ {Content Table : Type 0} where
  -- a message written, and a controller's next state
  abbrev pub writes : World Content Table → Message Content → World Content Table
  writes w m =
      record { switches = w.switches; controllers = w.controllers; written = m ∷ w.written; made = w.made }

  abbrev pub at_controller : World Content Table → ℕ → Controller → World Content Table
  at_controller w c t =
      record { switches = w.switches; controllers = upd w.controllers c t; written = w.written; made = w.made }

  -- a switch's reply to a share
  abbrev pub at_switch : World Content Table → ℕ → ℕ → Content → Reply Content Table → World Content Table
  at_switch w s k x r = record {
    switches = upd w.switches s r.state;
    controllers = w.controllers;
    written = w.written;
    made = pick (eqb r.answer 1) (record { switch = s; number = k; content = x } ∷ w.made) w.made;
  }

  module _ (D : Domain Content Table) where
    abbrev pub start : World Content Table
    start = record {
      switches = λ s. record { last = 0; table = D.empty; slots = λ c. slot_for 0 D.none };
      controllers = λ c. record { last = 0; acknowledged = λ s. 0 };
      written = [];
      made = [];
    }

    -- making a share leaves its controller: a change is done when it is acknowledged
    unfoldable pub step : World Content Table → Call Content → World Content Table
    step w (decides c k) = at_controller w c (record { last = k; acknowledged = (w.controllers c).acknowledged })
    step w (writes_share c k) = at_controller (writes w (share c (D.switch k) k (D.content k))) c (w.controllers c)
    step w (takes_share s c k x) = at_switch w s k x (take_share D (w.switches s) c k x)
    step w (writes_acknowledgement s c) = writes w (acknowledgement s c (w.switches s).last)
    step w (takes_acknowledgement c s k) = at_controller w c (acknowledge (w.controllers c) s k)
    step w other = w

    -- whether a controller is a member of a switch
    abbrev pub is_member : World Content Table → ℕ → ℕ → Bool
    is_member w s c = D.member (w.switches s).table c

    -- how many members stray, and how many there are: strays are too few for a quorum, the others enough for one
    abbrev pub straying : Table → ℕ
    straying t = count_below D.controllers (λ c. D.member t c && D.strays c)

    abbrev pub members : Table → ℕ
    members t = count_below D.controllers (D.member t)

    pub record Trusted (t : Table) : Type 0 where
      pub too_few : straying t < D.quorum t
      pub enough : D.quorum t + straying t ≤ members t

    abbrev pub Agreed : ℕ → Type 0
    Agreed k = (0 < k) × (k ≤ D.total)

    -- an undone change is ready when every number that it waits for is done
    pub record Ready (c : Controller) (k : ℕ) : Type 0 where
      pub positive : 0 < k
      pub given : k ≤ c.last
      pub undone : c.acknowledged (D.switch k) < k
      pub free : (j : ℕ) → D.waits k j ≡ true → j ≤ c.acknowledged (D.switch j)

    -- Numbers are given in order and none past the agreed ones. A share written is that of a ready change. What a
    -- switch takes from a controller that keeps the rules, and a controller from a switch, was written before. After
    -- every share that a switch takes its members are such that few enough stray.
    abbrev pub Allowed : World Content Table → Call Content → Type 0
    Allowed w (decides c k) = ((w.controllers c).last ≤ k) × (k ≤ D.total)
    Allowed w (writes_share c k) = Ready (w.controllers c) k
    Allowed w (takes_share s c k x) =
        (c < D.controllers) × (D.strays c ≡ false → Memᴰ (share c s k x) w.written)
        × Trusted (take_share D (w.switches s) c k x).state.table
    Allowed w (writes_acknowledgement s c) = Unit {0}
    Allowed w (takes_acknowledgement c s k) = Memᴰ (acknowledgement s c k) w.written
    Allowed w other = Unit {0}
