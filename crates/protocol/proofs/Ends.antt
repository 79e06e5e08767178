-- The ends over abstract contents and tables: what a switch does with a share, and a controller with an
-- acknowledgement. The questions have document 01's numbers; 47, whether the sender is a member, is document 02's, and
-- always answered yes where every controller is one. s is a switch, c a controller, k a number, x a content.
use Prim.Native.Nat.{ℕ}
use mathlib.Core.Bool.{Bool, not, ◌&&◌, ◌||◌}
use mathlib.Core.List.{List, [], ◌∷◌}
use lib.Dec.{ltb, leb, eqb}
use Rattle.answer.specs.Ask.{Question, pick, reply}
use Rattle.protocol.specs.Families.{upd, count_below}

-- What is fixed before a run: the controllers and which of them stray, the agreed changes, whose numbers are those from
-- 1 to total, and what contents and tables are. A table is all of a switch that changes alter: its members and the
-- quorum follow from it.
pub record Domain (Content Table : Type 0) : Type 0 where
  pub controllers : ℕ
  pub strays : ℕ → Bool
  pub total : ℕ
  -- the switch and the content of a number, and whether the first number has to wait for the second
  pub switch : ℕ → ℕ
  pub content : ℕ → Content
  pub waits : ℕ → ℕ → Bool
  pub same : Content → Content → Bool
  -- the content of an empty slot
  pub none : Content
  pub empty : Table
  pub apply : Content → Table → Table
  pub room : Content → Table → Bool
  -- whether a controller is a member, and how many of them have to agree
  pub member : Table → ℕ → Bool
  pub quorum : Table → ℕ

-- the latest share held from a controller; number 0 marks an empty slot
pub record Slot (Content : Type 0) : Type 0 where
  pub number : ℕ
  pub content : Content

-- a switch: the last applied number, the table, a slot for each controller
pub record Switch (Content Table : Type 0) : Type 0 where
  pub last : ℕ
  pub table : Table
  pub slots : ℕ → Slot Content

-- a controller: the last number given, and for each switch the highest number acknowledged
pub record Controller : Type 0 where
  pub last : ℕ
  pub acknowledged : ℕ → ℕ

-- what a switch answers a share with, and its state afterwards
pub record Reply (Content Table : Type 0) : Type 0 where
  pub answer : ℕ
  pub state : Switch Content Table

abbrev pub slot_for : {Content : Type 0} → ℕ → Content → Slot Content
slot_for k x = record { number = k; content = x }

module _ {Content Table : Type 0} where
  abbrev pub unchanged : Switch Content Table → ℕ → Reply Content Table
  unchanged s k = record { answer = k; state = s }

  -- the share in its sender's slot
  abbrev pub stored : Switch Content Table → ℕ → ℕ → Content → Switch Content Table
  stored s c k x = record { last = s.last; table = s.table; slots = upd s.slots c (slot_for k x) }

  module _ (D : Domain Content Table) where
    -- whether a slot holds this number and content, and how many different controllers' slots do
    abbrev pub holds : ℕ → Content → Slot Content → Bool
    holds k x slot = eqb slot.number k && D.same slot.content x

    abbrev pub agreeing : ℕ → Content → (ℕ → Slot Content) → ℕ
    agreeing k x slots = count_below D.controllers (λ c. holds k x (slots c))

    abbrev pub is_quorum : ℕ → Content → Switch Content Table → Bool
    is_quorum k x s = leb (D.quorum s.table) (agreeing k x s.slots)

    -- the slot of a controller that is no member is emptied, and so is one with this number or a lower one
    abbrev pub emptied : Table → ℕ → ℕ → Slot Content → Slot Content
    emptied t k c slot = pick (not (D.member t c) || leb slot.number k) (slot_for 0 D.none) slot

    abbrev pub share_questions : Switch Content Table → ℕ → Slot Content → ℕ → Content → List Question
    share_questions s c slot k x =
        (47, D.member s.table c)
        ∷ (16, ltb s.last k)
        ∷ (17, leb slot.number k)
        ∷ (18, not (eqb slot.number k) || D.same slot.content x)
        ∷ (19, D.room x s.table)
        ∷ []

    abbrev pub applied : Switch Content Table → ℕ → Content → Switch Content Table
    applied s k x = record {
      last = k;
      table = D.apply x s.table;
      slots = λ c. emptied (D.apply x s.table) k c (s.slots c);
    }

    -- a stored share counted: applied at the quorum, answer 1, else held, answer 0
    abbrev pub counted : Switch Content Table → ℕ → Content → Reply Content Table
    counted s k x = pick (is_quorum k x s) (unchanged (applied s k x) 1) (unchanged s 0)

    -- a share after all questions: equal to the slot a repeat, answer 2, else stored and counted
    abbrev pub taken : Switch Content Table → ℕ → ℕ → Content → Reply Content Table
    taken s c k x = pick (holds k x (s.slots c)) (unchanged s 2) (counted (stored s c k x) k x)

    unfoldable pub take_share : Switch Content Table → ℕ → ℕ → Content → Reply Content Table
    take_share s c k x = reply (share_questions s c (s.slots c) k x) (unchanged s) (taken s c k x)

-- an acknowledgement that is not above the acknowledged number changes nothing
abbrev pub is_above : Controller → ℕ → ℕ → Bool
is_above c s k = ltb (c.acknowledged s) k

abbrev pub acknowledge : Controller → ℕ → ℕ → Controller
acknowledge c s k =
    pick (is_above c s k) (record { last = c.last; acknowledged = upd c.acknowledged s k }) c
