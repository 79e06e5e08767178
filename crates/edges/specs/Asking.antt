-- What an edge asks, and what the definitions that the ends' contracts cite answer to it (document 01, "Edges").
-- Assumes nothing.
use Rattle.std.specs.Prelude.{◌≡◌, true, List, [], ◌∷◌, ◌++◌, ℕ, ◌*◌, ◌^◌, ◌≤◌, ◌<◌, leb, length, replicate}
use Rattle.answer.specs.Ask.{pick}
use Rattle.answer.specs.Limits.{switch_count, most_controllers}
use Rattle.lists.specs.Bytes.{be}
use Rattle.flow.specs.Rules.{port_ok, port_of}
use Rattle.flow.specs.Changes.{apply_to}
use Rattle.flow.specs.declared.Action.{Action}
use Rattle.flow.specs.declared.Action.TheVariants.{Set}
use Rattle.flow.specs.declared.Rule.{Rule}
use Rattle.flow.specs.declared.Table.{Table}
use Rattle.message.specs.Keys.{key_length, key_at}
use Rattle.message.specs.Writing.{encode, write_to}
use Rattle.message.specs.declared.Message.TheVariants.{Share, Refused}
use Rattle.playbook.specs.Reading.{read_whole}
use Rattle.switch.specs.Slots.{quorum_of}
use Rattle.switch.specs.States.{setup_of}
use Rattle.switch.specs.Shares.{take_share}
use Rattle.switch.specs.Receiving.{received_by}
use Rattle.switch.specs.declared.Reply.{Reply}
use Rattle.switch.specs.declared.Slot.{Slot}

-- what the edges leave open: the number of controllers, a switch with its key store, a controller that sends, a share's
-- number, an action, any prefix, one above 0, and in a playbook the cause of a plan and the flow of a change
pub record Open : Type 0 where
  pub n : ℕ
  pub switch : ℕ
  pub keys : List ℕ
  pub sender : ℕ
  pub number : ℕ
  pub action : Action
  pub prefix : ℕ
  pub positive : ℕ
  pub cause : ℕ
  pub flow : ℕ

-- in range, as document 01 and the widths of fields have it; any cause and flow
pub record InRange (o : Open) : Type 0 where
  pub controllers : (0 < o.n) × (o.n ≤ most_controllers)
  pub known : (o.switch < switch_count) × (o.sender < o.n)
  pub store : length o.keys ≡ key_length * o.n
  pub number : (0 < o.number) × (o.number < 256 ^ 4)
  pub action : (port_ok o.action ≡ true) × (port_of o.action < 256 ^ 2)
  pub prefix : o.prefix < 256 ^ 4
  pub positive : (0 < o.positive) × (o.positive < 256 ^ 4)

-- one such
abbrev pub example : Open
example = record {
  n = 4;
  switch = 5;
  keys = replicate 128 0;
  sender = 3;
  number = 1;
  action = Set 3;
  prefix = 0x0A00_0000;
  positive = 0x0A00_0000;
  cause = 1;
  flow = 0;
}

-- asked are the quorum of so many controllers, a share with a number and a rule, the bytes of a playbook, a rule
-- applied to a table, a switch set up with an id and so many controllers, shares of controllers, one after another, and
-- nothing written into a frame of so many bytes at an offset
pub data Asked : Type 0 where
  quorum : ℕ → Asked
  share : ℕ → Rule → Asked
  playbook : List ℕ → Asked
  applied : Table → Rule → Asked
  setup : ℕ → ℕ → Asked
  shares : List (ℕ × Slot) → Asked
  nothing : ℕ → ℕ → Asked

-- said are a figure, that it is good, and the number of the question that refuses it
pub data Said : Type 0 where
  figure : ℕ → Said
  good : Said
  refused : ℕ → Said

-- an answer up to the highest good one, or a refusal
abbrev pub verdict : ℕ → ℕ → Said
verdict highest answer = pick (leb answer highest) good (refused answer)

-- the answer to the last of some shares, taken one after another
abbrev pub last_answer : Reply → List (ℕ × Slot) → ℕ
last_answer r [] = r.answer
last_answer r ((c, x) ∷ xs) = last_answer (take_share r.state c x) xs

-- the bytes of an end, of a plan, and of a change with a rule
abbrev pub end_record : List ℕ
end_record = 0x13 ∷ []

module _ (o : Open) where
  abbrev pub plan_record : List ℕ
  plan_record = 0x11 ∷ o.switch ∷ o.cause ∷ []

  abbrev pub change_record : Rule → List ℕ
  change_record r =
      0x12 ∷ o.flow ∷ o.switch ∷ be 4 r.prefix ++ r.length ∷ be 2 (port_of r.action)

  -- what the ends answer: a share arrives, with the tag of its sender's key, at a switch that was just set up, and is
  -- good where it is held (0) or applied (1); a playbook is good where it is read (0), a rule where it is applied (1), a
  -- setup where it is made (0); shares one after another reach switch 5 of four controllers, their bytes having passed,
  -- and the last answer counts
  abbrev pub answer_to : Asked → Said
  answer_to (quorum n) = figure (quorum_of n)
  answer_to (share number r) =
      verdict 1
      (received_by (setup_of o.switch o.n).state o.keys
      (encode (key_at o.keys o.sender) (Share o.sender o.switch number r))).answer
  answer_to (playbook bytes) = verdict 0 (read_whole bytes).answer
  answer_to (applied t r) = verdict 1 (apply_to t r).answer
  answer_to (setup id n) = verdict 0 (setup_of id n).answer
  answer_to (shares xs) = figure (last_answer (setup_of 5 4) xs)
  answer_to (nothing bytes at) = verdict 0 (write_to [] (Refused 26) (replicate bytes 0) at).0
