-- What is fixed before a run (document 01, "Controller end", the run; the premises of demand 3). Assumes nothing.
use Rattle.std.specs.Prelude.{◌≡◌, Bool, false, List, ℕ, ◌-◌, ◌/◌, ◌≤◌, ◌<◌, length}
use Rattle.answer.specs.Limits.{switch_count, most_controllers}
use Rattle.lists.specs.Bytes.{AreBytes}
use Rattle.message.specs.Keys.{key_length, joined}
use Rattle.playbook.specs.Reading.{read_whole}
use Rattle.playbook.specs.declared.Playbook.{Playbook}
use Rattle.protocol.specs.Families.{count_below}

-- an event agreed upon: a switch, its serial, its cause
pub record Decision : Type 0 where
  pub switch : ℕ
  pub serial : ℕ
  pub cause : ℕ

-- the number of controllers, which of them stray, the key of each controller and switch, the bytes of the playbook, and
-- the agreed list of decisions
pub record Setting : Type 0 where
  pub n : ℕ
  pub strays : ℕ → Bool
  pub key : ℕ → ℕ → List ℕ
  pub book : List ℕ
  pub agreed : List Decision

-- 1 to 16 controllers, of which at most floor((n - 1) / 3) stray; for each of them and each switch a key of 32 bytes;
-- bytes that the playbook's reader answers 0
pub record Valid (S : Setting) : Type 0 where
  pub some : 1 ≤ S.n
  pub few : S.n ≤ most_controllers
  pub straying : count_below S.n S.strays ≤ (S.n - 1) / 3
  pub keys : (c : ℕ) → c < S.n → (s : ℕ) → s < switch_count → length (S.key c s) ≡ key_length
  pub bytes : AreBytes S.book
  pub read : (read_whole S.book).answer ≡ 0

-- the playbook as its reader stored it
abbrev pub playbook : Setting → Playbook
playbook S = (read_whole S.book).playbook

-- a controller that keeps the rules
abbrev pub Keeps : Setting → ℕ → Type 0
Keeps S c = (c < S.n) × (S.strays c ≡ false)

-- a switch's key store, and a controller's
abbrev pub switch_keys : Setting → ℕ → List ℕ
switch_keys S s = joined (λ c. S.key c s) S.n

abbrev pub controller_keys : Setting → ℕ → List ℕ
controller_keys S c = joined (S.key c) switch_count
