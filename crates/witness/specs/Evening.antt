-- A worked evening (document 01, "Rehearsal program": its playbook and its keys). Of four controllers the last strays:
-- its shares have good tags, but it asks for another port, and for a change ahead of its turn. One share arrives twice,
-- one after its change is made. Assumes nothing.
use Rattle.std.specs.Prelude.{ℕ, List, [], ◌∷◌, eqb, replicate}
use Rattle.flow.specs.declared.Action.TheVariants.{Set}
use Rattle.flow.specs.declared.Rule.{Rule}
use Rattle.message.specs.Keys.{key_of}
use Rattle.message.specs.Layout.{share_length}
use Rattle.message.specs.Writing.{encode}
use Rattle.message.specs.declared.Message.TheVariants.{Share}
use Rattle.switch.specs.Calls.{receives}
use Rattle.controller.specs.Calls.{decides, writes_share, manages}
use Rattle.domain.specs.Settings.{Decision, Setting}
use Rattle.domain.specs.Calls.{Call, at_switch, at_controller}

-- the one decision agreed upon: the first event of switch 5, of cause 1
abbrev pub outage : Decision
outage = record { switch = 5; serial = 1; cause = 1 }

abbrev pub evening : Setting
evening = record {
  n = 4;
  strays = λ c. eqb c 3;
  key = key_of;
  book =
      17 ∷ 5 ∷ 1
      ∷ 18 ∷ 0 ∷ 2 ∷ 10 ∷ 0 ∷ 0 ∷ 0 ∷ 8 ∷ 0 ∷ 3
      ∷ 18 ∷ 0 ∷ 5 ∷ 10 ∷ 0 ∷ 0 ∷ 0 ∷ 8 ∷ 0 ∷ 2
      ∷ 19 ∷ [];
  agreed = outage ∷ [];
}

-- 10.0.0.0/8 by a port
abbrev pub by_port : ℕ → Rule
by_port port = record { prefix = 167772160; length = 8; action = Set port }

-- the bytes of a share from controller c for switch s: number k asks for a port
abbrev pub share : ℕ → ℕ → ℕ → ℕ → List ℕ
share c s k port = encode (evening.key c s) (Share c s k (by_port port))

-- controller c takes the decision; it writes its share for switch 2; and a share arrives
abbrev pub agrees : ℕ → Call
agrees c = at_controller c (manages (decides 5 1 1))

abbrev pub writes : ℕ → Call
writes c = at_controller c (writes_share 2 (replicate share_length 0) 0)

abbrev pub arrives : ℕ → ℕ → ℕ → ℕ → Call
arrives c s k port = at_switch s (receives (share c s k port))

-- the calls
abbrev pub evening_calls : List Call
evening_calls =
    agrees 0 ∷ agrees 1 ∷ agrees 2
    ∷ arrives 3 2 1 9 ∷ arrives 3 5 2 2
    ∷ writes 0 ∷ writes 1
    ∷ arrives 1 2 1 3 ∷ arrives 1 2 1 3
    ∷ writes 2 ∷ arrives 2 2 1 3
    ∷ arrives 0 2 1 3
    ∷ []

-- and their answers, as document 01 has them: taken; the stray's shares held; written; held, and a repeat; written, and
-- applied with the second controller that asks for it; too late
abbrev pub answers : List ℕ
answers = 0 ∷ 0 ∷ 0 ∷ 0 ∷ 0 ∷ 0 ∷ 0 ∷ 0 ∷ 2 ∷ 0 ∷ 1 ∷ 16 ∷ []
