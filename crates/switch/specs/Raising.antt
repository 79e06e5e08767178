-- Events raised (document 01, "Switch end" and question 27). Assumes nothing.
use Rattle.std.specs.Prelude.{ℕ, ◌+◌, [], ◌∷◌, ltb}
use Rattle.answer.specs.Ask.{reply}
use Rattle.answer.specs.Limits.{largest}
use Rattle.switch.specs.States.{unchanged, with_raised, switch_ok}
use Rattle.switch.specs.declared.Raised.{Raised}
use Rattle.switch.specs.declared.Reply.{Reply}
use Rattle.switch.specs.declared.Stepped.{Stepped}
use Rattle.switch.specs.declared.Switch.{Switch}

-- the next serial with this cause, in place of the event raised before
abbrev pub next_event : Raised → ℕ → Stepped
next_event r cause =
    reply ((27, ltb r.serial largest) ∷ [])
    (λ k. record { answer = k; raised = r })
    (record { answer = 0; raised = record { serial = r.serial + 1; cause = cause } })

abbrev pub with_event : Switch → Stepped → Reply
with_event s e = unchanged (with_raised s e.raised) e.answer

unfoldable pub raised_by : Switch → ℕ → Reply
raised_by s cause = reply ((20, switch_ok s) ∷ []) (unchanged s) (with_event s (next_event s.raised cause))
