-- `is_sealed_by` meets its contract: what is lent is the sender's key, as far as the store has it. Assumes nothing.
use mathlib.Core.Path.{ap, ◌∙◌}
use mathlib.Core.List.{List}
use Prim.Native.Nat.{ℕ, ◌*◌}
use lib.ListN.{take, drop}
use Rattle.message.specs.Reading.{is_sealed}
use Rattle.message.proofs.senders.is_sealed_by.Goals as goal

pub returns : goal.returns
returns c =
    let keys = c.args.keys.now in
    c.is_sealed.ensures
    ∙ ap (λ (key : List ℕ). is_sealed key c.args.bytes.now)
    (c.front-key.ensures
    ∙ ap (take 32) (c.behind.ensures ∙ ap (λ (i : ℕ). drop (32 * i) keys) c.from-at.ensures))
