-- `read_at_switch` meets its contract: the branches answer questions 10 and 11. Assumes nothing.
use mathlib.Core.Path.{sym, ◌∙◌}
use native.Mathlib.Omega.{arith}
use Rattle.message.proofs.Ends.{decode-share, decode-share_length, decode-share_kind}
use Rattle.message.proofs.reading.read_at_switch.Goals as goal

pub returns-then-s-ne-SHARE_LENGTH : goal.returns-then-s-ne-SHARE_LENGTH
returns-then-s-ne-SHARE_LENGTH c = sym (decode-share_length _ (λ e. omega arith))

pub returns-then-s-ne-SHARE : goal.returns-then-s-ne-SHARE
returns-then-s-ne-SHARE c = sym (decode-share_kind _ (omega arith) (λ e. omega arith))

pub returns : goal.returns
returns c = c.read_share.ensures ∙ sym (decode-share _ (omega arith) (omega arith))
