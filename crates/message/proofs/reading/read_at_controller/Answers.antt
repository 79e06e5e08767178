-- `read_at_controller` meets its contract: the branches answer questions 10 and 11 at each length. Assumes nothing.
use mathlib.Core.Path.{sym, ◌∙◌}
use native.Mathlib.Omega.{arith}
use Rattle.message.proofs.Ends.{decode-event, decode-event_kind, decode-controller_length}
use Rattle.message.proofs.Ends.{decode-acknowledgement, decode-acknowledgement_kind}
use Rattle.message.proofs.reading.read_at_controller.Goals as goal

pub returns-then-s-ne-EVENT : goal.returns-then-s-ne-EVENT
returns-then-s-ne-EVENT c = sym (decode-event_kind _ (omega arith) (λ e. omega arith))

pub returns-then-s-eq-EVENT_LENGTH : goal.returns-then-s-eq-EVENT_LENGTH
returns-then-s-eq-EVENT_LENGTH c = c.read_event.ensures ∙ sym (decode-event _ (omega arith) (omega arith))

pub returns-then-s-ne-ACKNOWLEDGEMENT_LENGTH : goal.returns-then-s-ne-ACKNOWLEDGEMENT_LENGTH
returns-then-s-ne-ACKNOWLEDGEMENT_LENGTH c = sym (decode-controller_length _ (λ e. omega arith) (λ e. omega arith))

pub returns-then-s-ne-ACKNOWLEDGEMENT : goal.returns-then-s-ne-ACKNOWLEDGEMENT
returns-then-s-ne-ACKNOWLEDGEMENT c = sym (decode-acknowledgement_kind _ (omega arith) (λ e. omega arith))

pub returns : goal.returns
returns c = c.read_acknowledgement.ensures ∙ sym (decode-acknowledgement _ (omega arith) (omega arith))
