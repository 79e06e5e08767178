-- A FLOW_MOD written at an offset of a frame (document 02, N1): a malformed rule gets 15 first, then a short frame 25.
use Rattle.std.specs.Prelude.{ℕ, List, [], ◌∷◌, length}
use Rattle.answer.specs.Ask.{reply}
use Rattle.lists.specs.Frames.{room_at, placed}
use Rattle.flow.specs.Rules.{well_formed}
use Rattle.flow.specs.declared.Rule.{Rule}
use Rattle.openflow.specs.FlowMods.{length_of, bytes_of}
use Rattle.openflow.specs.declared.Written.{Written}

-- the answer and how many bytes were written, and the frame afterwards; a refused writing leaves it as it was
unfoldable pub flow_mod_written : ℕ → Rule → List ℕ → ℕ → Written × List ℕ
flow_mod_written number r frame at =
    reply ((15, well_formed r) ∷ (25, room_at (length frame) at (length_of r)) ∷ [])
    (λ k. (record { answer = k; length = 0 }, frame))
    (record { answer = 0; length = length_of r }, placed (bytes_of number r) frame at)
