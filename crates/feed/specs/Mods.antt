-- The FLOW_MODs of numbered rules, one after another, written to the start of an output (document 02, N1). A malformed
-- rule gets 15 first, then a short output 25.
use Rattle.std.specs.Prelude.{ℕ, ◌*◌, Bool, List, [], ◌∷◌, ◌++◌, leb, length, drop}
use Rattle.answer.specs.Ask.{reply}
use Rattle.lists.specs.Arrays.{every}
use Rattle.flow.specs.Rules.{well_formed}
use Rattle.openflow.specs.FlowMods.{bytes_of}
use Rattle.openflow.specs.declared.Written.{Written}
use Rattle.switch.specs.declared.Slot.{Slot}
use Rattle.rehearsal.specs.Limits.{most_lines}

-- bytes that the FLOW_MODs of a rehearsal have at most: 96 each
abbrev pub most_fed : ℕ
most_fed = most_lines * 96

-- whether a numbered rule is well formed
abbrev pub is_formed : Slot → Bool
is_formed x = well_formed x.rule

-- the FLOW_MODs of rules, one after another
unfoldable pub mods_of : List Slot → List ℕ
mods_of [] = []
mods_of (x ∷ xs) = bytes_of x.number x.rule ++ mods_of xs

-- the answer and how many bytes were written, and the output afterwards; a refusal leaves it as it was
unfoldable pub mods_written : List Slot → List ℕ → Written × List ℕ
mods_written xs out =
    reply ((15, every is_formed xs) ∷ (25, leb (length (mods_of xs)) (length out)) ∷ [])
    (λ k. (record { answer = k; length = 0 }, out))
    (record { answer = 0; length = length (mods_of xs) }, mods_of xs ++ drop (length (mods_of xs)) out)
