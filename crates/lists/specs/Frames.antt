-- Bytes put into a frame, or into a part of one, at an offset (document 01, question 25). Assumes nothing.
use Rattle.std.specs.Prelude.{ℕ, ◌+◌, Bool, List, ◌++◌, length, take, drop, leb}
use Rattle.answer.specs.Ask.{pick}

-- question 25: so many bytes fit from an offset of a frame
abbrev pub room_at : ℕ → ℕ → ℕ → Bool
room_at frame at n = leb (at + n) frame

-- a frame with bytes at an offset, all others as they were
abbrev pub placed : List ℕ → List ℕ → ℕ → List ℕ
placed w frame at = take at frame ++ w ++ drop (at + length w) frame

-- the same where the bytes fit; where they do not, the frame as it was
abbrev pub placed_whole : List ℕ → List ℕ → ℕ → List ℕ
placed_whole w frame at = pick (room_at (length frame) at (length w)) (placed w frame at) frame
