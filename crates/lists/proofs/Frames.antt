-- Bytes in a frame: what bytes at an offset leave where it was, a run of bytes put piece after piece, and a part that
-- was lent back in its frame. Assumes nothing.
use mathlib.Core.Path.{◌≡◌, refl, sym, ap, ◌∙◌}
use mathlib.Core.List.{List, [], ◌++◌, append_assoc, append-nil}
use Prim.Native.Nat.{ℕ, ◌+◌, ◌-◌, ◌≤◌}
use native.Mathlib.Omega.{arith}
use borrow.Author.Tests.{le-leb}
use lib.ListN.{length, take, drop, length-append, length-drop, drop_of_length-le}
use lib.Seq.{sets, sets-eq, length-sets, take_at, drop_at, drop-drop, length-take-le}
use Rattle.lists.specs.Frames.{placed, placed_whole}
use Rattle.lists.proofs.Runs.{sets_append}
use Rattle.lists.proofs.Stores.{lent_rest}

-- a frame with bytes at an offset
module _ (w frame : List ℕ) (at : ℕ) (fit : at + length w ≤ length frame) where
  before-length : length (take at frame) ≡ at
  before-length = length-take-le at frame (omega arith)

  pub placed-there : take (length w) (drop at (placed w frame at)) ≡ w
  placed-there = rw (append_assoc, drop_at (take at frame) _ at before-length) (take_at w _ (length w) refl)

  pub placed-before : take at (placed w frame at) ≡ take at frame
  placed-before = rw append_assoc (take_at (take at frame) _ at before-length)

  pub placed-after : drop (at + length w) (placed w frame at) ≡ drop (at + length w) frame
  placed-after = drop_at (take at frame ++ w) _ (at + length w) (rw (length-append, before-length))

  pub placed-length : length (placed w frame at) ≡ length frame
  placed-length = rw (length-append, length-append, before-length, length-drop) (omega arith)

  -- they are a run of stores
  pub whole_sets : placed_whole w frame at ≡ sets frame at w
  whole_sets = rw (le-leb (at + length w) (length frame) fit) (sym (sets-eq w frame at fit))

-- a part that has a run of bytes from an offset on, and is otherwise as it was
pub record Filled (p : List ℕ) (at : ℕ) (v m : List ℕ) : Type 0 where
  pub is : m ≡ sets p at v

-- nothing put, and bytes put behind those that were put before, where there is room for them
pub nothing_put : (p : List ℕ) (at : ℕ) → Filled p at [] p
nothing_put p at = record { is = refl }

pub put-behind : {p : List ℕ} {at : ℕ} {v m n : List ℕ} (w : List ℕ) (k : ℕ) → Filled p at v m → k ≡ at + length v
    → k + length w ≤ length p → n ≡ placed_whole w m k → Filled p at (v ++ w) n
put-behind {p} {at} {v} {m} {n} w k before e fit put =
    let long : length m ≡ length p = ap length before.is ∙ length-sets p at v in
    record {
      is =
          put ∙ whole_sets w m k (rw long fit) ∙ ap (λ (l : List ℕ). sets l k w) before.is
          ∙ ap (λ (i : ℕ). sets (sets p at v) i w) e ∙ sym (sets_append p at v w);
    }

-- bytes at the start of the part of a frame from an offset on, and the part back in its frame
pub part_back : (frame w : List ℕ) (at : ℕ) {q : List ℕ} → at + length w ≤ length frame
    → q ≡ sets (take (length frame - at) (drop at frame)) 0 w
    → take at frame ++ (q ++ drop (length frame - at) (drop at frame)) ≡ placed w frame at
part_back frame w at {q} h e =
    let n = length frame - at in
    let rest : length (drop at frame) ≤ n = simp length-drop (omega arith) in
    let fits : 0 + length w ≤ length (drop at frame) = simp length-drop (omega arith) in
    let none : 0 + length w ≡ length w = omega arith in
    let part : q ≡ w ++ drop (at + length w) frame =
    e ∙ ap (λ (l : List ℕ). sets l 0 w) (lent_rest frame at) ∙ sets-eq w (drop at frame) 0 fits
    ∙ ap (λ (l : List ℕ). w ++ l) (drop-drop (0 + length w) at frame ∙ ap (λ (i : ℕ). drop (at + i) frame) none) in
    rw (part, drop_of_length-le (drop at frame) {i = n} rest, append-nil, append_assoc)
