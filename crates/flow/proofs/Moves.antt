-- Elements of an array moved up or down by one place, to put one in or to take one out. Assumes nothing.
use mathlib.Core.Path.{◌≡◌, sym, ◌∙◌}
use mathlib.Core.List.{List, ◌∷◌, ◌++◌, append_assoc}
use Prim.Native.Nat.{ℕ, suc, ◌+◌, ◌-◌, ◌≤◌, ◌<◌}
use native.Mathlib.Numerals.{add-one}
use native.Mathlib.Omega.{arith}
use lib.ListN.{length, take, drop, get_or, set, length-take, length-drop, length-append}
use lib.Seq.{drop-cons, set_at, length-take-le, take_all, take-take}
use Rattle.std.specs.List.{copy_within}
use Rattle.lists.specs.Places.{put, del}
use Rattle.lists.proofs.Stores.{take_next, part-within}

module _ {A : Type 0} (l : List A) where
  -- the elements from one place to another, of the first n
  between : (i n : ℕ) → i ≤ n → n ≤ length l → drop i (take n l) ≡ take (n - i) (drop i l)
  between i n h k =
      sym (take_all (n - i) (drop i (take n l)) (simp (length-drop, length-take) (omega arith)))
      ∙ part-within (n - i) i n l (omega arith)

  module _ (at n : ℕ) (e : A) where
    -- those from a place on moved up, and e put there
    pub moved_up : at ≤ n → n < length l
        → set (copy_within l at n (at + 1)) at e ≡ put at e (take n l) ++ drop (n + 1) l
    moved_up h k =
        let end : at + 1 + (n - at) ≡ n + 1 = omega arith in
        let behind = take (n - at) (drop at l) ++ drop (n + 1) l in
        let moved : copy_within l at n (at + 1) ≡ take at l ++ get_or l at e ∷ behind =
        rw (end, take_next l at e (omega arith)) (simp append_assoc) in
        rw (moved, set_at (take at l) (get_or l at e) behind e at (length-take-le at l (omega arith)), take-take at n l h, between at n h (omega arith))
        (simp append_assoc)

    -- those after a place moved down, and e put in the last of their places
    pub moved_down : at < n → n ≤ length l
        → set (copy_within l (at + 1) n at) (n - 1) e ≡ del at (take n l) ++ e ∷ drop n l
    moved_down h k =
        let end : at + (n - (at + 1)) ≡ n - 1 = omega arith in
        let next : suc (n - 1) ≡ n = omega arith in
        let before = take at l ++ take (n - (at + 1)) (drop (at + 1) l) in
        let last : drop (n - 1) l ≡ get_or l (n - 1) e ∷ drop n l = rw (drop-cons l (n - 1) e (omega arith), next) in
        let moved : copy_within l (at + 1) n at ≡ before ++ get_or l (n - 1) e ∷ drop n l = rw (end, last) in
        let long : length before ≡ n - 1 = simp (length-append, length-take, length-drop) (omega arith) in
        rw (moved, set_at before (get_or l (n - 1) e) (drop n l) e (n - 1) long, take-take at n l (omega arith), ← add-one at, between (at + 1) n (omega arith) k)
