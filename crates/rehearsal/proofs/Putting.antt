-- What the functions that measure and put numbers and lines keep, turn by turn; for this crate's own functions.
-- Assumes nothing.
use mathlib.Core.Path.{◌≡◌, refl, sym, ap, ap₂, ◌∙◌}
use mathlib.Core.List.{List, [], ◌∷◌, ◌++◌, append_assoc}
use Prim.Native.Nat.{ℕ, suc, ◌+◌, ◌-◌, ◌*◌, ◌≤◌, ◌<◌}
use native.Mathlib.Omega.{arith}
use lib.ListN.{length, get_or, take, drop, set, length-append, length-take, length-drop, drop_of_length-le}
use lib.Seq.{sets, sets-eq, take_all}
use borrow.Author.Tests.{le-leb, lt-leb}
use Rattle.answer.proofs.Asked.{none_asked, refused, asked}
use borrow.Rule.Slice.PartMut.{put_mid}
use Rattle.std.proofs.lemmas.Slice.{put_mid-paste}
use Rattle.lists.proofs.Runs.{sets_append}
use Rattle.lists.proofs.Stores.{rest}
use Rattle.rehearsal.specs.Lines.{digits, stripped, decimal, text_of, text, printed}
use Rattle.rehearsal.specs.declared.Line.{Line}
use Rattle.rehearsal.proofs.Decimals.{length_digits, zero_goes, digit_stays, last_stays}
use Rattle.rehearsal.proofs.Texts.{line_length, line_short, text_short, text-next, length-next, text_rises}

-- the digits from a place on, with the zeros there taken off
module _ (l : List ℕ) (i : ℕ) where
  pub strip_zero : suc i < length l → get_or l i 0 ≡ 48 → stripped (drop i l) ≡ stripped (drop (i + 1) l)
  strip_zero h e =
      ap stripped (rest l i 0 (omega arith)) ∙ zero_goes _ _ e (simp length-drop (omega arith))

  pub strip_digit : i < length l → (get_or l i 0 ≡ 48 → ⊥) → stripped (drop i l) ≡ drop i l
  strip_digit h n = let e = rest l i 0 h in ap stripped e ∙ digit_stays _ _ n ∙ sym e

  pub strip_last : suc i ≡ length l → stripped (drop i l) ≡ drop i l
  strip_last h =
      let none : drop (i + 1) l ≡ [] = drop_of_length-le l {i = i + 1} (omega arith) in
      let e = rest l i 0 (omega arith) ∙ ap (λ (t : List ℕ). get_or l i 0 ∷ t) none in
      ap stripped e ∙ last_stays (get_or l i 0) ∙ sym e

-- how many digits stand after the zeros in front
pub width_after : (x zeros : ℕ) {d : List ℕ} → d ≡ digits 10 x → drop zeros d ≡ stripped d
    → 10 - zeros ≡ length (decimal x)
width_after x zeros {d} e f =
    let long : length d ≡ 10 = ap length e ∙ length_digits 10 x in
    let left : length (drop zeros d) ≡ 10 - zeros = length-drop zeros d ∙ ap (λ (n : ℕ). n - zeros) long in
    sym left ∙ ap length (f ∙ ap stripped e)

-- the digits after the zeros put into an output, and the byte after the last of them
pub number_put : (out : List ℕ) (at x end zeros : ℕ) {d ys : List ℕ} → d ≡ digits 10 x → drop zeros d ≡ stripped d
    → zeros ≤ 9 → ys ≡ take (10 - zeros) (drop zeros d) → at + length (decimal x) < length out
    → (at + 10 - zeros + 1 ≡ at + length (decimal x) + 1)
    × (set (put_mid at (at + 10 - zeros - at) out ys) (at + 10 - zeros) end ≡ sets out at (decimal x ++ end ∷ []))
number_put out at x end zeros {d} {ys} e f few g room =
    let width : 10 - zeros ≡ length (decimal x) = width_after x zeros e f in
    let ten : length d ≡ 10 = ap length e ∙ length_digits 10 x in
    let all : take (10 - zeros) (drop zeros d) ≡ drop zeros d =
    take_all (10 - zeros) (drop zeros d) (omega (arith, length-drop zeros d)) in
    let is : ys ≡ decimal x = g ∙ all ∙ f ∙ ap stripped e in
    let here : at + 10 - zeros ≡ at + length (decimal x) = omega arith in
    let long : at + 10 - zeros - at ≡ length (decimal x) = omega arith in
    let stored : put_mid at (length (decimal x)) out (decimal x) ≡ sets out at (decimal x) =
    put_mid-paste at (length (decimal x)) out (decimal x) (decimal x) (length (decimal x)) refl refl refl
    ∙ ap (λ (l : List ℕ). take at out ++ l ++ drop (at + length (decimal x)) out)
    (take_all (length (decimal x)) (decimal x) (omega arith))
    ∙ sym (sets-eq (decimal x) out at (omega arith)) in
    (omega arith, rw (is, long, here, stored) (sym (sets_append out at (decimal x) (end ∷ []))))

-- the length of the first lines and one more
pub sum_fits : (ls : List Line) (i : ℕ) (l : Line) {n w : ℕ} → n ≡ length (text (take i ls)) → w ≡ length (text_of l)
    → n + w ≤ 33 * (i + 1)
sum_fits ls i l e f = omega (arith, line_short l, simp length-take at (text_short (take i ls)))

-- the bytes of a line after those of the lines before it
pub stored_next : (ls : List Line) (i : ℕ) (z : Line) → i < length ls → (out : List ℕ) (at : ℕ) {m n : List ℕ}
    → at ≡ length (text (take i ls)) → m ≡ sets out 0 (text (take i ls)) → n ≡ sets m at (text_of (get_or ls i z))
    → n ≡ sets out 0 (text (take (i + 1) ls))
stored_next ls i z h out at e f g =
    let here : 0 + length (text (take i ls)) ≡ at = omega arith in
    rw (text-next ls i z h, sets_append, here, ← f) g

-- a line has room where the first lines, of which it is one, have room
pub room_next : (ls : List Line) (i n : ℕ) (z : Line) {at : ℕ} → i < n → n ≤ length ls → at ≡ length (text (take i ls))
    → at + length (text_of (get_or ls i z)) ≤ length (text (take n ls))
room_next ls i n z h k e =
    omega (arith, length-next ls i z (omega arith), text_rises ls (i + 1) n (omega arith))

-- a number with the byte that ends it is stored, and others after it
abbrev Ended : List ℕ → ℕ → ℕ → ℕ → ℕ → List ℕ → Type 0
Ended out at x end next m = (next ≡ at + length (decimal x) + 1) × (m ≡ sets out at (decimal x ++ end ∷ []))

after : (out : List ℕ) (at x end : ℕ) (others : List ℕ) {next : ℕ} {m : List ℕ} → Ended out at x end next m
    → sets out at (decimal x ++ (end ∷ others)) ≡ sets m next others
after out at x end others {next} {m} e =
    let first = decimal x ++ end ∷ [] in
    let here : at + length first ≡ next = omega (arith, length-append (decimal x) (end ∷ []), e.0) in
    ap (sets out at) (sym (append_assoc (decimal x) (end ∷ []) others)) ∙ sets_append out at first others
    ∙ ap₂ (λ (k : List ℕ) (i : ℕ). sets k i others) (sym e.1) here

-- the three numbers of a line, one after another
pub line_stored : (out : List ℕ) (at : ℕ) (l : Line) {p q r : ℕ} {m k j : List ℕ} → Ended out at l.ordinal 32 p m
    → Ended m p l.answer 32 q k → Ended k q l.figure 10 r j
    → (r ≡ at + length (text_of l)) × (j ≡ sets out at (text_of l))
line_stored out at l {p} {q} {r} {m} {k} {j} e f g =
    let figure = decimal l.figure ++ 10 ∷ [] in
    let answer = decimal l.answer ++ (32 ∷ figure) in
    let whole : text_of l ≡ decimal l.ordinal ++ (32 ∷ answer) = simp append_assoc in
    let stored : sets out at (decimal l.ordinal ++ (32 ∷ answer)) ≡ sets k q figure =
    after out at l.ordinal 32 answer e ∙ after m p l.answer 32 figure f in
    (omega (arith, line_length l), g.1 ∙ sym (ap (sets out at) whole ∙ stored))

-- what printing replies, by whether the bytes fit
module _ (bytes out : List ℕ) where
  pub not-printed : length out < length bytes → (record { answer = 25; length = 0 }, out) ≡ printed bytes out
  unfolding printed
  not-printed h = sym (refused _ _ 25 _ [] (lt-leb (length bytes) (length out) h))

  pub all_printed : {n : ℕ} {m : List ℕ} → length bytes ≤ length out → n ≡ length bytes → m ≡ sets out 0 bytes
      → (record { answer = 0; length = n }, m) ≡ printed bytes out
  unfolding printed
  all_printed h e f =
      let fits : 0 + length bytes ≤ length out = omega arith in
      let after : 0 + length bytes ≡ length bytes = omega arith in
      rw (asked _ _ 25 _ [] (le-leb (length bytes) (length out) h), none_asked, e, f, sets-eq bytes out 0 fits, after)
