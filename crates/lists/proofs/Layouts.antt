-- Layouts of fields: their bytes, fields put one after another into a part of a frame, and a field read from its place.
-- Assumes nothing.
use mathlib.Core.Path.{◌≡◌, refl, sym, ap, ap₂, ◌∙◌}
use mathlib.Core.List.{List, [], ◌∷◌, ◌++◌, append_assoc, append-nil}
use Prim.Native.Nat.{ℕ, ◌+◌, ◌/◌, ◌%◌, ◌^◌, ◌≤◌, ◌<◌}
use native.Mathlib.Omega.{arith}
use lib.ListN.{length, take, drop, length-append}
use lib.Seq.{sets, take_at, drop_at}
use Rattle.lists.specs.Bytes.{be, num, field}
use Rattle.lists.specs.Fields.{Field, laid_out, width_of}
use Rattle.lists.specs.Frames.{placed_whole}
use Rattle.lists.proofs.Numbers.{length-be, num-be, be_split, be_one}
use Rattle.lists.proofs.Runs.{sets_append, sets_swap}
use Rattle.lists.proofs.Frames.{Filled, put-behind}

pub laid_length : (fs : List Field) → length (laid_out fs) ≡ width_of fs
unfolding laid_out
laid_length [] = refl
laid_length (f ∷ fs) =
    length-append (be f.0 f.1) (laid_out fs)
    ∙ ap₂ (λ (a b : ℕ). a + b) (length-be f.0 f.1) (laid_length fs)

pub width_append : (fs gs : List Field) → width_of (fs ++ gs) ≡ width_of fs + width_of gs
width_append [] gs = omega arith
width_append (f ∷ fs) gs = omega (arith, width_append fs gs)

pub laid_append : (fs gs : List Field) → laid_out (fs ++ gs) ≡ laid_out fs ++ laid_out gs
unfolding laid_out
laid_append [] gs = refl
laid_append (f ∷ fs) gs =
    ap (λ (l : List ℕ). be f.0 f.1 ++ l) (laid_append fs gs)
    ∙ sym (append_assoc (be f.0 f.1) (laid_out fs) (laid_out gs))

laid_one : (k x : ℕ) → laid_out ((k, x) ∷ []) ≡ be k x
unfolding laid_out
laid_one k x = append-nil (be k x)

-- a part that has the bytes of fields from an offset on, and is otherwise as it was
pub record Laid (p : List ℕ) (at : ℕ) (fs : List Field) (m : List ℕ) : Type 0 where
  pub is : m ≡ sets p at (laid_out fs)

pub none_laid : (p : List ℕ) (at : ℕ) → Laid p at [] p
unfolding laid_out
none_laid p at = record { is = refl }

module _ {p : List ℕ} {at : ℕ} {fs : List Field} {m n : List ℕ} where
  -- other fields behind them
  pub then_laid : (gs : List Field) (k : ℕ) → Laid p at fs m → k ≡ at + width_of fs → n ≡ sets m k (laid_out gs)
      → Laid p at (fs ++ gs) n
  then_laid gs k before e put =
      let place : k ≡ at + length (laid_out fs) = e ∙ ap (λ (i : ℕ). at + i) (sym (laid_length fs)) in
      record {
        is =
            put ∙ ap₂ (λ (l : List ℕ) (i : ℕ). sets l i (laid_out gs)) before.is place
            ∙ sym (sets_append p at (laid_out fs) (laid_out gs)) ∙ ap (sets p at) (sym (laid_append fs gs));
      }

  -- a field behind them, and one of a byte
  pub field_put : (j x k : ℕ) → Laid p at fs m → k ≡ at + width_of fs → k + j ≤ length p
      → n ≡ placed_whole (be j x) m k → Laid p at (fs ++ (j, x) ∷ []) n
  field_put j x k before e fit put =
      let place : k ≡ at + length (laid_out fs) = e ∙ ap (λ (i : ℕ). at + i) (sym (laid_length fs)) in
      let filled : Filled p at (laid_out fs) m = record { is = before.is } in
      let behind = put-behind (be j x) k filled place (rw (length-be j x) fit) put in
      record {
        is =
            behind.is
            ∙ ap (sets p at) (ap (λ (l : List ℕ). laid_out fs ++ l) (sym (laid_one j x)) ∙ sym (laid_append fs ((j, x) ∷ [])));
      }

  pub byte_put : (x k : ℕ) → x < 256 → Laid p at fs m → k ≡ at + width_of fs → k + 1 ≤ length p
      → n ≡ placed_whole (x ∷ []) m k → Laid p at (fs ++ (1, x) ∷ []) n
  byte_put x k small before e fit put =
      field_put 1 x k before e fit (put ∙ ap (λ (w : List ℕ). placed_whole w m k) (sym (be_one x small)))

-- fields put before those that stand behind them
pub laid_behind : (p : List ℕ) (fs gs : List Field) (at k : ℕ) {m n : List ℕ} → k ≡ at + width_of fs
    → m ≡ sets p k (laid_out gs) → n ≡ sets m at (laid_out fs) → n ≡ sets p at (laid_out (fs ++ gs))
laid_behind p fs gs at k e behind front =
    let place : k ≡ at + length (laid_out fs) = e ∙ ap (λ (i : ℕ). at + i) (sym (laid_length fs)) in
    front ∙ ap (λ (l : List ℕ). sets l at (laid_out fs)) behind
    ∙ sets_swap p at k (laid_out fs) (laid_out gs) (omega (arith, place))
    ∙ ap (λ (i : ℕ). sets (sets p at (laid_out fs)) i (laid_out gs)) place
    ∙ sym (sets_append p at (laid_out fs) (laid_out gs)) ∙ ap (sets p at) (sym (laid_append fs gs))

-- a field as its two halves
pub laid_halves : (fs : List Field) (j k x : ℕ) (gs : List Field)
    → laid_out (fs ++ (j + k, x) ∷ gs) ≡ laid_out (fs ++ (j, x / 256 ^ k) ∷ (k, x % 256 ^ k) ∷ gs)
unfolding laid_out
laid_halves [] j k x gs =
    ap (λ (l : List ℕ). l ++ laid_out gs) (be_split j k x) ∙ append_assoc (be j (x / 256 ^ k)) (be k (x % 256 ^ k)) _
laid_halves (f ∷ fs) j k x gs = ap (λ (l : List ℕ). be f.0 f.1 ++ l) (laid_halves fs j k x gs)

-- a field is read from its place
pub field_laid : (fs : List Field) (k x : ℕ) (gs : List Field) → x < 256 ^ k
    → field (laid_out (fs ++ (k, x) ∷ gs)) (width_of fs) k ≡ x
unfolding laid_out field
field_laid fs k x gs h =
    ap (λ (l : List ℕ). num (take k (drop (width_of fs) l))) (laid_append fs ((k, x) ∷ gs))
    ∙ ap (λ (l : List ℕ). num (take k l)) (drop_at (laid_out fs) _ (width_of fs) (laid_length fs))
    ∙ ap num (take_at (be k x) (laid_out gs) k (length-be k x)) ∙ num-be k x h
