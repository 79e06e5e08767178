-- The FLOW_MODs of rules put one after another: how long they are, and what the loops over the rules have done so far.
use mathlib.Core.Path.{◌≡◌, refl, sym, ap, ◌∙◌}
use mathlib.Core.Bool.{Bool, true, false}
use mathlib.Core.List.{List, [], ◌∷◌, ◌++◌, append_assoc, append-nil}
use Prim.Native.Nat.{ℕ, ◌+◌, ◌*◌, ◌≤◌, ◌<◌}
use native.Mathlib.Numerals.{add-one}
use native.Mathlib.Omega.{arith}
use borrow.Author.Tests.{le-leb, lt-leb}
use lib.Dec.{leb}
use lib.ListN.{length, take, drop, get_or, length-append, length-take, take-append-drop}
use lib.Seq.{sets-eq, length-sets, take-suc, take_all}
use Rattle.std.specs.List.{list_all}
use Rattle.answer.proofs.Asked.{none_asked, refused, asked}
use Rattle.lists.specs.Arrays.{every}
use Rattle.lists.specs.Frames.{placed, placed_whole}
use Rattle.lists.proofs.Frames.{Filled, nothing_put, put-behind}
use Rattle.lists.proofs.Tails.{every_at}
use Rattle.flow.specs.Rules.{well_formed}
use Rattle.openflow.specs.FlowMods.{length_of, bytes_of}
use Rattle.openflow.specs.Writing.{flow_mod_written}
use Rattle.openflow.specs.declared.Written.{Written}
use Rattle.openflow.proofs.Lengths.{bytes-length, length_most}
use Rattle.openflow.proofs.Frames.{done, refusal, all_written}
use Rattle.switch.specs.declared.Slot.{Slot}
use Rattle.feed.specs.Mods.{is_formed, mods_of, mods_written}

-- at most 96 bytes each
pub mods_few : (xs : List Slot) → length (mods_of xs) ≤ 96 * length xs
unfolding mods_of
mods_few [] = omega arith
mods_few (x ∷ xs) =
    rw length-append (omega (arith, length_most x.rule, bytes-length x.number x.rule, mods_few xs))

mods_append : (xs ys : List Slot) → mods_of (xs ++ ys) ≡ mods_of xs ++ mods_of ys
unfolding mods_of
mods_append [] ys = refl
mods_append (x ∷ xs) ys =
    let bytes = bytes_of x.number x.rule in
    ap (λ (l : List ℕ). bytes ++ l) (mods_append xs ys) ∙ sym (append_assoc bytes (mods_of xs) (mods_of ys))

-- the first i of some rules have no more bytes than all
mods_within : (i : ℕ) (xs : List Slot) → length (mods_of (take i xs)) ≤ length (mods_of xs)
mods_within i xs =
    let parts = ap mods_of (sym (take-append-drop i xs)) ∙ mods_append (take i xs) (drop i xs) in
    omega (arith, ap length parts ∙ length-append (mods_of (take i xs)) (mods_of (drop i xs)))

-- the library's test of every element
pub list_all-every : {A : Type 0} (f : A → Bool) (l : List A) → list_all f l ≡ every f l
unfolding every
list_all-every f [] = refl
list_all-every f (x ∷ l) = rw (list_all-every f l)

-- the loop that puts: the FLOW_MODs of the first i stand at the start of the output p, which is m now
pub record Put (rules : List Slot) (p : List ℕ) (i at : ℕ) (m : List ℕ) : Type 0 where
  pub is : at ≡ length (mods_of (take i rules))
  pub filled : Filled p 0 (mods_of (take i rules)) m

module _ (rules : List Slot) where
  -- one more of them
  one_more : (i : ℕ) → i < length rules → (x : Slot)
      → mods_of (take (i + 1) rules) ≡ mods_of (take i rules) ++ bytes_of (get_or rules i x).number (get_or rules i x).rule
  unfolding mods_of
  one_more i h x =
      let y = get_or rules i x in
      rw (add-one, take-suc rules i x (omega arith), mods_append (take i rules) (y ∷ []))
      (ap (λ (l : List ℕ). mods_of (take i rules) ++ l) (append-nil (bytes_of y.number y.rule)))

  -- a turn of the loop that measures: the bytes of one more, and how many there are at most
  pub next_measured : {i total : ℕ} → total ≡ length (mods_of (take i rules)) → i < length rules → (x : Slot) {n : ℕ}
      → n ≡ length_of (get_or rules i x).rule
      → (total + n ≤ 96 * (i + 1)) × (total + n ≡ length (mods_of (take (i + 1) rules)))
  next_measured {i} {total} before h x {n} e =
      let y = get_or rules i x in
      let bytes = bytes_of y.number y.rule in
      let more = ap length (one_more i h x) ∙ length-append (mods_of (take i rules)) bytes in (
        omega (arith, before, mods_few (take i rules), length-take i rules, length_most y.rule),
        omega (arith, more, before, bytes-length y.number y.rule),
      )

  -- turns of the loop that puts
  module _ (formed : every is_formed rules ≡ true) (p : List ℕ)
      (room : length (mods_of rules) ≤ length p) where
    pub none_put : Put rules p 0 0 p
    unfolding mods_of
    none_put = record { is = refl; filled = nothing_put p 0 }

    module _ {i at : ℕ} {m : List ℕ} (before : Put rules p i at m) where
      pub put-length : length m ≡ length p
      put-length = ap length before.filled.is ∙ length-sets p 0 (mods_of (take i rules))

      -- a turn: it fits, and is put behind the others
      module _ (h : i < length rules) (z : Slot) {w : Written} {n : List ℕ}
          (says : (w, n) ≡ flow_mod_written (get_or rules i z).number (get_or rules i z).rule m at) where
        abbrev slot : Slot
        slot = get_or rules i z

        abbrev bytes : List ℕ
        bytes = bytes_of slot.number slot.rule

        up_to : length (mods_of (take i rules)) + length bytes ≤ length p
        up_to =
            let more = ap length (one_more i h z) ∙ length-append (mods_of (take i rules)) bytes in
            omega (arith, more, mods_within (i + 1) rules)

        fits : at + length_of slot.rule ≤ length m
        fits = omega (arith, up_to, before.is, bytes-length slot.number slot.rule, put-length)

        well : well_formed slot.rule ≡ true
        well = every_at is_formed rules i z formed h

        wrote : ◌≡◌ {A = Written × List ℕ} (w, n) (done slot.rule, placed bytes m at)
        wrote = says ∙ all_written slot.number slot.rule m at well fits

        pub wrote-length : w.length ≡ length_of slot.rule
        wrote-length = ap (λ (r : Written × List ℕ). r.0.length) wrote

        pub wrote-within : at + w.length ≤ length p
        wrote-within = omega (arith, fits, wrote-length, put-length)

        pub next-put : Put rules p (i + 1) (at + w.length) n
        next-put =
            let size = bytes-length slot.number slot.rule in
            let long = wrote-length in
            let more = ap length (one_more i h z) ∙ length-append (mods_of (take i rules)) bytes in
            let start : at ≡ 0 + length (mods_of (take i rules)) = omega (arith, before.is) in
            let there : leb (at + length bytes) (length m) ≡ true =
            le-leb (at + length bytes) (length m) (omega (arith, fits)) in
            let placing : n ≡ placed_whole bytes m at = ap (λ (r : Written × List ℕ). r.1) wrote ∙ rw there in
            record {
              is = omega (arith, more, before.is);
              filled = rw (one_more i h z) (put-behind bytes at before.filled start (omega (arith, up_to)) placing);
            }

      pub all_put : length rules ≤ i → m ≡ mods_of rules ++ drop (length (mods_of rules)) p
      all_put h =
          let zero : 0 + length (mods_of rules) ≡ length (mods_of rules) = omega arith in
          let is = rw (take_all i rules h) at before.filled.is in
          is ∙ sets-eq (mods_of rules) p 0 (omega arith) ∙ rw zero

-- what is written, by the first question whose answer is no
module _ (xs : List Slot) (out : List ℕ) where
  pub mods_malformed : every is_formed xs ≡ false → mods_written xs out ≡ (refusal 15, out)
  unfolding mods_written
  mods_malformed bad = refused _ _ 15 _ _ bad

  module _ (formed : every is_formed xs ≡ true) where
    pub mods_long : length out < length (mods_of xs) → mods_written xs out ≡ (refusal 25, out)
    unfolding mods_written
    mods_long long = asked _ _ 15 _ _ formed ∙ refused _ _ 25 _ _ (lt-leb _ _ long)

    pub mods_whole : length (mods_of xs) ≤ length out
        → mods_written xs out
        ≡ (
          record { answer = 0; length = length (mods_of xs) },
          mods_of xs ++ drop (length (mods_of xs)) out,
        )
    unfolding mods_written
    mods_whole fits = asked _ _ 15 _ _ formed ∙ asked _ _ 25 _ _ (le-leb _ _ fits) ∙ none_asked _ _

    pub mods_done : length (mods_of xs) ≤ length out → {size : ℕ} {now : List ℕ} → size ≡ length (mods_of xs)
        → now ≡ mods_of xs ++ drop (length (mods_of xs)) out
        → ◌≡◌ {A = Written × List ℕ} (record { answer = 0; length = size }, now) (mods_written xs out)
    mods_done fits long is = rw (long, is) (sym (mods_whole fits))
