-- A script past a record: what the record did, and what is left to tell behind it.
use mathlib.Core.Path.{◌≡◌, refl, sym, ap, ◌∙◌}
use mathlib.Core.Bool.{Bool, true, false}
use mathlib.Core.List.{List, [], ◌∷◌, ◌++◌, append_assoc, append-nil}
use Prim.Native.Nat.{ℕ, zero, suc, ◌+◌, ◌-◌, ◌*◌, ◌≤◌, ◌<◌}
use native.Mathlib.Numerals.{add-one}
use native.Mathlib.Omega.{arith}
use borrow.Author.Tests.{leb-true, ltb-true}
use lib.Dec.{ltb}
use lib.ListN.{length, take, drop, set, get_or, replicate, length-append, length-drop}
use lib.Seq.{drop-drop, length-take-le, take-suc-set}
use Rattle.std.specs.Prelude.{Option, Result, Ok, Err}
use Rattle.answer.specs.Ask.{reply, first_no}
use Rattle.answer.proofs.Bools.{and_parts}
use Rattle.answer.proofs.Asked.{reply-keeps, reply_ap, answered, all_yes, some_no}
use Rattle.lists.specs.Arrays.{pad}
use Rattle.lists.specs.Bytes.{byte_at}
use Rattle.lists.proofs.Padding.{pad_none, pad_snoc, pad-length}
use Rattle.rehearsal.specs.Records.{is_kind, kind_of, size_of, record_of, reading_questions, record_at}
use Rattle.switch.specs.declared.Switch.{Switch}
use Rattle.controller.specs.declared.Controller.{Controller}
use Rattle.rehearsal.specs.Effects.{no_switch, no_controller, place_of, switch_of, record_questions, with_ends}
use Rattle.rehearsal.specs.Deeds.{share_in, carried_but, plain_deed, broken_deed, deed_by}
use Rattle.rehearsal.specs.Deeds.{controller_in, switch_in, made_in, moved_in, deed_in}
use Rattle.rehearsal.specs.Deeds.{Tale, first, record_deeds, next_deeds, deeds_from, told_by}
use Rattle.rehearsal.specs.Storing.{turn_of}
use Rattle.rehearsal.specs.declared.Deed.{Deed}
use Rattle.rehearsal.specs.declared.Kind.{Kind}
use Rattle.rehearsal.specs.declared.Kind.TheVariants.{Decide, Send, Report, Raw, Keep, Deliver}
use Rattle.rehearsal.specs.declared.Moved.{Moved}
use Rattle.rehearsal.specs.declared.Place.{Place}
use Rattle.rehearsal.specs.declared.Record.{Record}
use Rattle.rehearsal.specs.declared.Share.{Share}
use Rattle.rehearsal.specs.declared.World.{World}
use Rattle.rehearsal.proofs.Making.{get_d_any}

-- no record is shorter than two bytes
pub two_or_more : (kind : Kind) → 2 ≤ size_of kind
two_or_more Decide = omega arith
two_or_more Send = omega arith
two_or_more Report = omega arith
two_or_more Raw = omega arith
two_or_more Keep = omega arith
two_or_more Deliver = omega arith

-- a record that is found is whole
abbrev pub Whole : List ℕ → Result Record ℕ → Type 0
Whole b (Ok r) = size_of r.kind ≤ length b
Whole b (Err k) = Unit {0}

kind-kept : (kind : Kind) (b : List ℕ) → (record_of kind b).kind ≡ kind
kind-kept Decide b = refl
kind-kept Send b = refl
kind-kept Report b = refl
kind-kept Raw b = refl
kind-kept Keep b = refl
kind-kept Deliver b = refl

-- the last of the three questions that a record is read by
last_yes : (a b c : Bool) → first_no ((30, a) ∷ (31, b) ∷ (30, c) ∷ []) ≡ 0 → c ≡ true
unfolding reply
last_yes false b c e = absurd (omega arith)
last_yes true false c e = absurd (omega arith)
last_yes true true false e = absurd (omega arith)
last_yes true true true e = refl

pub whole : (b : List ℕ) → Whole b (record_at b)
unfolding record_at
whole b =
    let kind = kind_of (byte_at b 0) in
    reply-keeps (Whole b) (reading_questions b) Err (Ok (record_of kind b)) (λ k. tt)
    (λ pass. rw (kind-kept kind b) (leb-true _ _ (last_yes (ltb 0 (length b)) (is_kind (byte_at b 0)) _ pass)))

pub found_whole : (b : List ℕ) (r : Record) → record_at b ≡ Ok r → size_of r.kind ≤ length b
found_whole b r e = rw e at (whole b)

-- what a record that passed its questions names
pub record Named (n : ℕ) (r : Record) (p : Place) : Type 0 where
  pub controller : r.controller < n
  pub switch : switch_of r.kind r p < 16
  pub place : r.place < 64

pub named : (n : ℕ) (r : Record) (p : Place) → first_no (record_questions n r p) ≡ 0 → Named n r p
named n r p passed =
    let yes-to = answered (record_questions n r p) refl passed in
    record {
      controller = ltb-true _ _ (and_parts (ltb r.controller n) _ (yes-to 12)).0;
      switch = ltb-true _ _ (yes-to 26);
      place = ltb-true _ _ (yes-to 29);
    }

-- a record with its bytes in a world: one that is refused before anything is made or delivered, and one that is carried
-- out
module _ (d : Option ℕ) (w : World) (r : Record) (bytes : List ℕ) {p : Place} (there : p ≡ place_of w r) {j : ℕ}
    (which : j ≡ switch_of r.kind r p) {l : Deed} where
  pub refused_turn : {q : ℕ} → q ≡ first_no (record_questions w.n r p) → (q ≡ 0 → ⊥) → l ≡ plain_deed true r j q
      → (l, w) ≡ turn_of d w r bytes
  unfolding turn_of
  refused_turn {q} asks failed says =
      let asked : q ≡ first_no (record_questions w.n r (place_of w r)) = asks ∙ rw there in
      ap (λ (x : Deed). (x, w)) (says ∙ rw (which, there, asked))
      ∙ sym (some_no (record_questions w.n r (place_of w r)) _ _ (λ z. failed (asked ∙ z)))

  -- c and t stand where a world has nothing: what a record names is there
  pub carried_turn : first_no (record_questions w.n r p) ≡ 0 → w.n ≤ 16 → length w.switches ≡ 16
      → length w.controllers ≡ 16 → (c : Controller) (t : Switch) {made : Result Share ℕ}
      → made ≡ share_in (get_or w.controllers r.controller c) p r.kind r bytes → {m : Moved}
      → m ≡ carried_but d (get_or w.controllers r.controller c) (get_or w.switches j t) p w.n r.kind r made
      → l ≡ deed_by r j (get_or w.controllers r.controller c) (get_or w.switches j t) made m
      → (l, with_ends w r.controller j r.place m) ≡ turn_of d w r bytes
  unfolding turn_of
  carried_turn passed few switches controllers c t {made} makes {m} does says =
      let names = named w.n r p passed in
      let its-controller : get_or w.controllers r.controller c ≡ controller_in w r =
      get_d_any w.controllers r.controller c no_controller (omega (arith, names.controller)) in
      let its-switch : get_or w.switches j t ≡ switch_in w r =
      rw which (get_d_any w.switches (switch_of r.kind r p) t no_switch (omega (arith, names.switch)) ∙ rw there) in
      let is_made_lem : made ≡ made_in w r bytes = makes ∙ rw (its-controller, there) in
      let is-moved : m ≡ moved_in d w r bytes = does ∙ rw (is_made_lem, its-controller, its-switch, there) in
      let is-deed : l ≡ deed_in d w r bytes =
      says ∙ rw (is-moved, is_made_lem, its-controller, its-switch, which, there) in
      rw (is-deed, is-moved, which, there)
      (sym (all_yes (record_questions w.n r (place_of w r)) _ _ refl (rw (← there) passed)))

-- a turn keeps the number of controllers
pub turn_n : (d : Option ℕ) (w : World) (r : Record) (bytes : List ℕ) {l : Deed} {next : World}
    → (l, next) ≡ turn_of d w r bytes → next.n ≡ w.n
unfolding turn_of
turn_n d w r bytes does =
    ap (λ (t : Deed × World). t.1.n) does
    ∙ reply-keeps (λ (t : Deed × World). t.1.n ≡ w.n) (record_questions w.n r (place_of w r)) _ _ (λ q. refl)
    (λ pass. refl)

module _ (d : Option ℕ) where
  -- bytes that are passed over
  passed_over : (skip : ℕ) (s : List ℕ) (w : World) → deeds_from d skip s w ≡ deeds_from d 0 (drop skip s) w
  unfolding deeds_from
  passed_over zero s w = refl
  passed_over (suc skip) [] w = refl
  passed_over (suc skip) (x ∷ s) w = passed_over skip s w

  -- the deeds of what stands at the front of bytes
  deeds_at : (rest : List ℕ) (w : World) → 0 < length rest
      → deeds_from d 0 rest w
      ≡ next_deeds d w (record_at rest) rest (λ skip next. deeds_from d skip (drop 1 rest) next)
  unfolding deeds_from
  deeds_at [] w h = absurd (omega arith)
  deeds_at (x ∷ xs) w h = refl

  -- behind a record of a kind
  behind : (kind : Kind) (rest : List ℕ) (w : World)
      → deeds_from d (size_of kind - 1) (drop 1 rest) w ≡ deeds_from d 0 (drop (size_of kind) rest) w
  behind kind rest w =
      let e : 1 + (size_of kind - 1) ≡ size_of kind = omega (arith, two_or_more kind) in
      passed_over (size_of kind - 1) (drop 1 rest) w
      ∙ ap (λ (s : List ℕ). deeds_from d 0 s w) (drop-drop (size_of kind - 1) 1 rest)
      ∙ ap (λ (n : ℕ). deeds_from d 0 (drop n rest) w) e

  record_told : (w : World) (r : Record) (bytes : List ℕ) (more : World → Tale)
      → record_deeds d w r bytes more ≡ first (turn_of d w r bytes).0 (more (turn_of d w r bytes).1)
  unfolding turn_of
  record_told w r bytes more =
      sym (reply_ap (λ (t : Deed × World). first t.0 (more t.1)) (record_questions w.n r (place_of w r)) _ _)

  -- the deed of a record, and what is left to tell behind it
  turned : (rest : List ℕ) (w : World) (r : Record) → 0 < length rest → record_at rest ≡ Ok r → {l : Deed}
      {next : World} → (l, next) ≡ turn_of d w r (take (size_of r.kind) rest)
      → deeds_from d 0 rest w ≡ first l (deeds_from d 0 (drop (size_of r.kind) rest) next)
  turned rest w r here is {l} {next} does =
      let bytes : List ℕ = take (size_of r.kind) rest in
      deeds_at rest w here
      ∙ rw is (record_told w r bytes (λ (v : World). deeds_from d (size_of r.kind - 1) (drop 1 rest) v))
      ∙ ap (λ (t : Deed × World). first t.0 (deeds_from d (size_of r.kind - 1) (drop 1 rest) t.1)) (sym does)
      ∙ ap (first l) (behind r.kind rest next)

-- deeds in front of others
abbrev joined : List Deed → Tale → Tale
joined xs t = (xs ++ t.0, t.1)

-- what the loop has told so far: `count` deeds stand in their places, and the others follow from the bytes that are
-- left and the world as it is
pub record SoFar (d : Option ℕ) (s : List ℕ) (before w : World) (places : List Deed) (count : ℕ) (rest : List ℕ) : Type 0
  where
    pub few : 2 * count + length rest ≤ length s
    pub same-n : w.n ≡ before.n
    pub padded : places ≡ pad 4096 (broken_deed 0) (take count places)
    pub told : deeds_from d 0 s before ≡ joined (take count places) (deeds_from d 0 rest w)

module _ (d : Option ℕ) (s : List ℕ) (before w : World) (places : List Deed) (count : ℕ) (rest : List ℕ)
    (short : length s ≤ 8192) (so_far : SoFar d s before w places count rest) where
  long : length places ≡ 4096
  long = ap length so_far.padded ∙ pad-length 4096 (broken_deed 0) (take count places)

  -- a deed is stored in the next place
  stored : 0 < length rest → (l : Deed) → take (count + 1) (set places count l) ≡ take count places ++ l ∷ []
  stored h l = rw add-one (take-suc-set places count l (omega (arith, long, so_far.few)))

  store_padded : 0 < length rest → (l : Deed)
      → set places count l ≡ pad 4096 (broken_deed 0) (take (count + 1) (set places count l))
  store_padded h l =
      let used : length (take count places) ≡ count = length-take-le count places (omega (arith, long, so_far.few)) in
      ap (λ (p : List Deed). set p count l) so_far.padded
      ∙ ap (λ (i : ℕ). set (pad 4096 (broken_deed 0) (take count places)) i l) (sym used)
      ∙ pad_snoc 4096 (broken_deed 0) (take count places) l
      ∙ ap (pad 4096 (broken_deed 0)) (sym (stored h l))

  -- a turn at a record: its deed is told, and the rest follows from the world after it
  pub next_turn : (r : Record) → 0 < length rest → record_at rest ≡ Ok r → {size : ℕ} → size ≡ size_of r.kind
      → {bytes behind : List ℕ} → bytes ≡ take size rest → behind ≡ drop size rest → {l : Deed} {next : World}
      → (l, next) ≡ turn_of d w r bytes → SoFar d s before next (set places count l) (count + 1) behind
  next_turn r here is {size} sized {bytes} {behind} front back {l} {next} does =
      let its : (l, next) ≡ turn_of d w r (take (size_of r.kind) rest) =
      does ∙ ap (turn_of d w r) (front ∙ ap (λ (n : ℕ). take n rest) sized) in
      let left : length behind ≡ length rest - size = ap length back ∙ length-drop size rest in
      record {
        few = omega (arith, so_far.few, left, sized, found_whole rest r is, two_or_more r.kind);
        same-n = turn_n d w r bytes does ∙ so_far.same-n;
        padded = store_padded here l;
        told = so_far.told ∙ after its;
      }
    where
      after : (l, next) ≡ turn_of d w r (take (size_of r.kind) rest)
          → joined (take count places) (deeds_from d 0 rest w)
          ≡ joined (take (count + 1) (set places count l)) (deeds_from d 0 behind next)
      after its =
          let more = deeds_from d 0 (drop (size_of r.kind) rest) next in
          let lies : behind ≡ drop (size_of r.kind) rest = back ∙ ap (λ (n : ℕ). drop n rest) sized in
          rw (turned d rest w r here is its, stored here l, lies)
          (ap (λ (xs : List Deed). (xs, more.1)) (sym (append_assoc (take count places) (l ∷ []) more.0)))

  -- deeds that are all told stand in their array
  stored_all : (ds : List Deed) (last : World) (p : List Deed) (n : ℕ) → deeds_from d 0 s before ≡ (ds, last)
      → p ≡ pad 4096 (broken_deed 0) ds → n ≡ length ds
      → record { answer = 0; deeds = p; count = n; world = last } ≡ told_by 0 (deeds_from d 0 s before)
  stored_all ds last p n e is k = rw (e, is, k)

  -- the run stops at a record that is refused
  pub stops : 0 < length rest → {q : ℕ} → record_at rest ≡ Err q → {l : Deed} → l ≡ broken_deed q
      → record { answer = 0; deeds = set places count l; count = count + 1; world = w }
      ≡ told_by 0 (deeds_from d 0 s before)
  stops h {q} e {l} says =
      let last : deeds_from d 0 rest w ≡ (l ∷ [], w) = deeds_at d rest w h ∙ rw (e, says) in
      let size : count + 1 ≡ length (take (count + 1) (set places count l)) =
      rw (stored h l, length-append, length-take-le count places (omega (arith, long, so_far.few))) in
      stored_all (take (count + 1) (set places count l)) w (set places count l) (count + 1)
      (so_far.told ∙ rw (last, stored h l)) (store_padded h l) size

  -- nothing is left
  pub ends : length rest ≡ 0
      → record { answer = 0; deeds = places; count = count; world = w } ≡ told_by 0 (deeds_from d 0 s before)
  unfolding deeds_from
  ends h =
      let none : rest ≡ [] = nothing rest h in
      stored_all (take count places) w places count
      (so_far.told ∙ rw none (ap (λ (xs : List Deed). (xs, w)) (append-nil (take count places)))) so_far.padded
      (sym (length-take-le count places (omega (arith, long, so_far.few))))
    where
      nothing : (l : List ℕ) → length l ≡ 0 → l ≡ []
      nothing [] e = refl
      nothing (x ∷ l) e = absurd (omega arith)

-- before the first record
pub starts : (d : Option ℕ) (s : List ℕ) (w : World) {places : List Deed} → places ≡ replicate 4096 (broken_deed 0)
    → SoFar d s w w places 0 s
starts d s w none = record {
  few = omega arith;
  same-n = refl;
  padded = none ∙ sym (pad_none 4096 (broken_deed 0));
  told = refl;
}
