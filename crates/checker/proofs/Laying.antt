-- The agreed changes laid out: a change put behind those that there are, also where there is no room; the changes of a
-- plan; and one decision more, which takes a course laid out to the next one laid out. Assumes nothing.
use mathlib.Core.Path.{◌≡◌, refl, sym, ap, ◌∙◌}
use mathlib.Core.Bool.{true, false}
use mathlib.Core.List.{List, [], ◌∷◌, ◌++◌, map, append_assoc, append-nil}
use Prim.Native.Nat.{ℕ, zero, suc, ◌+◌, ◌*◌, ◌/◌, ◌≤◌, ◌<◌}
use native.Mathlib.Numerals.{add-one}
use native.Mathlib.Omega.{arith}
use lib.ListN.{length, get_or, take, drop, set, replicate, length-append, length-map}
use lib.Seq.{length-take-le}
use Rattle.std.proofs.lemmas.List.{map-append}
use borrow.Author.Tests.{lt-ltb, le-ltb, le-leb, lt-leb}
use Rattle.answer.specs.Ask.{reply}
use Rattle.answer.proofs.Asked.{none_asked, refused, asked, reply_ap}
use Rattle.answer.proofs.Bools.{by_le}
use Rattle.lists.specs.Arrays.{pad}
use Rattle.lists.specs.Bytes.{num, byte_at}
use Rattle.lists.proofs.Numbers.{field_four}
use Rattle.lists.proofs.Padding.{pad_none, pad_snoc}
use Rattle.lists.proofs.Stores.{take_next}
use Rattle.playbook.specs.Plans.{changes_for}
use Rattle.playbook.specs.Storing.{stored_ok}
use Rattle.playbook.specs.declared.Change.{Change}
use Rattle.playbook.specs.declared.Plan.{Plan}
use Rattle.playbook.specs.declared.Playbook.{Playbook}
use Rattle.controller.specs.Changes.{numbered, numbered_from}
use Rattle.controller.specs.Decisions.{given, agreement_questions}
use Rattle.controller.specs.declared.Undone.{Undone}
use Rattle.controller.proofs.Numbering.{given-length}
use Rattle.controller.proofs.Planned.{Listed}
use Rattle.domain.specs.Settings.{Decision}
use Rattle.domain.specs.Agreement.{beginning, onward, along, agreed_changes}
use Rattle.domain.specs.Agreement as agreement
use Rattle.domain.proofs.Courses.{along-append, along-book, agreed-few}
use Rattle.checker.specs.Layout.{listed_from, no_change}
use Rattle.checker.specs.Agreeing.{decision_at, decisions_in, laid_as, agreed_of}
use Rattle.checker.specs.Agreeing.{laid_from, put_at, laid_with, course_with}
use Rattle.checker.specs.declared.AgreedChange.{AgreedChange}
use Rattle.checker.specs.declared.Course.{Course}

-- a change put at a place, or nothing where there is no room
pub put_in : (laid : List AgreedChange) (at first : ℕ) (c : Change) → at < 256
    → set laid at (laid_from first c) ≡ put_at laid at first c
put_in laid at first c h = rw (lt-ltb at 256 h)

pub put_out : (laid : List AgreedChange) (at first : ℕ) (c : Change) → 256 ≤ at → laid ≡ put_at laid at first c
put_out laid at first c h = rw (le-ltb at 256 h)

-- changes laid out: none, and one more at the end
pub laid_none : (laid : List AgreedChange) (at first : ℕ) → laid_with laid at first [] ≡ laid
unfolding laid_with
laid_none laid at first = refl

laid_snoc : (laid : List AgreedChange) (at first : ℕ) (cs : List Change) (c : Change)
    → laid_with laid at first (cs ++ c ∷ []) ≡ put_at (laid_with laid at first cs) (at + length cs) first c
unfolding laid_with
laid_snoc laid at first [] c = let e : at + 0 ≡ at = omega arith in rw e
laid_snoc laid at first (d ∷ cs) c =
    let e : at + suc (length cs) ≡ at + 1 + length cs = omega arith in
    rw e (laid_snoc (put_at laid at first d) (at + 1) first cs c)

-- a turn of the loop that lays out listed changes
pub laid_turn : (laid : List AgreedChange) (at first : ℕ) (listed : List Change) (i : ℕ) (z : Change)
    → {out next : List AgreedChange} → i < length listed → out ≡ laid_with laid at first (take i listed)
    → next ≡ put_at out (at + i) first (get_or listed i z)
    → next ≡ laid_with laid at first (take (i + 1) listed)
laid_turn laid at first listed i z h e f =
    let n : length (take i listed) ≡ i = length-take-le i listed (omega arith) in
    f
    ∙ sym (ap (laid_with laid at first) (take_next listed i z h)
    ∙ laid_snoc laid at first (take i listed) (get_or listed i z) ∙ rw (n, ← e))

-- what an array that is full does not hold
pad_full : {A : Type 0} (n : ℕ) (z : A) (l more : List A) → n ≤ length l → pad n z l ≡ pad n z (l ++ more)
unfolding pad
pad_full zero z l more h = refl
pad_full (suc n) z [] more h = absurd (omega arith)
pad_full (suc n) z (x ∷ l) more h = ap (λ (m : List _). x ∷ m) (pad_full n z l more (omega arith))

-- one more, and the changes of a plan, also past the last place
abbrev pub laid_array : List Undone → List AgreedChange
laid_array us = pad 256 no_change (map laid_as us)

put-behind : (us : List Undone) (first number : ℕ) (c : Change)
    → put_at (laid_array us) (length us) first c ≡ laid_array (us ++ numbered first number c ∷ [])
put-behind us first number c =
    let u = numbered first number c in
    let more : map laid_as (us ++ u ∷ []) ≡ map laid_as us ++ laid_as u ∷ [] = map-append laid_as us (u ∷ []) in
    let n : length (map laid_as us) ≡ length us = length-map us laid_as in
    by_le 256 (length us)
    (λ h. sym (put_out (laid_array us) (length us) first c h)
    ∙ pad_full 256 no_change (map laid_as us) (laid_as u ∷ []) (omega arith) ∙ ap (pad 256 no_change) (sym more))
    (λ h. rw (lt-ltb (length us) 256 h)
    (ap (λ (k : ℕ). set (laid_array us) k (laid_as u)) (sym n)
    ∙ pad_snoc 256 no_change (map laid_as us) (laid_as u) ∙ ap (pad 256 no_change) (sym more)))

laid_behind : (us : List Undone) (first number : ℕ) (cs : List Change)
    → laid_with (laid_array us) (length us) first cs ≡ laid_array (us ++ numbered_from first number cs)
unfolding laid_with numbered_from
laid_behind us first number [] = ap laid_array (sym (append-nil us))
laid_behind us first number (c ∷ cs) =
    let u = numbered first number c in
    let n : length us + 1 ≡ length (us ++ u ∷ []) = sym (length-append us (u ∷ [])) in
    ap (λ (l : List AgreedChange). laid_with l (length us + 1) first cs) (put-behind us first number c)
    ∙ ap (λ (k : ℕ). laid_with (laid_array (us ++ u ∷ [])) k first cs) n
    ∙ laid_behind (us ++ u ∷ []) first (number + 1) cs
    ∙ ap laid_array (append_assoc us (u ∷ []) (numbered_from first (number + 1) cs))

-- one decision more, by its questions: of a switch that is not known, a serial that is not above the last, a plan for
-- whose changes there are no numbers left, and any other, whose plan's changes are laid out
module _ (p : Playbook) (c : Course) (s serial cause : ℕ) where
  abbrev Next : Course → Type 0
  Next r = r ≡ course_with p c s serial cause

  pub course_unknown : 16 ≤ s → Next c
  course_unknown h = sym (refused _ _ 12 _ _ (le-ltb s 16 h))

  module _ (known : s < 16) where
    pub course_old : serial ≤ get_or c.serials s 0 → Next c
    course_old h = sym (asked _ _ 12 _ _ (lt-ltb s 16 known) ∙ refused _ _ 22 _ _ (le-ltb _ _ h))

    module _ (above : get_or c.serials s 0 < serial) {q : Plan} (l : Listed p (s, cause) q) where
      -- a number for each change of the plan
      numbers : length (given p c.count (s, cause)) ≡ q.count
      numbers = given-length (c.count + 1) (c.count + 1) (changes_for p (s, cause)) ∙ l.counted

      pub course_exhausted : 4294967295 < c.count + q.count → Next c
      course_exhausted h =
          let more : 4294967295 < c.count + length (given p c.count (s, cause)) = omega (arith, numbers) in
          sym (asked _ _ 12 _ _ (lt-ltb s 16 known)
          ∙ asked _ _ 22 _ _ (lt-ltb _ _ above) ∙ refused _ _ 23 _ _ (lt-leb _ _ more))

      pub course_goes : {changes : List AgreedChange} → c.count + q.count ≤ 4294967295
          → changes ≡ laid_with c.changes c.count (c.count + 1) (take q.count (drop q.first p.changes))
          → Next (record { serials = set c.serials s serial; changes = changes; count = c.count + q.count })
      course_goes h e =
          let few : c.count + length (given p c.count (s, cause)) ≤ 4294967295 = omega (arith, numbers) in
          let laid = e ∙ ap (laid_with c.changes c.count (c.count + 1)) (sym l.changes) in
          rw (laid, ← numbers)
          (sym (asked _ _ 12 _ _ (lt-ltb s 16 known)
          ∙ asked _ _ 22 _ _ (lt-ltb _ _ above) ∙ asked _ _ 23 _ _ (le-leb _ _ few) ∙ none_asked _ _))

-- a course laid out
abbrev laid_course : agreement.Course → Course
laid_course a = record { serials = a.serials; changes = laid_array a.changes; count = length a.changes }

-- one decision more takes it to the next one laid out
course_next : (a : agreement.Course) (d : Decision)
    → course_with a.playbook (laid_course a) d.switch d.serial d.cause ≡ laid_course (agreement.advance a d)
course_next a d =
    let us = a.changes in
    let n = length us in
    let more = given a.playbook n (d.switch, d.cause) in
    let qs = agreement_questions a.serials n more d.switch d.serial in
    ap (λ (next : Course). reply qs (λ k. laid_course a) next)
    (λ i. record {
      serials = set a.serials d.switch d.serial;
      changes = laid_behind us (n + 1) (n + 1) (changes_for a.playbook (d.switch, d.cause)) i;
      count = sym (length-append us more) i;
    })
    ∙ sym (reply_ap laid_course qs (λ k. a) (onward a d))

-- the course of the first decisions in bytes, laid out
abbrev pub course_at : Playbook → List ℕ → ℕ → Course
course_at p bytes i = laid_course (along (beginning p) (listed_from (decision_at bytes) 0 i))

listed_snoc : (f : ℕ → Decision) (i n : ℕ) → listed_from f i (suc n) ≡ listed_from f i n ++ f (i + n) ∷ []
unfolding listed_from
listed_snoc f i zero = let e : i + 0 ≡ i = omega arith in rw e
listed_snoc f i (suc n) =
    let e : suc i + n ≡ i + suc n = omega arith in
    ap (λ (l : List Decision). f i ∷ l) (listed_snoc f (suc i) n) ∙ rw e

module _ (p : Playbook) (bytes : List ℕ) where
  pub course_begins : record { serials = replicate 16 0; changes = replicate 256 no_change; count = 0 } ≡ course_at p bytes 0
  unfolding listed_from
  course_begins = λ i. record { serials = replicate 16 0; changes = sym (pad_none 256 no_change) i; count = 0 }

  -- numbers fit four bytes
  pub course_few : (i : ℕ) → (course_at p bytes i).count ≤ 4294967295
  unfolding agreed_changes
  course_few i = agreed-few p (listed_from (decision_at bytes) 0 i)

  -- a turn of the loop over the decisions
  pub course_turn : (i : ℕ) {course next : Course} {serial : ℕ} → i < length bytes / 6 → course ≡ course_at p bytes i
      → serial ≡ num (byte_at bytes (i * 6 + 1) ∷ byte_at bytes (i * 6 + 2) ∷ byte_at bytes (i * 6 + 3)
      ∷ byte_at bytes (i * 6 + 4) ∷ [])
      → next ≡ course_with p course (byte_at bytes (i * 6)) serial (byte_at bytes (i * 6 + 5))
      → next ≡ course_at p bytes (i + 1)
  course_turn i {course} {next} {serial} h e f g =
      let ds = listed_from (decision_at bytes) 0 i in
      let a = along (beginning p) ds in
      let d = decision_at bytes i in
      let two : i * 6 + 1 + 1 ≡ i * 6 + 2 = omega arith in
      let three : i * 6 + 1 + 2 ≡ i * 6 + 3 = omega arith in
      let four : i * 6 + 1 + 3 ≡ i * 6 + 4 = omega arith in
      let serials : serial ≡ d.serial =
      f ∙ rw (two, three, four) at (field_four bytes (i * 6 + 1) (omega arith)) in
      let z : 0 + i ≡ i = omega arith in
      let more : listed_from (decision_at bytes) 0 (i + 1) ≡ ds ++ d ∷ [] =
      rw (add-one i) (listed_snoc (decision_at bytes) 0 i ∙ ap (λ (k : ℕ). ds ++ decision_at bytes k ∷ []) z) in
      g
      ∙ ap (λ (c : Course). course_with p c d.switch serial d.cause) e
      ∙ ap (λ (k : ℕ). course_with p (laid_course a) d.switch k d.cause) serials
      ∙ ap (λ (q : Playbook). course_with q (laid_course a) d.switch d.serial d.cause)
      (sym (along-book (beginning p) ds))
      ∙ course_next a d
      ∙ ap laid_course (sym (along-append (beginning p) ds (d ∷ [])))
      ∙ ap (λ (l : List Decision). laid_course (along (beginning p) l)) (sym more)

  -- what is answered, of a playbook that its reader would not store, and of any other
  pub agreed_none : stored_ok p ≡ false
      → record { answer = 20; changes = replicate 256 no_change; count = 0 } ≡ agreed_of p (decisions_in bytes)
  unfolding agreed_of
  agreed_none e = rw e

  pub agreed_all : stored_ok p ≡ true → {course : Course} → course ≡ course_at p bytes (length bytes / 6)
      → record { answer = 0; changes = course.changes; count = course.count } ≡ agreed_of p (decisions_in bytes)
  unfolding agreed_of agreed_changes
  agreed_all stored e = rw (stored, e)
