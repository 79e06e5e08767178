-- What is told, and its lines: with nobody's shares dropped a record does what document 01 says, and the lines of the
-- deeds are those of the rehearsal.
use mathlib.Core.Path.{◌≡◌, refl, sym, ap, ◌∙◌}
use mathlib.Core.Bool.{true, false}
use mathlib.Core.List.{List, [], ◌∷◌}
use Prim.Native.Nat.{ℕ, zero, suc, ◌+◌, ◌-◌, ◌≤◌, ◌<◌}
use native.Mathlib.Omega.{arith}
use borrow.Author.Tests.{leb-true, eq-eqb, ne_eqb}
use lib.ListN.{length, take, drop, get_or, set, replicate, length-take, length-drop}
use lib.Seq.{take_all}
use Rattle.std.specs.Prelude.{None, Result, Ok, Err}
use Rattle.answer.specs.Ask.{Question, reply}
use Rattle.answer.proofs.Asked.{reply_ap}
use Rattle.lists.specs.Arrays.{pad}
use Rattle.lists.proofs.Padding.{pad_none, pad-length, pad-take, pad_snoc, pad-step}
use Rattle.playbook.specs.Books.{no_plans, store_of}
use Rattle.switch.specs.declared.Switch.{Switch}
use Rattle.controller.specs.declared.Controller.{Controller}
use Rattle.rehearsal.specs.Worlds.{world_of}
use Rattle.rehearsal.specs.Records.{size_of, record_at}
use Rattle.rehearsal.specs.Steps.{delivered, by_switch, sent, carried_out}
use Rattle.rehearsal.specs.Effects.{place_of, record_questions, with_ends, switch_of, carried_in, world_after}
use Rattle.rehearsal.specs.Scripts.{line_of, next_lines, lines_from, script_in, world_in, lines_of}
use Rattle.rehearsal.specs.Storing.{no_line, lines_stored}
use Rattle.rehearsal.specs.Deeds.{share_in, drops, arrived, carried_but, plain_deed, broken_deed, begun_deed, moved_in}
use Rattle.rehearsal.specs.Deeds.{Tale, next_deeds, deeds_from, told_by, told_of}
use Rattle.rehearsal.specs.Deeds.{deed_lines, lines_told}
use Rattle.rehearsal.specs.declared.Deed.{Deed}
use Rattle.rehearsal.specs.declared.Kind.{Kind}
use Rattle.rehearsal.specs.declared.Kind.TheVariants.{Decide, Send, Report, Raw, Keep, Deliver}
use Rattle.rehearsal.specs.declared.Line.{Line}
use Rattle.rehearsal.specs.declared.Moved.{Moved}
use Rattle.rehearsal.specs.declared.Place.{Place}
use Rattle.rehearsal.specs.declared.Record.{Record}
use Rattle.rehearsal.specs.declared.Told.{Told}
use Rattle.rehearsal.specs.declared.World.{World}
use Rattle.rehearsal.proofs.Inputs.{beside}
use Rattle.rehearsal.proofs.Room.{lines_few}
use Rattle.rehearsal.proofs.Shares.{stored_bytes}

-- where nobody's shares are dropped, a record with its share does what it does
pub nobody_dropped : (c : Controller) (s : Switch) (p : Place) (n : ℕ) (kind : Kind) (r : Record) (bytes : List ℕ)
    → length bytes ≤ size_of kind
    → carried_but None c s p n kind r (share_in c p kind r bytes) ≡ carried_out c s p n kind r bytes
unfolding carried_but share_in arrived drops carried_out sent reply
nobody_dropped c s p n Decide r bytes h = refl
nobody_dropped c s p n Send r bytes h = refl
nobody_dropped c s p n Report r bytes h = refl
nobody_dropped c s p n Raw r bytes h =
    ap (λ (b : List ℕ). by_switch c s p (delivered n s r.switch b))
    (stored_bytes (drop 2 bytes) (omega (arith, length-drop 2 bytes)))
nobody_dropped c s p n Keep r bytes h = refl
nobody_dropped c s p n Deliver r bytes h = refl

moved_same : (w : World) (r : Record) (b : List ℕ)
    → moved_in None w r (take (size_of r.kind) b) ≡ carried_in w r (take (size_of r.kind) b)
moved_same w r b =
    nobody_dropped _ _ (place_of w r) w.n r.kind r (take (size_of r.kind) b)
    (omega (arith, length-take (size_of r.kind) b))

-- two replies to the same questions
both_reply : {A : Type 0} (qs : List Question) (f g : ℕ → A) (x y : A) → ((q : ℕ) → f q ≡ g q) → x ≡ y
    → reply qs f x ≡ reply qs g y
unfolding reply
both_reply [] f g x y same e = e
both_reply ((k, true) ∷ qs) f g x y same e = both_reply qs f g x y same e
both_reply ((k, false) ∷ qs) f g x y same e = same k

-- the lines of what stands at the front of a script
next-same : (w : World) (k : ℕ) (r : Result Record ℕ) (b : List ℕ) (on : ℕ → World → List Line) (tells : ℕ → World → Tale)
    → ((skip : ℕ) (next : World) → on skip next ≡ deed_lines (k + 1) (tells skip next).0)
    → next_lines w k r b on ≡ deed_lines k (next_deeds None w r b tells).0
unfolding deed_lines plain_deed begun_deed
next-same w k (Err q) b on tells same = refl
next-same w k (Ok r) b on tells same =
    let bytes = take (size_of r.kind) b in
    let skip = size_of r.kind - 1 in
    let moved = moved_same w r b in
    let qs = record_questions w.n r (place_of w r) in
    let told : (m : Moved) → m ≡ carried_in w r bytes
    → line_of k (carried_in w r bytes).answer (carried_in w r bytes).figure ∷ on skip (world_after w r bytes)
    ≡ line_of k m.answer m.figure
    ∷ deed_lines (k + 1)
    (tells skip (with_ends w r.controller (switch_of r.kind r (place_of w r)) r.place m)).0 =
    λ m e. rw e (ap (λ (ls : List Line). line_of k (carried_in w r bytes).answer (carried_in w r bytes).figure ∷ ls)
    (same skip (world_after w r bytes))) in
    both_reply qs _ _ _ _
    (λ q. ap (λ (ls : List Line). line_of k q 0 ∷ ls) (same skip w))
    (told (moved_in None w r bytes) moved)
    ∙ sym (reply_ap (λ (t : Tale). deed_lines k t.0) qs _ _)

pub deeds_same : (skip : ℕ) (s : List ℕ) (k : ℕ) (w : World)
    → lines_from skip s k w ≡ deed_lines k (deeds_from None skip s w).0
unfolding lines_from deeds_from deed_lines
deeds_same skip [] k w = refl
deeds_same (suc skip) (x ∷ s) k w = deeds_same skip s k w
deeds_same zero (x ∷ s) k w =
    next-same w k (record_at (x ∷ s)) (x ∷ s) (λ skip next. lines_from skip s (k + 1) next)
    (λ skip next. deeds_from None skip s next) (λ skip next. deeds_same skip s (k + 1) next)

-- a line for each deed
deed_lines_lem : (k : ℕ) (xs : List Deed) → length (deed_lines k xs) ≡ length xs
unfolding deed_lines
deed_lines_lem k [] = refl
deed_lines_lem k (x ∷ xs) = ap suc (deed_lines_lem (k + 1) xs)

line_at : (k : ℕ) (xs : List Deed) (i : ℕ) (x : Deed) (z : Line) → i < length xs
    → get_or (deed_lines k xs) i z ≡ line_of (i + k) (get_or xs i x).answer (get_or xs i x).figure
unfolding deed_lines
line_at k [] i x z h = absurd (omega arith)
line_at k (y ∷ xs) zero x z h =
    let e : k ≡ 0 + k = omega arith in
    ap (λ (j : ℕ). line_of j y.answer y.figure) e
line_at k (y ∷ xs) (suc i) x z h =
    let e : i + (k + 1) ≡ suc i + k = omega arith in
    line_at (k + 1) xs i x z (omega arith)
    ∙ ap (λ (j : ℕ). line_of j (get_or xs i x).answer (get_or xs i x).figure) e

few_deeds : (s : List ℕ) (w : World) → length s ≤ 8192 → length (deeds_from None 0 s w).0 ≤ 4096
few_deeds s w h =
    let n = sym (deed_lines_lem 1 (deeds_from None 0 s w).0) ∙ ap length (sym (deeds_same 0 s 1 w)) in
    omega (arith, lines_few 0 s 1 w)

-- what is told of an input, beside its lines
lines_of_deeds : (s : List ℕ) (w : World) → length s ≤ 8192
    → lines_told (told_by 0 (deeds_from None 0 s w)) ≡ lines_from 0 s 1 w
unfolding lines_told
lines_of_deeds s w h =
    let ds = (deeds_from None 0 s w).0 in
    ap (deed_lines 1) (pad-take 4096 (broken_deed 0) ds (few_deeds s w h)) ∙ sym (deeds_same 0 s 1 w)

pub told_lines : (input : List ℕ) → lines_told (told_of None input) ≡ lines_of input
unfolding told_of lines_of lines_told
told_lines input =
    beside (λ (t : Told) (ls : List Line). lines_told t ≡ ls) input _ _ _ _ (λ k other. rw (ne_eqb k 0 other))
    (λ some few short.
    lines_of_deeds (script_in input) (world_in input) (leb-true (length (script_in input)) 8192 short))

-- the two cases of what is told: a refused input and no deed, or the script's deeds, which have room, and the world
-- after the last
pub told_cases : {C : Type 0} (input : List ℕ)
    → ((q : ℕ) → (q ≡ 0 → ⊥) → told_of None input ≡ told_by q ([], world_of 0 (store_of no_plans)) → C)
    → (told_of None input ≡ told_by 0 (deeds_from None 0 (script_in input) (world_in input))
    → length (deeds_from None 0 (script_in input) (world_in input)).0 ≤ 4096 → C)
    → C
unfolding told_of
told_cases {C} input =
    let script = script_in input in
    let world = world_in input in
    beside
    (λ (t : Told) (k : ℕ). ((q : ℕ) → (q ≡ 0 → ⊥) → t ≡ told_by q ([], world_of 0 (store_of no_plans)) → C)
    → (t ≡ told_by 0 (deeds_from None 0 script world) → length (deeds_from None 0 script world).0 ≤ 4096 → C) → C)
    input _ _ (λ k. k) 0 (λ k other refuses tells. refuses k other refl)
    (λ some few short refuses tells. tells refl (few_deeds script world (leb-true (length script) 8192 short)))

-- there is a place for each deed
pub told_room : (input : List ℕ) {t : Told} → t ≡ told_of None input
    → (t.count ≤ 4096) × (t.count ≤ length t.deeds)
told_room input e =
    rw e
    (told_cases input (λ q other is. rw is (omega arith, omega arith))
    (λ is fits.
    let deeds = (deeds_from None 0 (script_in input) (world_in input)).0 in
    rw is (fits, omega (arith, pad-length 4096 (broken_deed 0) deeds))))

-- the lines of a fault, and of deeds
pub fault_lines : (t : Told) → (t.answer ≡ 0 → ⊥) → lines_told t ≡ line_of 0 t.answer 0 ∷ []
unfolding lines_told
fault_lines t other = rw (ne_eqb t.answer 0 other)

pub script_lines : (t : Told) → t.answer ≡ 0 → lines_told t ≡ deed_lines 1 (take t.count t.deeds)
unfolding lines_told
script_lines t e = rw (eq-eqb t.answer 0 e)

-- the loop that makes the lines of deeds: the first i stand in their places
module _ (deeds : List Deed) where
  abbrev lines : List Line
  lines = deed_lines 1 deeds

  abbrev pub LinesBefore : ℕ → List Line → Type 0
  LinesBefore i places = places ≡ pad 4096 no_line (take i lines)

  pub first_line : {places : List Line} → places ≡ replicate 4096 no_line → LinesBefore 0 places
  first_line none = none ∙ sym (pad_none 4096 no_line)

  module _ (i : ℕ) {places : List Line} (before : LinesBefore i places) where
    pub next_line : i < length deeds → (x : Deed) {l : Line}
        → l ≡ line_of (i + 1) (get_or deeds i x).answer (get_or deeds i x).figure
        → LinesBefore (i + 1) (set places i l)
    next_line h x {l} says =
        let is : l ≡ get_or lines i no_line = says ∙ sym (line_at 1 deeds i x no_line h) in
        rw (before, is) (pad-step 4096 no_line lines i no_line (omega (arith, deed_lines_lem 1 deeds)))

    pub last_line : length deeds ≤ i → {n : ℕ} → n ≡ length deeds
        → record { places = places; count = n } ≡ lines_stored lines
    last_line h {n} e =
        let size : length lines ≡ n = deed_lines_lem 1 deeds ∙ sym e in
        let whole : take i lines ≡ lines = take_all i lines (omega arith) in
        rw (size, ← whole, ← before)

-- the one line of a fault
pub one_line : (q : ℕ) {places : List Line} → places ≡ replicate 4096 no_line
    → record { places = set places 0 (line_of 0 q 0); count = 1 } ≡ lines_stored (line_of 0 q 0 ∷ [])
one_line q none =
    ap (λ (p : List Line). record { places = set p 0 (line_of 0 q 0); count = 1 }) (none ∙ sym (pad_none 4096 no_line))
    ∙ ap (λ (p : List Line). record { places = p; count = 1 }) (pad_snoc 4096 no_line [] (line_of 0 q 0))
