-- How much a rehearsal prints: at most so many lines and bytes.
use mathlib.Core.Path.{◌≡◌, refl, ap, ◌∙◌}
use mathlib.Core.Bool.{Bool, true, false}
use mathlib.Core.List.{List, [], ◌∷◌, ◌++◌}
use Prim.Native.Nat.{ℕ, zero, suc, ◌+◌, ◌-◌, ◌*◌, ◌≤◌}
use native.Mathlib.Omega.{arith}
use borrow.Author.Tests.{leb-true, le-leb}
use lib.Dec.{leb}
use lib.ListN.{length, take, drop}
use Rattle.std.specs.Prelude.{Result, Ok, Err}
use Rattle.answer.specs.Ask.{reply}
use Rattle.answer.proofs.Asked.{reply-keeps, none_asked, refused, asked}
use Rattle.answer.proofs.Bools.{by_bool}
use Rattle.lists.proofs.Padding.{pad-take}
use Rattle.rehearsal.specs.Limits.{most_printed}
use Rattle.rehearsal.specs.Lines.{text, printed}
use Rattle.rehearsal.specs.Storing.{lines_in}
use Rattle.rehearsal.specs.Worlds.{world_of}
use Rattle.rehearsal.specs.Records.{size_of, record_at}
use Rattle.rehearsal.specs.Effects.{place_of, record_questions, world_after}
use Rattle.rehearsal.specs.Scripts.{next_lines, lines_from}
use Rattle.rehearsal.specs.Scripts.{controllers_in, book_in, script_in, lines_of, rehearsed}
use Rattle.rehearsal.specs.Storing.{no_line, lines_stored}
use Rattle.rehearsal.specs.declared.Line.{Line}
use Rattle.rehearsal.specs.declared.Printed.{Printed}
use Rattle.rehearsal.specs.declared.Record.{Record}
use Rattle.rehearsal.specs.declared.World.{World}
use Rattle.rehearsal.proofs.Texts.{text_short}
use Rattle.rehearsal.proofs.Turns.{Whole, whole, two_or_more}

-- lines that so many bytes can have: no record is shorter than two
abbrev Few : ℕ → List Line → Type 0
Few n ls = 2 * length ls ≤ n + 1

next-few : (w : World) (k : ℕ) (r : Result Record ℕ) (b : List ℕ) (on : ℕ → World → List Line) → 1 ≤ length b → Whole b r
    → ((skip : ℕ) (next : World) → Few (length b - 1 - skip) (on skip next)) → Few (length b) (next_lines w k r b on)
next-few w k (Err q) b on some fits few = omega arith
next-few w k (Ok r) b on some fits few =
    let two = two_or_more r.kind in
    reply-keeps (Few (length b)) (record_questions w.n r (place_of w r)) _ _
    (λ q. omega (arith, few (size_of r.kind - 1) w)) (λ pass.
    omega (arith, few (size_of r.kind - 1) (world_after w r (take (size_of r.kind) b))))

pub lines_few : (skip : ℕ) (s : List ℕ) (k : ℕ) (w : World) → Few (length s - skip) (lines_from skip s k w)
unfolding lines_from
lines_few skip [] k w = omega arith
lines_few (suc skip) (x ∷ s) k w = omega (arith, lines_few skip s k w)
lines_few zero (x ∷ s) k w =
    let all : length {A = ℕ} (x ∷ s) - 0 ≡ length {A = ℕ} (x ∷ s) = omega arith in
    rw all
    (next-few w k (record_at (x ∷ s)) (x ∷ s) (λ skip next. lines_from skip s (k + 1) next) (omega arith) (whole (x ∷ s))
    (λ skip next. omega (arith, lines_few skip s (k + 1) next)))

-- what holds of every refusal, and of what follows where the last of four answers is yes
fourth : {A : Type 0} (P : A → Type 0) (refusal : ℕ → A) (next : A) (a b c d : ℕ) (p q r s : Bool)
    → ((k : ℕ) → P (refusal k)) → (s ≡ true → P next) → P (reply ((a, p) ∷ (b, q) ∷ (c, r) ∷ (d, s) ∷ []) refusal next)
unfolding reply
fourth P refusal next a b c d false q r s refuses passes = refuses a
fourth P refusal next a b c d true false r s refuses passes = refuses b
fourth P refusal next a b c d true true false s refuses passes = refuses c
fourth P refusal next a b c d true true true false refuses passes = refuses d
fourth P refusal next a b c d true true true true refuses passes = passes refl

pub few_lines : (input : List ℕ) → length (lines_of input) ≤ 4096
unfolding lines_of
few_lines input =
    fourth (λ (ls : List Line). length ls ≤ 4096) _ _ _ _ _ _ _ _ _ (leb (length (script_in input)) 8192)
    (λ q. omega arith)
    (λ short.
    let world = world_of (controllers_in input) (book_in input).playbook in
    omega (arith, lines_few 0 (script_in input) 1 world, leb-true (length (script_in input)) 8192 short))

-- the lines that are stored
pub meaning_stored : (ls : List Line) → length ls ≤ 4096 → lines_in (lines_stored ls) ≡ ls
meaning_stored ls few = pad-take 4096 no_line ls few

-- so an output with that room is long enough for every input
pub room_for_all : (input : List ℕ) → length (text (lines_of input)) ≤ most_printed
room_for_all input = omega (arith, text_short (lines_of input), few_lines input)

-- what is printed stands within its output, and in one of that length it stands whole
pub printed-within : (bytes out : List ℕ) → (printed bytes out).0.length ≤ length out
unfolding printed
printed-within bytes out =
    by_bool (leb (length bytes) (length out))
    (λ fits.
    let e : (printed bytes out).0.length ≡ length bytes =
    ap (λ (r : Printed × List ℕ). r.0.length) (asked _ _ 25 _ _ fits ∙ none_asked _ _) in
    omega (arith, leb-true (length bytes) (length out) fits))
    (λ short.
    let e : (printed bytes out).0.length ≡ 0 =
    ap (λ (r : Printed × List ℕ). r.0.length) (refused _ _ 25 _ _ short) in
    omega arith)

pub printed-whole : (input out : List ℕ) → most_printed ≤ length out
    → rehearsed input out
    ≡ (
      record { answer = 0; length = length (text (lines_of input)) },
      text (lines_of input) ++ drop (length (text (lines_of input))) out,
    )
unfolding printed
printed-whole input out long =
    asked _ _ 25 _ _ (le-leb (length (text (lines_of input))) (length out) (omega (arith, room_for_all input)))
    ∙ none_asked _ _
