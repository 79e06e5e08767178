-- `write` meets its contract: the branches answer questions 15, 25 and 26, and the part that is lent from the offset
-- comes back with the message in it.
use mathlib.Core.Path.{◌≡◌, sym, ap, ◌∙◌}
use mathlib.Core.Bool.{true, false}
use mathlib.Core.List.{List}
use Prim.Native.Nat.{ℕ, ◌+◌, ◌≤◌}
use native.Mathlib.Omega.{arith}
use borrow.Author.Tests.{leb-true, leb-false, le-leb, lt-leb}
use lib.ListN.{length, length-take, length-drop}
use Rattle.answer.proofs.Bools.{by_le}
use Rattle.lists.proofs.Frames.{part_back}
use Rattle.message.specs.Writing.{encode, length_of, is_message, port_said}
use Rattle.message.specs.declared.Message.{Message}
use Rattle.message.proofs.Lengths.{encode-length}
use Rattle.message.proofs.Written.{nothing_written, malformed_written, too_long_written, all_written}
use Rattle.message.proofs.writing.write.Goals as goal

-- a message has bytes, and a refusal none
some_bytes : (m : Message) {n : ℕ} → n ≡ length_of m → (n ≡ 0 → ⊥) → is_message m ≡ true
some_bytes m e h = by_le 1 (length_of m) (le-leb 1 (length_of m)) (λ l. absurd (h (omega (arith, e))))

no_bytes : (m : Message) {n : ℕ} → n ≡ length_of m → n ≡ 0 → is_message m ≡ false
no_bytes m e h = lt-leb 1 (length_of m) (omega (arith, e, h))

pub returns-then-not-port_said : goal.returns-then-not-port_said
returns-then-not-port_said c = let a = c.args in
    let unsaid = sym c.port_said.ensures ∙ c.if-not-port_said.true in
    sym (malformed_written a.key.now a.m a.frame.now a.at unsaid)

pub returns-then-not-fits : goal.returns-then-not-fits
returns-then-not-fits c =
    let said : port_said c.args.m ≡ true = sym c.port_said.ensures ∙ c.if-not-port_said.false in
    let a = c.args in
    let long = c.length_of-n in
    let over = sym c.fits.ensures ∙ c.if-not-fits.true in
    let past = rw long.ensures at (leb-false (a.at + long.result) (length a.frame.now) over) in
    sym (too_long_written a.key.now a.m a.frame.now a.at said past)

pub returns-then-n-eq0 : goal.returns-then-n-eq0
returns-then-n-eq0 c =
    let said : port_said c.args.m ≡ true = sym c.port_said.ensures ∙ c.if-not-port_said.false in
    let room : (let a = c.args in
    a.at + length_of a.m ≤ length a.frame.now) = let a = c.args in
    let long = c.length_of-n in
    let fits = sym c.fits.ensures ∙ c.if-not-fits.false in
    rw long.ensures at (leb-true (a.at + long.result) (length a.frame.now) fits) in
    let a = c.args in
    let none = no_bytes a.m c.length_of-n.ensures c.if-n-eq0.true in
    sym (nothing_written a.key.now a.m a.frame.now a.at said room none)

pub slice_bounds-put-count : goal.slice_bounds-put-count
slice_bounds-put-count c =
    let room : (let a = c.args in
    a.at + length_of a.m ≤ length a.frame.now) = let a = c.args in
    let long = c.length_of-n in
    let fits = sym c.fits.ensures ∙ c.if-not-fits.false in
    rw long.ensures at (leb-true (a.at + long.result) (length a.frame.now) fits) in
    omega (arith, room)

pub slice_bounds-put-start : goal.slice_bounds-put-start
slice_bounds-put-start c =
    let room : (let a = c.args in
    a.at + length_of a.m ≤ length a.frame.now) = let a = c.args in
    let long = c.length_of-n in
    let fits = sym c.fits.ensures ∙ c.if-not-fits.false in
    rw long.ensures at (leb-true (a.at + long.result) (length a.frame.now) fits) in
    omega (arith, room)

pub put-requires : goal.put-requires
put-requires c =
    let room : (let a = c.args in
    a.at + length_of a.m ≤ length a.frame.now) = let a = c.args in
    let long = c.length_of-n in
    let fits = sym c.fits.ensures ∙ c.if-not-fits.false in
    rw long.ensures at (leb-true (a.at + long.result) (length a.frame.now) fits) in
    simp (length-take, length-drop) (omega (arith, room))

pub returns : goal.returns
returns c =
    let said : port_said c.args.m ≡ true = sym c.port_said.ensures ∙ c.if-not-port_said.false in
    let room : (let a = c.args in
    a.at + length_of a.m ≤ length a.frame.now) = let a = c.args in
    let long = c.length_of-n in
    let fits = sym c.fits.ensures ∙ c.if-not-fits.false in
    rw long.ensures at (leb-true (a.at + long.result) (length a.frame.now) fits) in
    let a = c.args in
    let w = encode a.key.now a.m in
    let long = c.length_of-n.ensures in
    let fit : a.at + length w ≤ length a.frame.now = rw (encode-length a.key.now a.m) room in
    let back = part_back a.frame.now w a.at fit c.put.ensures in
    let some = some_bytes a.m long c.if-n-eq0.false in
    ap (λ (l : List ℕ). (0, l)) back
    ∙ sym (all_written a.key.now a.m a.frame.now a.at some said room)
