-- `begin` meets its contract: each branch answers a question of the input, and what was read of it stays known.
use mathlib.Core.Path.{◌≡◌, sym, ◌∙◌}
use mathlib.Core.Bool.{Bool, true, false, ◌&&◌}
use Prim.Native.Nat.{ℕ, ◌≤◌, ◌<◌}
use native.Mathlib.Omega.{arith}
use borrow.Author.Tests.{le-leb, lt-leb, eqb-false}
use lib.Dec.{leb, eqb}
use Rattle.std.proofs.lemmas.Bool.{eqb-true}
use Rattle.rehearsal.proofs.Inputs.{no_input, wrong_n, bad_book, used_within, long_script, begins}
use Rattle.rehearsal.proofs.begins.begin.Goals as goal
use Rattle.rehearsal.proofs.begins.begin.Goals.{then-n-lt1-via-then-n-lt1, then-n-lt1-via-else-n-lt1+then-n-gt-CONTROLLERS}

-- an input with bytes
some : {test : Bool} {long : ℕ} → test ≡ eqb long 0 → test ≡ false → 0 < long
some is other = omega (arith, eqb-false _ 0 (sym is ∙ other))

-- a number of controllers
n_good : (n : ℕ) → 1 ≤ n → n ≤ 16 → (leb 1 n && leb n 16) ≡ true
n_good n low high = rw (le-leb 1 n low, le-leb n 16 high)

pub returns-then-is_empty : goal.returns-then-is_empty
returns-then-is_empty c =
    no_input c.args.input.now (omega (arith, eqb-true _ 0 (sym c.is_empty.ensures ∙ c.if-is_empty.true)))

pub returns-then-n-lt1 : goal.returns-then-n-lt1
returns-then-n-lt1 c =
    wrong_n c.args.input.now (some c.is_empty.ensures c.if-is_empty.false)
    (elim c.then-n-lt1.branch [
      | then-n-lt1-via-then-n-lt1 w ↦ rw (lt-leb 1 _ w.if-n-lt1.true)
      | then-n-lt1-via-else-n-lt1+then-n-gt-CONTROLLERS w ↦
          rw (le-leb 1 _ w.if-n-lt1.false, lt-leb _ 16 w.if-n-gt-CONTROLLERS.true)
    ])

pub returns-then-book-ne-DONE : goal.returns-then-book-ne-DONE
returns-then-book-ne-DONE c =
    bad_book c.args.input.now (some c.is_empty.ensures c.if-is_empty.false)
    (n_good _ c.if-n-lt1.false c.if-n-gt-CONTROLLERS.false) c.read_first-book.result c.read_first-book.ensures
    c.if-book-ne-DONE.true

pub overflow_sub-rest : goal.overflow_sub-rest
overflow_sub-rest c =
    used_within c.args.input.now (some c.is_empty.ensures c.if-is_empty.false)
    (n_good _ c.if-n-lt1.false c.if-n-gt-CONTROLLERS.false) c.read_first-book.result c.read_first-book.ensures

pub returns-then-rest-book-gt-SCRIPT : goal.returns-then-rest-book-gt-SCRIPT
returns-then-rest-book-gt-SCRIPT c =
    long_script c.args.input.now (some c.is_empty.ensures c.if-is_empty.false)
    (n_good _ c.if-n-lt1.false c.if-n-gt-CONTROLLERS.false) c.read_first-book.result c.read_first-book.ensures
    (omega arith) c.if-rest-book-gt-SCRIPT.true

pub overflow_add-result : goal.overflow_add-result
overflow_add-result c =
    let within =
    used_within c.args.input.now (some c.is_empty.ensures c.if-is_empty.false)
    (n_good _ c.if-n-lt1.false c.if-n-gt-CONTROLLERS.false) c.read_first-book.result c.read_first-book.ensures in
    omega (arith, within)

pub returns : goal.returns
returns c =
    begins c.args.input.now (some c.is_empty.ensures c.if-is_empty.false)
    (n_good _ c.if-n-lt1.false c.if-n-gt-CONTROLLERS.false) c.read_first-book.result c.read_first-book.ensures
    (omega arith) (omega arith) c.new.ensures
