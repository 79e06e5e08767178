-- A count of places, and one past them.
use mathlib.Core.Path.{◌≡◌}
use Prim.Native.Nat.{ℕ, ◌≤◌, ◌<◌}
use borrow.Author.Tests.{le-leb, lt-leb}
use Rattle.checker.specs.Layout.{capped}

pub capped-few : (n : ℕ) → n ≤ 256 → capped n ≡ n
capped-few n h = rw (le-leb n 256 h)

pub capped_many : (n : ℕ) → 256 < n → capped n ≡ 256
capped_many n h = rw (lt-leb n 256 h)
