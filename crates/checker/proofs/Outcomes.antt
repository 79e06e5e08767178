-- What an outcome tells of the verdict behind it: one that is fine goes on with what is left, and another is passed on.
-- Assumes nothing.
use mathlib.Core.Path.{◌≡◌, ap}
use Prim.Native.Nat.{ℕ}
use Rattle.std.specs.Prelude.{Ok, Err}
use Rattle.isolation.specs.Check.{Verdict, fine, fails, undecided, and_then}
use Rattle.checker.specs.Checked.{outcome_of}
use Rattle.checker.specs.declared.Refusal.{Refusal}

pub goes_on : (v : Verdict) (left : ℕ) (next : ℕ → Verdict) → Ok left ≡ outcome_of v → and_then v next ≡ next left
goes_on (fine b) left next e = let same : b ≡ left = cc in ap next same
goes_on (fails f) left next e = cc
goes_on undecided left next e = cc

pub stops : (v : Verdict) (r : Refusal) (next : ℕ → Verdict) → Err r ≡ outcome_of v → Err r ≡ outcome_of (and_then v next)
stops (fine b) r next e = cc
stops (fails f) r next e = e
stops undecided r next e = e
