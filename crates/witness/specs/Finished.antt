-- What it means that a list of decisions was brought to its end.
use Rattle.std.specs.Prelude.{◌≡◌, true, ℕ}
use mathlib.Core.List.{List, Memᴰ}
use Rattle.lists.specs.Kinds.{is_among}
use Rattle.controller.specs.declared.Undone.{Undone}
use Rattle.protocol.specs.Runs.{run}
use Rattle.domain.specs.Settings.{Decision, Setting, Keeps}
use Rattle.domain.specs.Calls.{Call, start, step}
use Rattle.domain.specs.Premises.{brought, Premises}
use Rattle.domain.specs.Claim.{changes_of, answered}

-- calls within the premises that bring exactly these decisions to every controller that keeps the rules, and after which
-- all their changes are made
pub record Finished (S : Setting) (ds : List Decision) (calls : List Call) : Type 0 where
  pub within : Premises S calls
  pub all_brought : (c : ℕ) → Keeps S c → brought c (run (step S) (start S) calls).log ≡ ds
  pub all_made : (u : Undone) → Memᴰ u (changes_of S ds)
      → is_among u.number (answered S (run (step S) (start S) calls)) ≡ true
