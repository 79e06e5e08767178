-- The way from the entry ends as the one from the switch held does, over the hops that are left.
use Rattle.std.specs.Prelude.{Option}
use mathlib.Core.Path.{◌≡◌}
use mathlib.Core.Bool.{Bool}
use mathlib.Core.List.{List}
use Prim.Native.Nat.{ℕ, ◌-◌}
use lib.ListN.{length}
use Rattle.isolation.specs.Traces as traces
use Rattle.isolation.specs.Check.{covering, finds_after}
use Rattle.checker.specs.Layout.{changes_in, links_in}
use Rattle.checker.specs.Marks.{made_in}
use Rattle.checker.specs.declared.AgreedChange.{AgreedChange}
use Rattle.checker.proofs.ways.follow.Given as goal

-- what each switch finds
abbrev pub finding : List AgreedChange → List Bool → ℕ → ℕ → Option ℕ
finding laid marks address s =
    finds_after (changes_in laid) (covering (changes_in laid) address) (made_in marks (length laid)) s

abbrev pub invariant-loop-hop : goal.invariant-loop-hop
invariant-loop-hop l =
    traces.follow l.line.client (links_in l.links) (finding l.changes l.marks l.address) 16 l.line.entry
    ≡ traces.follow l.line.client (links_in l.links) (finding l.changes l.marks l.address) (16 - l._hop) l.switch
