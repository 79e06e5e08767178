-- The way of a packet over links, one turn at a time. Assumes nothing.
use mathlib.Core.Path.{◌≡◌, sym, ap, ◌∙◌}
use mathlib.Core.Bool.{◌&&◌}
use mathlib.Core.List.{List}
use Prim.Native.Nat.{ℕ, suc, ◌+◌, ◌-◌, ◌≤◌, ◌<◌}
use native.Mathlib.Omega.{arith}
use lib.Dec.{eqb}
use lib.ListN.{length, get_or, drop, drop_of_length-le}
use borrow.Author.Tests.{eq-eqb, ne_eqb}
use Rattle.answer.specs.Ask.{pick}
use Rattle.lists.proofs.Stores.{rest}
use Rattle.std.specs.Prelude.{Option, Some, None}
use Rattle.isolation.specs.Networks.{Link}
use Rattle.isolation.specs.Traces.{Step, foreign, over}
use Rattle.isolation.specs.Traces.{End, lost, crossed, circling, by_step, by_found, follow}
use Rattle.checker.specs.Layout.{links_in, behind_link}
use Rattle.checker.specs.declared.PortLink.{PortLink}

-- the links from a place on
module _ (client : ℕ) (links : List PortLink) (s p : ℕ) where
  abbrev pub over_from : ℕ → Step
  over_from i = over client (links_in (drop i links)) s p

  pub over_done : (i : ℕ) → length links ≤ i → over_from i ≡ foreign
  unfolding over
  over_done i l = ap (λ (ls : List PortLink). over client (links_in ls) s p) (drop_of_length-le links {i = i} l)

  over_next : (i : ℕ) (z : PortLink) → i < length links
      → over_from i
      ≡ pick (eqb (get_or links i z).switch s && eqb (get_or links i z).port p) (behind_link (get_or links i z) client)
      (over_from (i + 1))
  unfolding over
  over_next i z l = ap (λ (ls : List PortLink). over client (links_in ls) s p) (rest links i z l)

  module _ (i : ℕ) (z : PortLink) (l : i < length links) where
    pub over_here : (get_or links i z).switch ≡ s → (get_or links i z).port ≡ p
        → over_from i ≡ behind_link (get_or links i z) client
    over_here e f = over_next i z l ∙ rw (eq-eqb (get_or links i z).switch s e, eq-eqb (get_or links i z).port p f)

    pub over_other : ((get_or links i z).switch ≡ s → ⊥) → over_from i ≡ over_from (i + 1)
    over_other d = over_next i z l ∙ rw (ne_eqb (get_or links i z).switch s d)

    pub over_apart : (get_or links i z).switch ≡ s → ((get_or links i z).port ≡ p → ⊥) → over_from i ≡ over_from (i + 1)
    over_apart e d = over_next i z l ∙ rw (eq-eqb (get_or links i z).switch s e, ne_eqb (get_or links i z).port p d)

-- the way from a switch on, after so many hops
module _ (c : ℕ) (links : List Link) (find : ℕ → Option ℕ) where
  abbrev way_from : ℕ → ℕ → End
  way_from hops s = follow c links find (16 - hops) s

  module _ (hops s : ℕ) where
    pub way_done : 16 ≤ hops → way_from hops s ≡ circling
    unfolding follow
    way_done l = let e : 16 - hops ≡ 0 = omega arith in ap (λ (n : ℕ). follow c links find n s) e

    module _ (l : hops < 16) (f : Option ℕ) (here : f ≡ find s) where
      way_next : way_from hops s
          ≡ by_found f (lost s)
          (λ (q : ℕ). by_step (over c links s q) (crossed s q) (λ (t : ℕ). way_from (hops + 1) t))
      unfolding follow
      way_next =
          let e : 16 - hops ≡ suc (16 - (hops + 1)) = omega arith in
          ap (λ (n : ℕ). follow c links find n s) e
          ∙ ap (λ (f : Option ℕ). by_found f (lost s)
          (λ (q : ℕ). by_step (over c links s q) (crossed s q) (λ (t : ℕ). way_from (hops + 1) t)))
          (sym here)

    pub way-lost : hops < 16 → None ≡ find s → way_from hops s ≡ lost s
    way-lost l here = way_next l None here

    pub way_on : hops < 16 → (p : ℕ) → Some p ≡ find s → (o : Step) → o ≡ over c links s p
        → way_from hops s ≡ by_step o (crossed s p) (λ (t : ℕ). way_from (hops + 1) t)
    way_on l p here o e =
        way_next l (Some p) here
        ∙ ap (λ (r : Step). by_step r (crossed s p) (λ (t : ℕ). way_from (hops + 1) t)) (sym e)
