-- Which pair's key gives a share its tag: pair after pair.
use mathlib.Core.Path.{◌≡◌, ap₂, ◌∙◌}
use mathlib.Core.Bool.{Bool, true, false}
use mathlib.Core.List.{List}
use Prim.Native.Nat.{ℕ, suc, ◌+◌, ◌-◌, ◌/◌, ◌%◌, ◌≤◌, ◌<◌}
use native.Mathlib.Omega.{arith}
use lib.ListN.{take, drop}
use Rattle.tag.specs.Tags.{is_tag}
use Rattle.message.specs.Keys.{key_of}
use Rattle.message.specs.Layout.{share_body}
use Rattle.notation.specs.Pairs.{gives, giver_among}
use Rattle.notation.specs.declared.pairs.Pair.{Pair}
use Rattle.std.specs.Prelude.{Option, Some, None}

module _ (share : List ℕ) (i : ℕ) {body given : List ℕ} {b : Bool} (inside : i < 256)
    (front : body ≡ take share_body share) (behind : given ≡ drop share_body share)
    (tested : b ≡ is_tag (key_of (i / 16) (i % 16)) body given) where
  shown : b ≡ gives (i / 16) (i % 16) share
  shown = tested ∙ ap₂ (λ (l m : List ℕ). is_tag (key_of (i / 16) (i % 16)) l m) front behind

  left : 256 - i ≡ suc (256 - (i + 1))
  left = omega arith

  pub giver_here : b ≡ true
      → ◌≡◌ {A = Option Pair} (Some (record { controller = i / 16; switch = i % 16 })) (giver_among (256 - i) i share)
  unfolding giver_among
  giver_here e = rw (left, ← shown, e)

  pub giver_next : b ≡ false → giver_among (256 - i) i share ≡ giver_among (256 - (i + 1)) (i + 1) share
  unfolding giver_among
  giver_next e = rw (left, ← shown, e)

pub giver_end : (share : List ℕ) (i : ℕ) → 256 ≤ i → giver_among (256 - i) i share ≡ None
unfolding giver_among
giver_end share i h = let none : 256 - i ≡ 0 = omega arith in rw none
