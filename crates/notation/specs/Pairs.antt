-- The tag that a pair's key gives a share in a rehearsal, and the pair whose key gives a share the tag that it has.
use Rattle.std.specs.Prelude.{ℕ, zero, suc, ◌+◌, ◌*◌, ◌/◌, ◌%◌, Bool, List, Option, Some, None, take, drop}
use Rattle.answer.specs.Ask.{pick}
use Rattle.answer.specs.Limits.{switch_count, most_controllers}
use Rattle.tag.specs.Tags.{tag_of, is_tag}
use Rattle.message.specs.Keys.{key_of}
use Rattle.message.specs.Layout.{share_body}
use Rattle.notation.specs.declared.pairs.Pair.{Pair}

-- the tag that the key of a pair gives a share of which this is all before the tag
abbrev pub tag_by : ℕ → ℕ → List ℕ → List ℕ
tag_by controller switch body = tag_of (key_of controller switch) body

-- whether the key of a pair gives a share the tag that it has
abbrev pub gives : ℕ → ℕ → List ℕ → Bool
gives controller switch share = is_tag (key_of controller switch) (take share_body share) (drop share_body share)

-- the first whose key gives the tag among so many pairs from the i-th on, sixteen switches to a controller
unfoldable pub giver_among : ℕ → ℕ → List ℕ → Option Pair
giver_among zero i share = None
giver_among (suc n) i share =
    pick (gives (i / switch_count) (i % switch_count) share) (Some (record { controller = i / switch_count; switch = i % switch_count }))
    (giver_among n (i + 1) share)

-- the first pair, by controller and then by switch, whose key gives a share the tag that it has
abbrev pub giver_of : List ℕ → Option Pair
giver_of share = giver_among (most_controllers * switch_count) 0 share
