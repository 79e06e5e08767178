-- The world of a rehearsal (document 01, "Rehearsal program"): its keys, its ends and its places. Assumes nothing.
use Rattle.std.specs.Prelude.{ℕ, zero, suc, List, [], ◌∷◌, ◌++◌, length, take, replicate}
use Rattle.answer.specs.Limits.{switch_count, most_controllers}
use Rattle.lists.specs.Arrays.{pad}
use Rattle.message.specs.Keys.{key_of, joined}
use Rattle.message.specs.Layout.{share_length}
use Rattle.playbook.specs.declared.Playbook.{Playbook}
use Rattle.switch.specs.States as switch
use Rattle.controller.specs.States as controller
use Rattle.rehearsal.specs.Limits.{place_count}
use Rattle.rehearsal.specs.declared.Place.{Place}
use Rattle.rehearsal.specs.declared.Share.{Share}
use Rattle.rehearsal.specs.declared.World.{World}

-- the key store of switch s among n controllers, and that of controller c
abbrev pub switch_keys : ℕ → ℕ → List ℕ
switch_keys n s = joined (λ c. key_of c s) n

abbrev pub controller_keys : ℕ → List ℕ
controller_keys c = joined (key_of c) switch_count

-- the room that every share fits
abbrev pub longest_share : ℕ
longest_share = share_length

-- bytes stored in that room, and the bytes of a share
abbrev pub stored : List ℕ → Share
stored bytes = record { bytes = pad longest_share 0 bytes; length = length bytes }

abbrev pub bytes_of : Share → List ℕ
bytes_of s = take s.length s.bytes

-- a place with nothing in it: no kept share is for a switch past the last one
abbrev pub empty_place : Place
empty_place = record { switch = switch_count; share = stored [] }

-- the things with the first n numbers
unfoldable pub each : {A : Type 0} → (ℕ → A) → ℕ → List A
each f zero = []
each f (suc n) = each f n ++ f n ∷ []

-- all ends as their setups leave them, and all places empty; controllers n and above are refused setups, which no
-- record reaches
abbrev pub world_of : ℕ → Playbook → World
world_of n p = record {
  n = n;
  switches = each (λ s. (switch.setup_of s n).state) switch_count;
  controllers = each (λ c. (controller.setup_of c n p).state) most_controllers;
  places = replicate place_count empty_place;
}
