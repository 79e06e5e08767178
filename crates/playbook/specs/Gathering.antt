-- What the functions below `stored` and `read_first` keep beside a store: a flag for each trigger, and the different
-- keys of each switch in the order in which they came. No contract of a public function cites it.
use Rattle.std.specs.Prelude.{◌≡◌, ℕ, ◌+◌, ◌*◌, ◌%◌, ◌<◌, Bool, false, List, [], ◌∷◌, ◌++◌, length, get_or}
use Rattle.answer.specs.Ask.{pick}
use Rattle.answer.specs.Limits.{switch_count}
use Rattle.lists.specs.Kinds.{among, kinds}
use Rattle.flow.specs.Rules.{Key, same_key}
use Rattle.playbook.specs.Books.{Trigger, has_trigger, keys_on}
use Rattle.playbook.specs.declared.Change.{Change}
use Rattle.playbook.specs.declared.Plan.{Plan}

-- a flag for each switch and cause, and its place
abbrev pub trigger_count : ℕ
trigger_count = 4096

abbrev pub place_of : Trigger → ℕ
place_of t = t.0 * 256 + t.1

-- the flags that are set are those of the plans' triggers
pub record Marked (used : List Bool) (qs : List Plan) : Type 0 where
  pub full : length used ≡ trigger_count
  pub each : (t : Trigger) → t.0 < switch_count → t.1 < 256 → get_or used (place_of t) false ≡ has_trigger t qs

-- a number by which keys are told apart at first
abbrev pub mark_of : Key → ℕ
mark_of k = (k.0 * 256 + k.1) % 251

-- different keys with one more, which may be one of them
abbrev pub with_key : Key → List Key → List Key
with_key k ms = pick (among same_key k ms) ms (ms ++ k ∷ [])

-- these are the different ones of some keys
pub record Gathered (ms ks : List Key) : Type 0 where
  pub counted : length ms ≡ kinds same_key ks
  pub members : (k : Key) → among same_key k ms ≡ among same_key k ks

-- and these, for each switch, the different ones of the keys that changes have on it
pub record Collected (sets : List (List Key)) (cs : List Change) : Type 0 where
  pub switches : length sets ≡ switch_count
  pub each : (s : ℕ) → s < switch_count → Gathered (get_or sets s []) (keys_on s cs)
