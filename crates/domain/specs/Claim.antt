-- Demand 3, one claim about runs. Its first half holds after every run; its second half says what full rounds make.
-- Assumes nothing.
use Rattle.std.specs.Prelude.{◌≡◌, true, not, ℕ, ◌<◌, ltb, eqb}
use mathlib.Core.List.{List, [], ◌∷◌, ◌++◌, map, Memᴰ}
use Rattle.answer.specs.Ask.{pick}
use Rattle.answer.specs.Limits.{switch_count}
use Rattle.lists.specs.Counts.{count, passing}
use Rattle.lists.specs.Kinds.{is_among}
use Rattle.message.specs.Reading.{decode}
use Rattle.message.specs.declared.End.TheVariants as ends
use Rattle.message.specs.declared.Message.TheVariants.{Share}
use Rattle.switch.specs.Calls.{number_in}
use Rattle.switch.specs.Calls as switch-calls
use Rattle.controller.specs.declared.Undone.{Undone}
use Rattle.protocol.specs.Orders.{falling}
use Rattle.protocol.specs.Runs.{run, Rounds}
use Rattle.domain.specs.Settings.{Decision, Setting, playbook, Keeps}
use Rattle.domain.specs.Calls.{Call, at_switch, at_controller, Done, Run, start, step}
use Rattle.domain.specs.Premises.{brought, Premises}
use Rattle.domain.specs.Agreement.{agreed_changes}
use Rattle.domain.specs.Ideals.{fed}
use Rattle.domain.specs.Rounds.{Round}

-- a share answered 1: its switch, and the number in it
pub record Made : Type 0 where
  pub switch : ℕ
  pub number : ℕ

abbrev pub made_by : ℕ → Call → List Made
made_by answer (at_switch s x) =
    pick (eqb answer 1) (map (λ (k : ℕ). record { switch = s; number = k }) (number_in x)) []
made_by answer (at_controller c x) = []

-- all of these in a run, the latest first; their numbers, and the numbers made at one switch
unfoldable pub made : List Done → List Made
made [] = []
made (d ∷ log) = made_by d.answer d.call ++ made log

abbrev pub numbers : List Made → List ℕ
numbers ms = map (λ (m : Made). m.number) ms

abbrev pub numbers_at : ℕ → List Made → List ℕ
numbers_at s ms = numbers (passing (λ m. eqb m.switch s) ms)

-- the highest of some numbers, or 0
unfoldable pub highest : List ℕ → ℕ
highest [] = 0
highest (k ∷ ks) = pick (ltb (highest ks) k) k (highest ks)

-- the bytes of a share for switch s carry an agreed change: its number, its switch and its rule
pub record Carries (changes : List Undone) (s : ℕ) (bytes : List ℕ) : Type 0 where
  pub controller : ℕ
  pub change : Undone
  pub agreed : Memᴰ change changes
  pub on : change.switch ≡ s
  pub share : decode ends.Switch bytes ≡ Share controller s change.number change.rule

module _ (S : Setting) where
  -- the agreed changes of some decisions, and of the whole agreed list
  abbrev pub changes_of : List Decision → List Undone
  changes_of ds = agreed_changes (playbook S) ds

  abbrev pub agreed : List Undone
  agreed = changes_of S.agreed

  -- the numbers in the shares answered 1, the latest first
  abbrev pub answered : Run → List ℕ
  answered r = numbers (made r.log)

  -- after a run
  pub record Safe (r : Run) : Type 0 where
    -- each share answered 1 carries the agreed change of its number
    pub carried : (s : ℕ) (bytes written : List ℕ)
        → Memᴰ (record { call = at_switch s (switch-calls.receives bytes); answer = 1; written = written }) r.log
        → Carries agreed s bytes
    -- fed their numbers, in order of answer or by rising number, the ideal controller refuses none
    pub in_order : (fed agreed (answered r)).refused ≡ []
    pub by_number : (fed agreed (falling (answered r))).refused ≡ []
    -- all flow tables equal the ideal ones
    pub tables : (s : ℕ) → s < switch_count → (r.switches s).table ≡ (fed agreed (answered r)).tables s
    pub tables_by_number : (s : ℕ) → s < switch_count → (r.switches s).table ≡ (fed agreed (falling (answered r))).tables s
    -- each last applied number is the highest made there, or 0
    pub lasts : (s : ℕ) → s < switch_count → (r.switches s).last ≡ highest (numbers_at s (made r.log))

  -- how many of some changes are unmade
  abbrev pub unmade : List Undone → Run → ℕ
  unmade us r = count (λ u. not (is_among u.number (answered r))) us

  -- each controller that keeps the rules was brought at least these decisions, and some perhaps more; by the premises
  -- they are a beginning of the agreed list
  abbrev pub AllBrought : List Decision → Run → Type 0
  AllBrought ds r = (c : ℕ) → Keeps S c → (more : List Decision) × (brought c r.log ≡ ds ++ more)

  -- as many full rounds as changes of these decisions are unmade, with any calls within, between and after them, make
  -- all of these
  abbrev pub RoundsMake : List Decision → List Call → List Call → Type 0
  RoundsMake ds before rest =
      Rounds (step S) (Round S) (unmade (changes_of ds) (run (step S) (start S) before))
      (run (step S) (start S) before) rest
      → (u : Undone) → Memᴰ u (changes_of ds)
      → is_among u.number (answered (run (step S) (start S) (before ++ rest))) ≡ true

  pub record Demand3 : Type 0 where
    pub safe : (calls : List Call) → Premises S calls → Safe (run (step S) (start S) calls)
    -- once all were brought the decisions ds, full rounds make the changes of these
    pub live : (before rest : List Call) → Premises S (before ++ rest) → (ds : List Decision)
        → AllBrought ds (run (step S) (start S) before) → RoundsMake ds before rest
