-- The state of a controller, its setup and its limits (document 01, "Controller end" and questions 20 and 21).
-- Assumes nothing.
use Rattle.std.specs.Prelude.{ℕ, ◌*◌, Bool, ◌&&◌, List, [], ◌∷◌, replicate, drop, ltb, leb, eqb, None}
use Rattle.answer.specs.Ask.{Question, reply}
use Rattle.answer.specs.Limits.{switch_count, most_controllers, most_undone}
use Rattle.lists.specs.Arrays.{every}
use Rattle.lists.specs.Rising.{rising_from}
use Rattle.flow.specs.Rules.{well_formed}
use Rattle.message.specs.Keys.{key_length}
use Rattle.playbook.specs.Books.{no_plans, store_of}
use Rattle.playbook.specs.Storing.{stored_ok}
use Rattle.playbook.specs.declared.Playbook.{Playbook}
use Rattle.controller.specs.Changes.{undone_empty, held_of, undone_of, numbers_of, is_undone}
use Rattle.controller.specs.declared.Controller.{Controller}
use Rattle.controller.specs.declared.Progress.{Progress}
use Rattle.controller.specs.declared.Reply.{Reply}
use Rattle.controller.specs.declared.Undone.{Undone}

-- an answer with the state as it went in, and nothing offered
abbrev pub unchanged : Controller → ℕ → Reply
unchanged c k = record { answer = k; offer = None; state = c }

-- a state with these moving parts, the rest as it is
abbrev pub progressed : Controller → Progress → Controller
progressed c p = record { id = c.id; n = c.n; playbook = c.playbook; progress = p }

-- n and the id in range
abbrev pub in_range : ℕ → ℕ → Bool
in_range id n = leb 1 n && leb n most_controllers && ltb id n

-- nothing acknowledged, decided, given or undone
abbrev pub no_progress : Progress
no_progress = record { acknowledged = replicate switch_count 0; serials = replicate switch_count 0; last = 0; undone = held_of [] }

-- a controller to which nothing has happened; all zero for id 0, no controllers and the empty playbook
abbrev pub fresh : ℕ → ℕ → Playbook → Controller
fresh id n p = record { id = id; n = n; playbook = p; progress = no_progress }

abbrev pub setup_of : ℕ → ℕ → Playbook → Reply
setup_of id n p =
    reply ((20, in_range id n) ∷ []) (unchanged (fresh 0 0 (store_of no_plans))) (unchanged (fresh id n p) 0)

-- an undone change: on a known switch, above its acknowledged number, at most the last given, its decision's first
-- number from 1 to its own, its rule well formed
abbrev pub undone_ok : List ℕ → ℕ → Undone → Bool
undone_ok acknowledged last u =
    ltb u.switch switch_count
    && is_undone acknowledged u
    && leb u.number last
    && leb 1 u.first
    && leb u.first u.number
    && well_formed u.rule

-- question 20: n and the id in range, no more undone changes than there is room for, each as above, by rising number, unused places zero,
-- and the playbook such as its reader stores
unfoldable pub controller_ok : Controller → Bool
controller_ok c =
    in_range c.id c.n
    && leb c.progress.undone.count most_undone
    && every (undone_ok c.progress.acknowledged c.progress.last) (undone_of c)
    && rising_from 0 (numbers_of (undone_of c))
    && every undone_empty (drop c.progress.undone.count c.progress.undone.changes)
    && stored_ok c.playbook

-- questions 20 and 21 of a state and the length of its key store, before every call that uses tags
abbrev pub state_questions : Controller → ℕ → List Question
state_questions c stored = (20, controller_ok c) ∷ (21, eqb stored (key_length * switch_count)) ∷ []
