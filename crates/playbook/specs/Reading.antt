-- Reading a playbook record after record (document 01, the playbook's questions).
use Rattle.std.specs.Prelude.{ℕ, zero, suc, ◌+◌, ◌-◌, true, not, List, [], ◌∷◌, ◌++◌, length, ltb, leb, eqb}
use Rattle.answer.specs.Ask.{Question, pick, reply}
use Rattle.answer.specs.Limits.{switch_count}
use Rattle.lists.specs.Bytes.{byte_at}
use Rattle.flow.specs.Rules.{well_formed}
use Rattle.playbook.specs.Limits.{max_keys, plan_size, change_size, end_size}
use Rattle.playbook.specs.Books.{Book, no_plans, store_of, has_trigger, kinds_on, with_plan, with_change}
use Rattle.playbook.specs.Books.{plan_room, change_room}
use Rattle.playbook.specs.Records.{trigger_at, change_of, is_kind, by_kind, size_of}
use Rattle.playbook.specs.declared.Outcome.{Outcome}

-- document 01's questions of the record at the front of bytes, in its order, where b was read before; from 12 on: for a
-- plan, for a change, for an end record. 36 and 37 ask what would be after the record; 38 is asked by `whole`
abbrev pub playbook_questions : Book → List ℕ → List Question
playbook_questions b s =
    let kind = byte_at s 0 in
    let t = trigger_at s in
    let c = change_of s in
    (30, ltb 0 (length s))
    ∷ (31, is_kind kind)
    ∷ (30, leb (size_of kind) (length s))
    ∷ (12, by_kind kind (ltb t.0 switch_count) (ltb c.switch switch_count) true)
    ∷ (34, by_kind kind true (ltb 0 (length b.plans)) true)
    ∷ (15, by_kind kind true (well_formed c.rule) true)
    ∷ (35, by_kind kind (not (has_trigger t b.plans)) true true)
    ∷ (36, by_kind kind (plan_room b) (change_room b) true)
    ∷ (37, by_kind kind true (leb (kinds_on c.switch (b.changes ++ c ∷ [])) max_keys) true)
    ∷ []

-- a refused playbook: an empty store
abbrev pub refusal : ℕ → Outcome
refusal k = record { answer = k; used = 0; playbook = store_of no_plans }

abbrev pub finished : ℕ → Book → Outcome
finished used b = record { answer = 0; used = used; playbook = store_of b }

-- byte after byte: `skip` bytes of the record at hand are still to pass, `used` are behind, and b is what was read;
-- with no byte left the first question's answer is no
unfoldable pub read_from : ℕ → List ℕ → ℕ → Book → Outcome
read_from skip [] used b = refusal 30
read_from (suc skip) (x ∷ xs) used b = read_from skip xs (used + 1) b
read_from zero (x ∷ xs) used b =
    let s = x ∷ xs in
    reply (playbook_questions b s) refusal
    (by_kind x (read_from (plan_size - 1) xs (used + 1) (with_plan b (trigger_at s)))
    (read_from (change_size - 1) xs (used + 1) (with_change b (change_of s))) (finished (used + end_size) b))

-- the playbook at the front of bytes, up to its end record
abbrev pub read_first : List ℕ → Outcome
read_first s = read_from 0 s 0 no_plans

-- the playbook that all the bytes are: after the end record, nothing is left
abbrev pub whole : ℕ → Outcome → Outcome
whole n r = pick (eqb r.answer 0) (reply ((38, eqb r.used n) ∷ []) refusal r) r

abbrev pub read_whole : List ℕ → Outcome
read_whole s = whole (length s) (read_first s)
