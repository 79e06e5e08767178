-- The playbook's questions as the functions below `read_first` ask them: 30, 31 and 30 of the bytes that are left, then
-- those of a plan or of a change. No contract of a public function cites it; `one_list` (proofs/Apart.antt) says that
-- they are the questions of Reading.antt.
use Rattle.std.specs.Prelude.{ℕ, ◌-◌, not, List, [], ◌∷◌, ◌++◌, length, ltb, leb, Result, Ok, Err}
use Rattle.answer.specs.Ask.{Question, reply}
use Rattle.answer.specs.Limits.{switch_count}
use Rattle.lists.specs.Bytes.{byte_at}
use Rattle.flow.specs.Rules.{well_formed}
use Rattle.playbook.specs.Limits.{max_keys, plan_size, change_size, end_size}
use Rattle.playbook.specs.Books.{Book, Trigger, has_trigger, kinds_on, with_plan, with_change}
use Rattle.playbook.specs.Books.{plan_room, change_room}
use Rattle.playbook.specs.Records.{change_of, is_kind, by_kind, size_of}
use Rattle.playbook.specs.Reading.{refusal}
use Rattle.playbook.specs.declared.Change.{Change}
use Rattle.playbook.specs.declared.Outcome.{Outcome}
use Rattle.playbook.specs.declared.Playbook.{Playbook}
use Rattle.playbook.specs.declared.records.Record.{Record}
use Rattle.playbook.specs.declared.records.Record.TheVariants.{Opens, Lists, Ends}

abbrev pub record_of : ℕ → List ℕ → Record
record_of kind s = by_kind kind (Opens (byte_at s 1) (byte_at s 2)) (Lists (change_of s)) Ends

-- the record at the front of bytes: is a byte left, is its kind known, and is it whole?
unfoldable pub record_at : List ℕ → Result Record ℕ
record_at s =
    let kind = byte_at s 0 in
    reply ((30, ltb 0 (length s)) ∷ (31, is_kind kind) ∷ (30, leb (size_of kind) (length s)) ∷ []) Err
    (Ok (record_of kind s))

-- how many bytes a record has
abbrev pub bytes_of_record : Record → ℕ
bytes_of_record (Opens s c) = plan_size
bytes_of_record (Lists c) = change_size
bytes_of_record Ends = end_size

-- the questions of a plan and of a change, once their bytes are there
abbrev pub plan_questions : Book → Trigger → List Question
plan_questions b t =
    (12, ltb t.0 switch_count)
    ∷ (35, not (has_trigger t b.plans))
    ∷ (36, plan_room b)
    ∷ []

abbrev pub change_questions : Book → Change → List Question
change_questions b c =
    (12, ltb c.switch switch_count)
    ∷ (34, ltb 0 (length b.plans))
    ∷ (15, well_formed c.rule)
    ∷ (36, change_room b)
    ∷ (37, leb (kinds_on c.switch (b.changes ++ c ∷ [])) max_keys)
    ∷ []

-- what a record does: it is refused, or ends the playbook, or gives the next book with so many of its bytes to pass
abbrev pub follow : Result Record ℕ → Book → Outcome → (ℕ → Book → Outcome) → Outcome
follow (Err k) b end on = refusal k
follow (Ok Ends) b end on = end
follow (Ok (Opens s c)) b end on =
    reply (plan_questions b (s, c)) refusal (on (plan_size - 1) (with_plan b (s, c)))
follow (Ok (Lists c)) b end on =
    reply (change_questions b c) refusal (on (change_size - 1) (with_change b c))

-- a playbook and how many bytes it takes, or a refusal
abbrev pub outcome_of : Playbook → Result ℕ ℕ → Outcome
outcome_of p (Ok used) = record { answer = 0; used = used; playbook = p }
outcome_of p (Err k) = refusal k
