-- The bytes of a stored playbook, from which its reader gives it back. Each printer puts its bytes before those that
-- follow. Only laws speak of it; no contract cites it.
use Rattle.std.specs.Prelude.{◌≡◌, ℕ, ◌^◌, Bool, true, ◌&&◌, List, [], ◌∷◌, ◌++◌, ltb, take, drop}
use Rattle.lists.specs.Arrays.{every}
use Rattle.lists.specs.Bytes.{be}
use Rattle.flow.specs.Rules.{port_of}
use Rattle.playbook.specs.Limits.{plan_kind, change_kind, end_kind}
use Rattle.playbook.specs.Books.{book_of}
use Rattle.playbook.specs.declared.Change.{Change}
use Rattle.playbook.specs.declared.Plan.{Plan}
use Rattle.playbook.specs.declared.Playbook.{Playbook}

abbrev pub plan_bytes : Plan → List ℕ → List ℕ
plan_bytes q rest = plan_kind ∷ q.switch ∷ q.cause ∷ rest

abbrev pub change_bytes : Change → List ℕ → List ℕ
change_bytes c rest =
    change_kind ∷ c.flow ∷ c.switch
    ∷ be 4 c.rule.prefix ++ c.rule.length ∷ be 2 (port_of c.rule.action) ++ rest

unfoldable pub changes_bytes : List Change → List ℕ → List ℕ
changes_bytes [] rest = rest
changes_bytes (c ∷ cs) rest = change_bytes c (changes_bytes cs rest)

-- each plan with its changes
unfoldable pub plans_bytes : List Plan → List Change → List ℕ → List ℕ
plans_bytes [] cs rest = rest
plans_bytes (q ∷ qs) cs rest =
    plan_bytes q (changes_bytes (take q.count cs) (plans_bytes qs (drop q.count cs) rest))

-- all of them, then the end record
abbrev pub bytes_of : Playbook → List ℕ
bytes_of p = plans_bytes (book_of p).plans (book_of p).changes (end_kind ∷ [])

-- what the code's types say of a rule: a prefix of four bytes, and a port of two
abbrev pub rule_in_range : Change → Bool
rule_in_range c = ltb c.rule.prefix (256 ^ 4) && ltb (port_of c.rule.action) (256 ^ 2)

abbrev pub InRange : Playbook → Type 0
InRange p = every rule_in_range (book_of p).changes ≡ true
