-- `gather` meets its contract: only the keys of the change's switch change. Assumes nothing.
use mathlib.Core.Path.{◌≡◌, refl, sym, ap, ap₂, ◌∙◌}
use mathlib.Core.Bool.{Bool, true, false}
use mathlib.Core.List.{List, [], map}
use Prim.Native.Nat.{ℕ, ◌<◌}
use native.Mathlib.Omega.{arith}
use borrow.Author.Rules.{rules}
use lib.ListN.{length, set, get_or}
use Rattle.std.proofs.lemmas.List.{map-set, set-get_or, get_or-map}
use Rattle.answer.specs.Ask.{pick}
use Rattle.lists.proofs.Stores.{length_mapped}
use Rattle.flow.specs.Rules.{Key, rule_key}
use Rattle.playbook.specs.Gathering.{with_key}
use Rattle.playbook.specs.Members.{members}
use Rattle.playbook.specs.declared.keys.Keys.{Keys}
use Rattle.playbook.proofs.reading.gather.Goals as goal

-- one stored over another, which may be the same
set_pick : (b : Bool) (sets : List (List Key)) (s : ℕ) (more : List Key)
    → set sets s (pick b more (get_or sets s [])) ≡ pick b (set sets s more) sets
set_pick true sets s more = refl
set_pick false sets s more = set-get_or sets s []

pub returns-clause-added : goal.returns-clause-added
returns-clause-added c =
    let keys : List Keys = c.args.keys.now in
    let s = c.args.change.now.switch in
    let sets : List (List Key) = map members keys in
    let k : Key = rule_key c.args.change.now.rule in
    let long : length keys ≡ 16 = search (rules, length_mapped) in
    let known : c.from.result < length keys = omega (arith, c.requires, c.from.ensures) in
    let own : members (get_or keys c.from.result c.index-keys-from.result) ≡ get_or sets s [] =
    sym (get_or-map members keys c.from.result c.index-keys-from.result [] known)
    ∙ ap (λ (i : ℕ). get_or sets i []) c.from.ensures in
    let added : members c.insert.new.self ≡ pick c.insert.result (with_key k (get_or sets s [])) (get_or sets s []) =
    c.insert.ensures.added
    ∙ ap₂ (λ (j : Key) (ms : List Key). pick c.insert.result (with_key j ms) ms) c.rule_key.ensures own in
    map-set members keys c.from.result c.insert.new.self
    ∙ ap (λ (i : ℕ). set sets i (members c.insert.new.self)) c.from.ensures
    ∙ ap (set sets s) added
    ∙ set_pick c.insert.result sets s (with_key k (get_or sets s []))
