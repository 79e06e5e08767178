-- The keys that a set of them holds.
use Rattle.std.specs.Prelude.{List, take}
use Rattle.flow.specs.Rules.{Key}
use Rattle.playbook.specs.declared.keys.Keys.{Keys}

abbrev pub members : Keys → List Key
members s = take s.count s.held
