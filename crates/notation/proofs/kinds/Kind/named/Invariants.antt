-- `named` meets its contract: none of the kinds so far has the word as its name.
use Rattle.std.proofs.Common.{◌≡◌, drop}
use Rattle.notation.specs.Kinds.{records}
use Rattle.notation.specs.Names.{named_in, kind_named}
use Rattle.notation.proofs.kinds.Kind.named.Given as goal

abbrev pub invariant-loop-kind : goal.invariant-loop-kind
invariant-loop-kind l = kind_named l.word ≡ named_in (drop l.kind-index records) l.word
