-- `Kind::try_from` meets its contract: another byte is none of the six.
use mathlib.Core.Path.{refl}
use native.Mathlib.Omega.{arith}
use borrow.Author.Tests.{ne_eqb}
use Rattle.rehearsal.specs.Records.{is_kind}
use Rattle.rehearsal.proofs.records.KindTryFromU8.try_from.Goals as goal

pub returns-in_default : goal.returns-in_default
unfolding is_kind
returns-in_default c = let b = c.args.byte in (
  rw (
    ne_eqb b 33 (λ e. omega arith),
    ne_eqb b 34 (λ e. omega arith),
    ne_eqb b 35 (λ e. omega arith),
    ne_eqb b 36 (λ e. omega arith),
    ne_eqb b 37 (λ e. omega arith),
    ne_eqb b 38 (λ e. omega arith),
  ),
  refl,
)
